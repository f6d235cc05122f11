use Rattle.std.proofs.Common.{refl, sym, ◌∙◌}
use Rattle.uadp_header.specs.Layout.{header_at}
use Rattle.reader_group.proofs.Unread.{had-unread}
use Rattle.reader_group.proofs.group.ReaderGroup.refuse.Goals as goal

pub returns-clause-refused : goal.returns-clause-refused
returns-clause-refused c =
    let bytes = c.args.bytes.now in
    record {
      had = λ now on.
          had-unread c.args.config.now c.args.self.now _ c.part_at-part.result.now c.args.number bytes c.in-Some.refusal (header_at bytes) c.requires.made c.part_at-part.ensures
          (record { guard = refl; pair = refl; members = refl; notices = refl }) refl (sym (c.refusal_of.ensures bytes c.requires.read) ∙ c.in-Some.is) now on;
      kept = c.note_read.ensures bytes c.requires.read;
    }
