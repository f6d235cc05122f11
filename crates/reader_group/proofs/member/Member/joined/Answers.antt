use Rattle.std.proofs.Common.{ℕ, List, sym, ap, ◌∙◌}
use Rattle.frame_codec.specs.Reading.{frame_at}
use Rattle.frame_codec.specs.Words.{frame_in}
use Rattle.chunker.specs.Joining.{joined_bytes}
use Rattle.reader_group.specs.Members.{seat_of}
use Rattle.reader_group.specs.Notices.{bad_frame}
use Rattle.reader_group.proofs.Giving.{read_follows, refused_follows}
use Rattle.reader_group.proofs.member.Member.joined.Goals as goal

pub returns-in-Ok-clause-case : goal.returns-in-Ok-clause-case
returns-in-Ok-clause-case c = λ part member h.
    let meta = c.args.meta.now in
    let seat = seat_of part meta in
    read_follows seat c.args.receipt.now member (frame_in meta.fields c.read_joined.new.self.frame) (joined_bytes member.joining) (frame_at meta (joined_bytes member.joining)) c.give_kept.new.self c.give_kept.result (sym (c.in-Ok.ensures.answer member.joining h.joining))
    (c.give_kept.ensures.member part member (c.in-Ok.ensures.member seat member h))

pub returns-in-Err-clause-case : goal.returns-in-Err-clause-case
returns-in-Err-clause-case c = λ part member h.
    let meta = c.args.meta.now in
    let seat = seat_of part meta in
    refused_follows seat c.args.receipt.now member _ (joined_bytes member.joining) (frame_at meta (joined_bytes member.joining)) c.read_joined.new.self _ (sym (c.in-Err.ensures.answer member.joining h.joining)) (c.in-Err.ensures.member seat member h)
    (c.bad_frame.ensures ∙ ap (λ (bytes : List ℕ). bad_frame meta bytes c.in-Err.fault) (c.bytes.ensures member.joining (c.in-Err.ensures.member seat member h).joining))
