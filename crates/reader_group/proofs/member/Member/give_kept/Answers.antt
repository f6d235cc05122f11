use Rattle.std.proofs.Common.{refl, sym, subst}
use Rattle.frame_codec.specs.declared.frame.Frame.{Frame}
use Rattle.frame_codec.specs.Words.{IsFrameOf}
use Rattle.dataset_reader.specs.declared.reader.Reader.{Reader}
use Rattle.dataset_reader.specs.Reader.{IsReaderOf}
use Rattle.reader_group.specs.Members.{seat_of}
use Rattle.reader_group.proofs.Giving.{given_is, outcome_is}
use Rattle.reader_group.proofs.member.Member.give_kept.Goals as goal

pub returns-clause-member : goal.returns-clause-member
returns-clause-member c = λ part member h.
    let seat = seat_of part c.args.meta.now in
    let took = c.frame-took in (
      given_is seat c.args.receipt.now member c.args.self.now.frame c.args.self.now took.new.self c.note.new.self took.result c.carries_short.ensures h
          took.ensures.kept took.ensures.took (λ value is. c.note.ensures.member seat value is) took.ensures.passed took.ensures.numbering,
      outcome_is seat c.args.receipt.now member c.args.self.now.frame c.args.self.now took.result _ c.carries_short.ensures h took.ensures.took refl,
    )

pub returns-clause-reader : goal.returns-clause-reader
returns-clause-reader c = record {
  reader = subst (λ (r : Reader). IsReaderOf c.args.meta.now r) (sym c.note.ensures.reader) c.frame-took.ensures.reader;
  frame = subst (λ (f : Frame). IsFrameOf c.args.meta.now f) (sym c.note.ensures.frame) c.requires.frame;
}
