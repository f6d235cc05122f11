use Rattle.std.proofs.Common.{sym}
use Rattle.frame_codec.specs.Reading.{frame_at}
use Rattle.frame_codec.specs.Words.{frame_in}
use Rattle.reader_group.specs.Members.{seat_of}
use Rattle.reader_group.proofs.Giving.{read_follows, refused_follows}
use Rattle.reader_group.proofs.member.Member.message.Goals as goal

pub returns-in-Ok-clause-case : goal.returns-in-Ok-clause-case
returns-in-Ok-clause-case c = λ part member h.
    let meta = c.args.meta.now in
    let seat = seat_of part meta in
    read_follows seat c.args.receipt.now member (frame_in meta.fields c.read.new.self.frame) c.args.bytes.now (frame_at meta c.args.bytes.now) c.give_kept.new.self c.give_kept.result (sym c.in-Ok.ensures.answer)
    (c.give_kept.ensures.member part member (c.in-Ok.ensures.member seat member h))

pub returns-in-Err-clause-case : goal.returns-in-Err-clause-case
returns-in-Err-clause-case c = λ part member h.
    let meta = c.args.meta.now in
    let seat = seat_of part meta in
    refused_follows seat c.args.receipt.now member _ c.args.bytes.now (frame_at meta c.args.bytes.now) c.read.new.self _ (sym c.in-Err.ensures.answer) (c.in-Err.ensures.member seat member h) c.bad_frame.ensures
