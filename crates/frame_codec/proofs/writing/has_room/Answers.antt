use Rattle.std.proofs.Common.{arith}
use Rattle.std.proofs.lemmas.Bool.Decides.{nat_tests}
use Rattle.frame_codec.proofs.Lengths.{words_short}
use Rattle.frame_codec.proofs.writing.has_room.Goals as goal

pub returns-then-room-ge-MAX_LEN-clause-room : goal.returns-then-room-ge-MAX_LEN-clause-room
returns-then-room-ge-MAX_LEN-clause-room c =
    let short = words_short c.args.meta.now c.args.frame.now c.fields.ensures.meta c.requires in
    (λ _. omega (arith, short), λ _. grind (arith, nat_tests))

pub returns-then-room-ge-MAX_LEN-clause-short : goal.returns-then-room-ge-MAX_LEN-clause-short
returns-then-room-ge-MAX_LEN-clause-short c = words_short c.args.meta.now c.args.frame.now c.fields.ensures.meta c.requires

pub returns-else-room-ge-MAX_LEN-clause-short : goal.returns-else-room-ge-MAX_LEN-clause-short
returns-else-room-ge-MAX_LEN-clause-short c = words_short c.args.meta.now c.args.frame.now c.fields.ensures.meta c.requires
