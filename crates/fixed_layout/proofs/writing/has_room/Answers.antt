use Rattle.std.proofs.Common.{arith}
use Rattle.std.proofs.lemmas.Bool.Decides.{nat_tests}
use Rattle.fixed_layout.proofs.Sizes.{small_size}
use Rattle.fixed_layout.proofs.writing.has_room.Goals as goal

pub returns-then-room-ge-MAX_SIZE : goal.returns-then-room-ge-MAX_SIZE
returns-then-room-ge-MAX_SIZE c =
    let small = small_size c.args.meta.now.fields c.fields.ensures.meta in
    (λ _. omega (arith, small), λ _. grind (arith, nat_tests))
