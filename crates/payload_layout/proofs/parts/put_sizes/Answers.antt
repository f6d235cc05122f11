use Rattle.std.proofs.Common.{take, arith}
use Rattle.std.proofs.lemmas.List.{length-take-le}
use Rattle.ua_binary.proofs.Laying.{Puts-then}
use Rattle.payload_layout.proofs.Laid.{length-sizes, sizes-more}
use Rattle.payload_layout.proofs.parts.put_sizes.Goals as goal

pub put_u16-requires : goal.put_u16-requires
put_u16-requires c =
    let front = take c.loop-size.size-index c.args.sizes.now in
    omega (arith, length-sizes front, length-take-le c.loop-size.size-index c.args.sizes.now (omega arith), c.loop-size.invariant.moved, c.loop-size.invariant.same_length, c.requires)

pub loop-size-preserved : goal.loop-size-preserved
loop-size-preserved c =
    rw (sizes-more c.args.sizes.now c.loop-size.size-index c.loop-size-test.true) (Puts-then c.args.pen.now c.loop-size.pen c.put_u16.new.self _ _ c.loop-size.invariant c.put_u16.ensures)
