use Rattle.std.proofs.Common.{◌+◌, ◌<◌, ◌≤◌, get_or, sym, ◌∙◌, arith}
use Rattle.payload_layout.proofs.Filled.{filled-joined, filled-next, packed-more}
use Rattle.payload_layout.proofs.packing.plan.Goals as goal
use Rattle.payload_layout.proofs.packing.plan.Goals.{then-takes, else-takes}

pub loop-size-preserved : goal.loop-size-preserved
loop-size-preserved c =
    let i = c.loop-size.size-index in
    let size = get_or c.in-Some.rest.now i 0 in
    let more = packed-more c.args.room i c.in-Some.first.now c.args.sizes.now c.in-Some.rest.now c.in-Some.ensures.cases.0 c.loop-size-test.true in
    let few : i + 1 ≤ 16 = omega (arith, c.in-Some.ensures.cases.1, c.requires, c.loop-size-test.true) in
    elim c.if-takes.branch [
      | then-takes w ↦
          let range : size < 65536 = omega (arith, w.take.ensures.small, w.take.ensures.bytes) in
          rw (w.packs-is, w.last-is, more) (filled-joined c.args.room (i + 1) size _ _ c.loop-size.last w.take.new.self few c.loop-size.invariant range (sym c.takes.ensures ∙ w.if-takes.true) w.take.ensures.count w.take.ensures.chunked w.take.ensures.bytes)
      | else-takes w ↦
          let range : size < 65536 = omega (arith, w.alone-last-else-takes.ensures.small, w.alone-last-else-takes.ensures.bytes) in
          rw (w.packs-is, w.last-is, w.push.ensures.items, more)
          (filled-next c.args.room (i + 1) size _ _ c.loop-size.last w.alone-last-else-takes.result few c.loop-size.invariant range (sym c.takes.ensures ∙ w.if-takes.false) w.alone-last-else-takes.ensures.count w.alone-last-else-takes.ensures.chunked w.alone-last-else-takes.ensures.bytes)
    ]
