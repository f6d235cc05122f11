use Rattle.std.proofs.Common.{rules, arith}
use Rattle.std.proofs.lemmas.Grind.{common_steps}
use Rattle.ps_report.proofs.Groups.{readers_left, readers_room}
use Rattle.ps_report.proofs.printing.put_read_groups.Goals as goal

pub split_at-requires : goal.split_at-requires
split_at-requires c =
    let room = readers_room c.args.sets.now c.args.parts.now c.loop-i.rest.now c.loop-i.i c.index-parts-i.result (omega arith) c.index-parts-i.is c.loop-i.invariant.1 in
    rw c.as_slice-own.ensures room

pub put_readers-requires : goal.put_readers-requires
put_readers-requires c =
    let left = readers_left c.args.sets.now c.args.parts.now c.loop-i.rest.now c.loop-i.i c.index-parts-i.result (omega arith) c.index-parts-i.is c.loop-i.invariant.1 in
    rw (c.split_at.ensures.front, c.as_slice-own.ensures) left.0

pub loop-i-preserved : goal.loop-i-preserved
loop-i-preserved c =
    let left = readers_left c.args.sets.now c.args.parts.now c.loop-i.rest.now c.loop-i.i c.index-parts-i.result (omega arith) c.index-parts-i.is c.loop-i.invariant.1 in (
      first_of (search rules, grind (arith, common_steps)),
      rw (c.split_at.ensures.back, c.as_slice-own.ensures) left.1,
    )
