use Rattle.std.specs.Option.{option_copied}
use Rattle.writer_group.proofs.ReadyTurns.{may-turn, in-order}
use Rattle.writer_group.proofs.group.Group.may_tick.Goals as goal

pub returns : goal.returns
returns c =
    let config = c.args.config.now in
    let rows = c.args.rows.now in
    let on = c.args.on.now in
    let sender = option_copied c.args.sender in
    let group = c.args.self.now in
    let part = c.part_of.result.now in (
      λ h. may-turn config rows on sender group part c.requires.good c.requires.keeps_to c.requires.rows c.part_of.ensures (c.is_in_order.ensures.0 h),
      λ may. c.is_in_order.ensures.1 (in-order config rows on sender group part c.requires.keeps_to c.part_of.ensures may),
    )
