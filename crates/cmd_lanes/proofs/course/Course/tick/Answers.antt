use Rattle.std.proofs.Common.{◌+◌, refl, ◌∙◌}
use Rattle.cmd_lanes.proofs.course.Course.tick.Goals as goal

pub returns : goal.returns
returns c = record {
  turn = record { now = c.args.self.now.now + c.args.ms; rows = c.in_ok-rows.rows; closing = c.args.closing };
  turns = c.in_ok-push.ensures.items;
  now_is = refl;
  rows_are = c.in_ok-rows.ensures.items_if_clones_equal (λ x y is. is) ∙ c.as_slice.ensures.value;
  closing_is = refl;
  moment = refl;
  rows = refl;
}
