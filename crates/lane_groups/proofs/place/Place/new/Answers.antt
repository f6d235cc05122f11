use Rattle.writer_group.specs.Parts.{group_at, no_group}
use Rattle.writer_group.specs.Standing.{metas_for}
use Rattle.lane_groups.proofs.place.Place.new.Goals as goal

pub returns : goal.returns
returns c =
    let config = c.args.config.now in
    let e = c.in_ok-group.ensures in
    record {
      place_is = record { index = e.index; made = e.made no_group; logs = e.keeps; reserved = c.in_ok-out.ensures.reserved };
      past = e.stands no_group (metas_for (group_at config c.args.g) config.dataset);
      goes_on = e.goes_on no_group (metas_for (group_at config c.args.g) config.dataset);
    }
