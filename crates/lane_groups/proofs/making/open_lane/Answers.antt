use Rattle.lane_groups.proofs.NewLanes.{open-lane}
use Rattle.lane_groups.proofs.making.open_lane.Goals as goal

pub returns : goal.returns
returns c = open-lane c.args.config.now c.args.turns c.args.index _ c.in_ok-places.ensures c.requires.unsecured
