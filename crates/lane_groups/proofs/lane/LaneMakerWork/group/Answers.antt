use Rattle.std.proofs.Common.{sym, ap}
use Rattle.group_threads.specs.Pairs.{Pair}
use Rattle.lane_groups.proofs.lane.LaneMakerWork.group.Goals as goal

pub returns : goal.returns
returns c = sym (ap (λ (p : Pair). p.group) c.find-g.ensures.is)
