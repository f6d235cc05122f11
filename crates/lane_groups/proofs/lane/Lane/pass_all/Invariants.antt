use Rattle.std.proofs.Common.{◌≡◌}
use Rattle.lane_groups.specs.Passing.{HavePassed}
use Rattle.lane_groups.proofs.lane.Lane.pass_all.Given as goal

abbrev pub invariant-loop-g : goal.invariant-loop-g
invariant-loop-g l = record {
  keygroup : l.self.keygroup ≡ l.fn.self.keygroup;
  passed : HavePassed l.told l.g l.fn.self.keygroup l.fn.self.places.items l.self.places.items l.fn.self.sender l.self.sender;
}
