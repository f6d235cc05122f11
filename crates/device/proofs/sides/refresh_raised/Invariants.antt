use Rattle.std.specs.Prelude.{All}
use Rattle.device.specs.Raising.{IsRefreshedBy}
use Rattle.device.specs.Sides.{IsSide}
use Rattle.device.proofs.Firsts.{FirstBecome}
use Rattle.device.proofs.sides.refresh_raised.Given as goal

abbrev pub invariant-loop-g : goal.invariant-loop-g
invariant-loop-g l = record {
  sides : All (IsSide l.config) l.sides;
  each : FirstBecome (IsRefreshedBy l.config l.raised) l.g l.fn.sides l.sides;
}
