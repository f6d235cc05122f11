use Rattle.std.proofs.Common.{◌≡◌, length, take}
use Rattle.std.specs.Prelude.{All}
use Rattle.std.specs.List.{AllZip, range_with_len}
use Rattle.device.specs.Sides.{IsOpeningSide, IsSide}
use Rattle.device.proofs.making.sides_of.Given as goal

abbrev pub invariant-loop-g : goal.invariant-loop-g
invariant-loop-g l = record {
  sides : All (IsSide l.config) l.sides.items;
  opening : AllZip (IsOpeningSide l.config) (take l.g (range_with_len 0 (length l.config.group))) l.sides.items;
  count : length l.sides.items ≡ l.g;
}
