use Rattle.std.proofs.Common.{◌≡◌, length, take}
use Rattle.std.specs.Prelude.{All}
use Rattle.std.specs.List.{AllZip, range_with_len}
use Rattle.device.specs.Sides.{IsListening, IsOpeningListening}
use Rattle.device.proofs.making.listenings_of.Given as goal

abbrev pub invariant-loop-g : goal.invariant-loop-g
invariant-loop-g l = record {
  groups : All (IsListening l.config) l.groups.items;
  opening : AllZip (IsOpeningListening l.config) (take l.g (range_with_len 0 (length l.config.readgroup))) l.groups.items;
  count : length l.groups.items ≡ l.g;
}
