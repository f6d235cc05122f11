use Rattle.std.proofs.Common.{take}
use Rattle.std.specs.List.{AllZip}
use Rattle.device.specs.Sides.{IsConfiguredRing}
use Rattle.device.proofs.making.rings_of.Given as goal

abbrev pub invariant-loop-keygroup : goal.invariant-loop-keygroup
invariant-loop-keygroup l = record {
  opening : AllZip IsConfiguredRing (take l.keygroup-index l.keygroups) l.rings.items;
}
