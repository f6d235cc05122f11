use Rattle.std.proofs.Common.{◌≡◌, ◌≤◌, take}
use Rattle.std.specs.Prelude.{vec_capacity}
use Rattle.writer_group.specs.Planning.{loads_from}
use Rattle.writer_group.proofs.PackLoads.{counted}
use Rattle.writer_group.proofs.planning.plan_dynamic.Given as goal

abbrev pub invariant-loop-index : goal.invariant-loop-index
invariant-loop-index l = record {
  pushed : l.loads.items ≡ loads_from l.rooms.chunk l.sizes 0 (take l.index l.packs.items);
  first_is : l.first ≡ counted (take l.index l.packs.items);
  capacity : vec_capacity l.fn.loads ≤ vec_capacity l.loads;
}
