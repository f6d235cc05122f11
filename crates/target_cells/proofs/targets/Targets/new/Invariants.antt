use Rattle.std.proofs.Common.{◌≡◌, map, take, All, Some, None}
use Rattle.version_cell.specs.Cells.{IsCell}
use Rattle.version_cell.specs.Sets.{new_passes}
use Rattle.target_cells.specs.Keeping.{keeper_quotas, metas_of}
use Rattle.target_cells.proofs.targets.Targets.new.Given as goal

abbrev pub invariant-loop-k : goal.invariant-loop-k
invariant-loop-k g l = record {
  metas : map (λ cell. cell.meta) l.cells.items ≡ metas_of l.metas (take l.k l.readers);
  cells : All IsCell l.cells.items;
  quotas : All (λ cell. cell.quotas ≡ keeper_quotas l.limit) l.cells.items;
  stores : l.stores.items ≡ new_passes l.cells.items (Some 0);
  looks : l.looks.items ≡ new_passes l.cells.items None;
}
