use Rattle.std.proofs.Common.{◌≡◌, ℕ, ◌<◌, [], length, map, take}
use Rattle.std.specs.Prelude.{All, Some, None, slice_index_or}
use Rattle.version_cell.specs.Cells.{IsCell}
use Rattle.version_cell.specs.Sets.{new_passes}
use Rattle.cell_bank.proofs.bank.Bank.new.Given as goal

abbrev pub invariant-loop-set : goal.invariant-loop-set
invariant-loop-set g l = record {
  cells : All IsCell l.cells.items;
  metas : map (λ cell. cell.meta) l.cells.items ≡ take l.set l.metas;
  quotas : map (λ cell. cell.quotas) l.cells.items ≡ take l.set l.quotas;
  first : l.items.items ≡ new_passes l.cells.items None;
  eight : length l.hands.items ≡ 8;
  each : (t : ℕ) → t < 8 → slice_index_or l.hands.items t [] ≡ new_passes l.cells.items (Some t);
}
