-- The tokens and the passes of a cell that is being made.
use Rattle.std.specs.Prelude.{◌≡◌, ℕ, ◌<◌, ◌+◌, List, [], length, Option, Some, slice_index_or}
use Rattle.atomic_table.specs.Seated.{TableId}
use Rattle.atomic_table.specs.declared.shared.Seat.{Seat}
use Rattle.crossbeam_utils.specs.Seq.{cell_view}
use Rattle.crossbeam_utils.specs.declared.atomic.seq_cell.Doing.{Doing}
use Rattle.version_cell.specs.declared.rule.View.{View}
use Rattle.version_cell.specs.Views.{fresh}
use Rattle.version_cell.specs.Known.{Known}

abbrev pub IsFresh : TableId → List ℕ → Option ℕ → ℕ → Seat (List ℕ) (Doing (List ℕ) View) → Type 0
IsFresh cell terms author count p = (p.table_id ≡ cell) × (cell_view p ≡ fresh author count terms)

-- the tokens of the first numbers
abbrev pub AreFresh : TableId → List ℕ → List (Seat (List ℕ) (Doing (List ℕ) View)) → Type 0
AreFresh cell terms places =
    (t : ℕ) (none : Seat (List ℕ) (Doing (List ℕ) View)) → t < length places → IsFresh cell terms (Some t) (t + 1) (slice_index_or places t none)

abbrev pub new_known : TableId → List ℕ → Option ℕ → Known
new_known cell terms author = record { cell = cell; terms = terms; seen = []; author = author }

-- the passes of the first numbers
abbrev pub AreNew : TableId → List ℕ → List Known → Type 0
AreNew cell terms passes = (t : ℕ) (none : Known) → t < length passes → slice_index_or passes t none ≡ new_known cell terms (Some t)
