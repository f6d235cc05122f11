-- What the words of a cell and their tokens are, whatever their width.
use Rattle.std.specs.Prelude.{◌≡◌, ℕ, List}
use Rattle.atomic_table.specs.Seated.{TableId}
use Rattle.atomic_table.specs.declared.shared.Seat.{Seat}
use Rattle.crossbeam_utils.specs.declared.atomic.seq_cell.Doing.{Doing}
use Rattle.version_cell.specs.declared.rule.View.{View}
use Rattle.version_cell.specs.declared.strip.Strip.{Strip}
use Rattle.version_cell.specs.declared.strip.Strip.TheVariants as strip
use Rattle.version_cell.specs.declared.strip.Seats.{Seats}
use Rattle.version_cell.specs.declared.strip.Seats.TheVariants as seats

-- the name of the words
abbrev pub table_of : Strip → TableId
table_of (strip.Narrow words) = words.table.shared.table_id
table_of (strip.Short words) = words.table.shared.table_id
table_of (strip.Long words) = words.table.shared.table_id
table_of (strip.Whole words) = words.table.shared.table_id

abbrev pub seat_in : Seats → Seat (List ℕ) (Doing (List ℕ) View)
seat_in (seats.Narrow seat) = seat
seat_in (seats.Short seat) = seat
seat_in (seats.Long seat) = seat
seat_in (seats.Whole seat) = seat

-- its table has a word for the lock, and these
abbrev pub IsOfWidth : Seats → Type 0
IsOfWidth (seats.Narrow seat) = seat.table_id.words ≡ 35
IsOfWidth (seats.Short seat) = seat.table_id.words ≡ 59
IsOfWidth (seats.Long seat) = seat.table_id.words ≡ 107
IsOfWidth (seats.Whole seat) = seat.table_id.words ≡ 152
