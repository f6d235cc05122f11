-- What a contract sees of a pass: the cell's name and terms, the entries that it has seen, and its number.
use Rattle.std.specs.Prelude.{ℕ, List, [], Option, None}
use Rattle.atomic_table.specs.Seated.{TableId}
use Rattle.version_cell.specs.declared.rule.Entry.{Entry}

pub record Known : Type 0 where
  pub cell : TableId
  pub terms : List ℕ
  pub seen : List Entry
  pub author : Option ℕ

abbrev pub no_table : TableId
no_table = record { words = 0; slots = 0; views_name = 0; atom = 0; block = 0; offset = 0; slot_names = [] }

-- stands where a list of passes has none
abbrev pub nothing : Known
nothing = record { cell = no_table; terms = []; seen = []; author = None }
