-- A history whose rows are words, and what a pass has seen of it.
use Rattle.std.specs.Prelude.{◌≡◌, ℕ, ◌==◌, nat_lt, if◌then◌else◌, List, [], ◌∷◌, ◌++◌, length, map, replicate}
use Rattle.dataset_meta.specs.declared.field.Field.{Field}
use Rattle.row_words.specs.Belonging.{row_in}
use Rattle.pubsub_model.specs.History.{Written}
use Rattle.version_cell.specs.declared.rule.Entry.{Entry}

abbrev pub entry : ℕ → List ℕ → Entry
entry author row = record { author = author; row = row }

-- the entries of one author
abbrev pub own : ℕ → List Entry → List Entry
own author [] = []
own author (e ∷ log) = if e.author == author then e ∷ own author log else own author log

-- the row of the last entry, or this one where there is none
abbrev pub last_words : List ℕ → List Entry → List ℕ
last_words row [] = row
last_words row (e ∷ log) = last_words e.row log

-- the words of the opening row, whatever the meta
unfoldable pub opening_words : List ℕ
opening_words = replicate 125 0

-- the words of the row that these entries leave
abbrev pub row_after : List Entry → List ℕ
row_after log = last_words opening_words log

-- the list is a beginning of the history
abbrev pub StartsWith : List Entry → List Entry → Type 0
StartsWith log seen = (rest : List Entry) × (log ≡ seen ++ rest)

-- the longer of two lists, the first where they are equally long
abbrev pub longer : List Entry → List Entry → List Entry
longer one other = if nat_lt (length one) (length other) then other else one

-- what an entry is in the model
abbrev pub written_of : List Field → Entry → Written
written_of fields e = record { author = e.author; row = row_in fields e.row }

-- the history of the model that entries are
abbrev pub history_of : List Field → List Entry → List Written
history_of fields log = map (written_of fields) log
