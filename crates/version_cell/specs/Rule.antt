-- Cell rule: there is one history, of which each pass has seen a beginning, and the words spell its length and its last row.
use Rattle.std.specs.Prelude.{◌≡◌, ℕ, ◌<◌, ◌≤◌, List, [], ◌∷◌, ◌++◌, length, Some, All}
use mathlib.Core.Option.{some}
use lib.ListN.{get_elem?}
use Rattle.version_cell.specs.declared.rule.Entry.{Entry}
use Rattle.version_cell.specs.declared.rule.View.{View}
use Rattle.version_cell.specs.Histories.{own, row_after, StartsWith}
use Rattle.version_cell.specs.Terms.{quota, IsEntry}

-- the words of a cell: the version, the count of numbers given, the terms, and then the row
abbrev pub spell : ℕ → ℕ → List ℕ → List ℕ → List ℕ
spell version count row terms = version ∷ count ∷ (terms ++ row)

abbrev pub FirstHasOwn : ℕ → List Entry → List (List Entry) → Type 0
FirstHasOwn author log [] = Unit {0}
FirstHasOwn author log (old ∷ _) = own author log ≡ own author old

-- a pass has this number: it is given to no other pass, and all entries of the number in the history are in what the pass has
-- seen, and in the first of its olds
pub record Holds (log : List Entry) (count : ℕ) (holder : ℕ → ℕ) (pass : ℕ) (v : View) (author : ℕ) : Type 0 where
  pub given : author < count
  pub alone : holder author ≡ pass
  pub seen : own author log ≡ own author v.seen
  pub first : FirstHasOwn author log v.olds

-- what the rule says of a pass and its view; `holder` is the pass that has each number
pub record IsView (log : List Entry) (count : ℕ) (terms : List ℕ) (holder : ℕ → ℕ) (pass : ℕ) (v : View) : Type 0 where
  pub seen : StartsWith log v.seen
  pub olds : All (StartsWith log) v.olds
  pub count_reached : v.count ≤ count
  pub same_terms : (q : List ℕ) → v.terms ≡ Some q → q ≡ terms
  pub numbered : (author : ℕ) → v.author ≡ Some author → Holds log count holder pass v author

-- some pass has seen all of it, so it is the longest of the lists that were seen
abbrev pub IsSeen : List Entry → List View → Type 0
IsSeen log views = (pass : ℕ) × (v : View) × (get_elem? views pass ≡ some v) × (v.seen ≡ log)

pub record Kept (words : List ℕ) (views : List View) : Type 0 where
  pub log : List Entry
  pub count : ℕ
  pub terms : List ℕ
  pub holder : ℕ → ℕ
  pub spelled : words ≡ spell (length log) count (row_after log) terms
  pub few : count ≤ 8
  pub wide : length terms ≡ 24
  pub entries : All (IsEntry count terms) log
  pub within : (author : ℕ) → author < 8 → length (own author log) ≤ quota author terms
  pub longest : IsSeen log views
  pub each : (pass : ℕ) (v : View) → get_elem? views pass ≡ some v → IsView log count terms holder pass v
