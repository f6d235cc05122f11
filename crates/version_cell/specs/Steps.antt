-- What each kind of step of a cell tells the pass that makes it: of its view before, the words before and after, and its view after.
use Rattle.std.specs.Prelude.{◌≡◌, ℕ, ◌+◌, ◌<◌, ◌≤◌, nat_eq, if◌then◌else◌, List, [], ◌∷◌, ◌++◌, length, Some, All}
use lib.Pointwise.{pointwise}
use Rattle.row_words.specs.Shapes.{BelongsTo}
use Rattle.version_cell.specs.declared.rule.Entry.{Entry}
use Rattle.version_cell.specs.declared.rule.View.{View}
use Rattle.version_cell.specs.Histories.{entry, own, row_after, StartsWith}
use Rattle.version_cell.specs.Terms.{quota, shape_in, IsLawful, IsSole}
use Rattle.version_cell.specs.Views.{settled, view}
use Rattle.version_cell.specs.Rule.{spell, FirstHasOwn}

-- a load, and an exchange that lost: the pass has seen the whole history
pub record Reads (v : View) (x y : List ℕ) (w : View) : Type 0 where
  pub later : StartsWith w.seen v.seen
  pub author : w.author ≡ v.author
  pub olds : w.olds ≡ v.olds
  pub terms : List ℕ
  pub has_terms : w.terms ≡ Some terms
  pub same_terms : (q : List ℕ) → v.terms ≡ Some q → q ≡ terms
  pub count_later : v.count ≤ w.count
  pub few : w.count ≤ 8
  pub spelled : x ≡ spell (length w.seen) w.count (row_after w.seen) terms
  pub wide : length terms ≡ 24
  pub lawful : IsLawful terms w.seen
  pub own_same : (t : ℕ) → v.author ≡ Some t → (own t w.seen ≡ own t v.seen) × (t < w.count)

-- the load that ends a join: the olds were beginnings of one history, as what was seen is
pub record Closes (v : View) (x y : List ℕ) (w : View) : Type 0 where
  pub rest : w ≡ settled v
  pub log : List Entry
  pub seen : StartsWith log v.seen
  pub olds : All (StartsWith log) v.olds
  pub own_same : (t : ℕ) → v.author ≡ Some t → (own t log ≡ own t v.seen) × FirstHasOwn t log v.olds

-- a write: the pass sees its own entry at the end
pub record Writes (v : View) (x y : List ℕ) (w : View) : Type 0 where
  pub by : ℕ
  pub row : List ℕ
  pub terms : List ℕ
  pub author : v.author ≡ Some by
  pub after : w ≡ view (v.seen ++ entry by row ∷ []) v.author v.count v.terms v.olds
  pub spelled : y ≡ spell (length v.seen + 1) v.count row terms
  pub belongs : BelongsTo (shape_in terms) row

-- an exchange that writes where it wins
abbrev pub Tries : View → List ℕ → List ℕ → View → Type 0
Tries v x y w = (y ≡ x → Reads v x y w) × (¬ (y ≡ x) → Writes v x y w)

-- an enrolment: the pass takes the next number
pub record Takes (v : View) (x y : List ℕ) (w : View) : Type 0 where
  pub after : w ≡ view v.seen (Some v.count) (v.count + 1) v.terms v.olds
  pub few : v.count + 1 ≤ 8

-- an exchange that enrols where it wins
abbrev pub Enrols : View → List ℕ → List ℕ → View → Type 0
Enrols v x y w = (y ≡ x → Reads v x y w) × (¬ (y ≡ x) → Takes v x y w)

-- the words after an exchange
abbrev pub exchanged : List ℕ → List ℕ → List ℕ → List ℕ
exchanged expected new x = if pointwise nat_eq x expected then new else x

-- the words that a pass has seen, with this count of numbers given, and those of one entry more
abbrev pub seen_words : View → ℕ → List ℕ → List ℕ
seen_words v count terms = spell (length v.seen) count (row_after v.seen) terms

abbrev pub written_words : View → List ℕ → List ℕ → List ℕ
written_words v row terms = spell (length v.seen + 1) v.count row terms

-- the pass may write this row
pub record MayWrite (v : View) (author : ℕ) (terms row : List ℕ) : Type 0 where
  pub numbered : v.author ≡ Some author
  pub settled : v.olds ≡ []
  pub knows : v.terms ≡ Some terms
  pub belongs : BelongsTo (shape_in terms) row
  pub left : length (own author v.seen) < quota author terms

-- the pass may write this row with nothing compared: it is the only author, and no number is left to give
pub record MayStore (v : View) (terms row : List ℕ) : Type 0 where
  pub write : MayWrite v 0 terms row
  pub sole : IsSole terms
  pub all_given : v.count ≡ 8

-- the pass may take a number
pub record MayEnrol (v : View) (terms : List ℕ) : Type 0 where
  pub settled : v.olds ≡ []
  pub knows : v.terms ≡ Some terms
  pub room : v.count < 8
