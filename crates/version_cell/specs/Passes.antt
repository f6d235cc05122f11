-- What the calls of a cell say of a pass.
use Rattle.std.specs.Prelude.{◌≡◌, ℕ, ◌<◌, List, [], ◌∷◌, ◌++◌, length, Option, Some, None, slice_index_or}
use Rattle.row_words.specs.declared.patch.Patch.{Patch}
use Rattle.row_words.specs.Patches.{patched_words}
use Rattle.version_cell.specs.declared.cell.Wrote.{Wrote}
use Rattle.version_cell.specs.declared.cell.Wrote.TheVariants as wrote
use Rattle.version_cell.specs.declared.cell.Placed.{Placed}
use Rattle.version_cell.specs.declared.cell.Placed.TheVariants as placed
use Rattle.version_cell.specs.Histories.{entry, own, row_after, StartsWith, longer}
use Rattle.version_cell.specs.Terms.{quota, IsLawful}
use Rattle.version_cell.specs.Known.{Known}
use Rattle.version_cell.specs.Cells.{CellData, terms_of}

-- the pass was made by this cell
pub record IsPassOf (cell : CellData) (p : Known) : Type 0 where
  pub name : p.cell ≡ cell.id
  pub terms : p.terms ≡ terms_of cell.quotas cell.meta

-- in what it has seen each entry has one of eight authors and a row of the cell's meta, and no author has more than its quota
abbrev pub SeesLawful : Known → Type 0
SeesLawful p = IsLawful p.terms p.seen

-- the same pass later: it has seen as much or more, and no further entries of its own number
pub record SeesMore (old new : Known) : Type 0 where
  pub cell : new.cell ≡ old.cell
  pub terms : new.terms ≡ old.terms
  pub author : new.author ≡ old.author
  pub seen : StartsWith new.seen old.seen
  pub own_same : (t : ℕ) → old.author ≡ Some t → own t new.seen ≡ own t old.seen

-- the same pass with one more entry, which is its own and has this row
pub record Adds (old new : Known) (row : List ℕ) : Type 0 where
  pub cell : new.cell ≡ old.cell
  pub terms : new.terms ≡ old.terms
  pub author : new.author ≡ old.author
  pub by : ℕ
  pub is_by : old.author ≡ Some by
  pub seen : new.seen ≡ old.seen ++ entry by row ∷ []

-- it has made fewer entries than its number's quota
abbrev pub HasLeft : Known → Type 0
HasLeft p = (t : ℕ) → p.author ≡ Some t → length (own t p.seen) < quota t p.terms

-- it has made as many entries as its number's quota, which is this
abbrev pub IsFull : Known → ℕ → Type 0
IsFull p q = (t : ℕ) → p.author ≡ Some t → (length (own t p.seen) ≡ q) × (q ≡ quota t p.terms)

-- the row after what the pass has seen, with a patch laid in
abbrev pub row_with : CellData → Patch → Known → List ℕ
row_with cell patch p = patched_words cell.meta.fields patch (row_after p.seen)

-- one exchange that expects what the pass has seen
abbrev pub Tried : CellData → Patch → Known → Known → Wrote → Type 0
Tried cell patch old new (wrote.Wrote version) = HasLeft old × Adds old new (row_with cell patch old) × (version ≡ length new.seen)
Tried cell patch old new (wrote.Moved version) =
    HasLeft old × SeesMore old new × (length old.seen < length new.seen) × (version ≡ length new.seen)
Tried cell patch old new (wrote.Full quota) = (new ≡ old) × IsFull old quota

-- after entries of others the pass has made one entry of its own
pub record AddsLater (cell : CellData) (patch : Patch) (old new : Known) : Type 0 where
  pub before : Known
  pub more : SeesMore old before
  pub adds : Adds before new (row_with cell patch before)

abbrev pub WasPlaced : CellData → Patch → Known → Known → Placed → Type 0
WasPlaced cell patch old new (placed.Wrote version) = HasLeft old × AddsLater cell patch old new × (version ≡ length new.seen)
WasPlaced cell patch old new (placed.Full quota) = (new ≡ old) × IsFull old quota

-- a pass with no number that has seen as much
abbrev pub shared_by : Known → Known
shared_by p = record { cell = p.cell; terms = p.terms; seen = p.seen; author = None }

-- the pass has taken in another: it has seen the longer of their lists, of which both are beginnings
pub record Joins (old other new : Known) : Type 0 where
  pub more : SeesMore old new
  pub longer_is : new.seen ≡ longer old.seen other.seen
  pub other_too : StartsWith new.seen other.seen

-- a pass of a cell with no entries
abbrev pub new_pass : CellData → Option ℕ → Known
new_pass cell author = record { cell = cell.id; terms = terms_of cell.quotas cell.meta; seen = []; author = author }

-- a pass for each of the eight numbers, in order
pub record AreNumbered (cell : CellData) (passes : List Known) : Type 0 where
  pub eight : length passes ≡ 8
  pub each : (t : ℕ) (none : Known) → t < 8 → slice_index_or passes t none ≡ new_pass cell (Some t)
