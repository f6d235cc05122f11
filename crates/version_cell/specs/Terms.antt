-- The terms of a cell, which never change: the quotas of its eight authors, and behind them the 16 words of its meta's shape.
use Rattle.std.specs.Prelude.{◌≡◌, ℕ, ◌<◌, ◌≤◌, List, drop, length, slice_index, All}
use Rattle.row_words.specs.Shapes.{BelongsTo}
use Rattle.version_cell.specs.declared.rule.Entry.{Entry}
use Rattle.version_cell.specs.Histories.{own}

-- how many entries an author may make
abbrev pub quota : ℕ → List ℕ → ℕ
quota author terms = slice_index terms author

abbrev pub shape_in : List ℕ → List ℕ
shape_in terms = drop 8 terms

-- an entry of one of so many authors, whose row belongs to the shape
pub record IsEntry (count : ℕ) (terms : List ℕ) (e : Entry) : Type 0 where
  pub author : e.author < count
  pub row : BelongsTo (shape_in terms) e.row

-- each entry has one of eight authors and a row of the shape, and no author has more than its quota
pub record IsLawful (terms : List ℕ) (log : List Entry) : Type 0 where
  pub entries : All (IsEntry 8 terms) log
  pub within : (author : ℕ) → author < 8 → length (own author log) ≤ quota author terms

-- number 0 alone may make entries
abbrev pub IsSole : List ℕ → Type 0
IsSole terms = (author : ℕ) → 0 < author → author < 8 → quota author terms ≡ 0
