-- How the fields of a pass stand for what it knows.
use Rattle.std.specs.Prelude.{◌≡◌, ℕ, ◌<◌, List, [], length, Option, Some, None}
use Rattle.crossbeam_utils.specs.Seq.{cell_view}
use Rattle.version_cell.specs.declared.pass.Pass.TheInside.{Inside}
use Rattle.version_cell.specs.Histories.{own, row_after}
use Rattle.version_cell.specs.Terms.{IsLawful}
use Rattle.version_cell.specs.Known.{Known}

abbrev pub terms_in : Option (List ℕ) → List ℕ
terms_in (Some q) = q
terms_in None = []

abbrev pub known_by : Inside → Known
known_by p =
    let v = cell_view p.place in
    record { cell = p.place.table_id; terms = terms_in v.terms; seen = v.seen; author = v.author }

-- the front that a pass keeps is that of what it has seen
pub record IsFront (p : Inside) : Type 0 where
  pub version : p.version ≡ length (cell_view p.place).seen
  pub row : p.row.words ≡ row_after (cell_view p.place).seen
  pub author : p.author ≡ (cell_view p.place).author
  pub made : (t : ℕ) → p.author ≡ Some t → p.made ≡ length (own t (cell_view p.place).seen)
  pub number : (t : ℕ) → p.author ≡ Some t → t < 8
  pub count : (cell_view p.place).count ≡ 8
  pub olds : (cell_view p.place).olds ≡ []
  pub terms : List ℕ
  pub has_terms : (cell_view p.place).terms ≡ Some terms
  pub wide : length terms ≡ 24
  pub lawful : IsLawful terms (cell_view p.place).seen
