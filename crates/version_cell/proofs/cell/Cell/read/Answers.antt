use Rattle.std.proofs.Common.{rules, refl, ◌++◌, ℕ, List}
use Rattle.version_cell.proofs.Fronts.{front_after_load}
use Rattle.version_cell.proofs.Parts.{row_found, row_long, version_found}
use Rattle.version_cell.proofs.Calls.{same_name}
use Rattle.version_cell.proofs.cell.Cell.read.Goals as goal

pub load_words-requires : goal.load_words-requires
load_words-requires g c = same_name c.self.inside c.self.invariant _ c.self.view_is c.pass.inside c.pass.invariant _ c.pass.view_is c.requires.own

pub invariant_of-pass : goal.invariant_of-pass
invariant_of-pass g c =
    let head : List ℕ = c.load_words.new.head in
    let row : List ℕ = c.load_words.new.row.words in
    front_after_load c.pass.inside _ (head ++ row) (head ++ row) c.pass.invariant c.load_words.ensures.reads (version_found head row (search rules)) (row_found head row (search rules) (row_long _ _ head row (search rules) c.load_words.ensures.reads)) refl refl
