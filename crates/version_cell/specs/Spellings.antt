-- The words of a spelling.
use Rattle.std.specs.Prelude.{ℕ, List}
use Rattle.version_cell.specs.declared.spelling.Spelling.{Spelling}
use Rattle.version_cell.specs.Rule.{spell}

abbrev pub words_of : Spelling → List ℕ
words_of s = spell s.version s.count s.row.now.words s.terms.now
