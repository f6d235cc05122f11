use Rattle.std.proofs.Common.{◌∙◌, ◌++◌, ℕ, List, ◌≡◌}
use Rattle.version_cell.specs.Histories.{opening_words}
use Rattle.version_cell.specs.Rule.{spell}
use Rattle.version_cell.specs.Spellings.{words_of}
use Rattle.version_cell.proofs.CellLaws.{spelled_anew}
use Rattle.version_cell.proofs.Keeps.{opens}
use Rattle.version_cell.proofs.Fronts.{anew_all, found_nothing}
use Rattle.version_cell.proofs.Widths.{opening_stands}
use Rattle.version_cell.proofs.making.attempt.Goals as goal

pub ruled-requires : goal.ruled-requires
ruled-requires g c =
    let terms = c.args.terms.now in
    let start : List ℕ = words_of c.spelled-start.result in
    let is : start ≡ spell 0 0 opening_words terms = spelled_anew _ 0 terms start c.opening-opening.ensures.zeros c.spelled-start.ensures in record {
      narrow = c.requires.narrow;
      start = λ count le small. opening_stands count 0 terms start c.requires.wide is le small;
      rule = opens terms start c.requires.wide is;
    }

pub all_enrolled-requires : goal.all_enrolled-requires
all_enrolled-requires g c =
    let found : List ℕ = c.load_words.new.head ++ c.load_words.new.row.words in
    let terms = c.args.terms.now in
    let start : List ℕ = words_of c.spelled-start.result in
    let is : start ≡ spell 0 0 opening_words terms = spelled_anew _ 0 terms start c.opening-opening.ensures.zeros c.spelled-start.ensures in
    let same : found ≡ start = c.is_found.ensures c.if-not-is_found.false ∙ anew_all start terms c.first.result c.requires.wide is c.first.ensures in
    (c.load_words.ensures.same.0 ∙ c.in_ok-words.ensures.name, found_nothing _ _ found start terms c.requires.wide c.in_ok-words.ensures.view is same c.load_words.ensures.reads)
