use Rattle.row_words.proofs.ShapeLaws.{same_words}
use Rattle.row_words.proofs.laws.equal_words_are_equal_rows.Goals as goal

pub returns : goal.returns
returns c = same_words
