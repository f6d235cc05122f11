use Rattle.row_words.proofs.ShapeLaws.{shape-rows, shape-patches, shape-words, shape-belongs, shape-quality}
use Rattle.row_words.proofs.laws.shapes_have_one_meaning.Goals as goal

pub returns-clause-rows : goal.returns-clause-rows
returns-clause-rows c = shape-rows

pub returns-clause-patches : goal.returns-clause-patches
returns-clause-patches c = shape-patches

pub returns-clause-words : goal.returns-clause-words
returns-clause-words c = shape-words

pub returns-clause-belongs : goal.returns-clause-belongs
returns-clause-belongs c = shape-belongs

pub returns-clause-quality : goal.returns-clause-quality
returns-clause-quality c = shape-quality
