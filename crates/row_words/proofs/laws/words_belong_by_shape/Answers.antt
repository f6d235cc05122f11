use Rattle.row_words.proofs.ShapeLaws.{BelongsTo-shape_of, BelongsTo-zeros}
use Rattle.row_words.proofs.laws.words_belong_by_shape.Goals as goal

pub returns-clause-shape : goal.returns-clause-shape
returns-clause-shape c = BelongsTo-shape_of

pub returns-clause-zeros : goal.returns-clause-zeros
returns-clause-zeros c = BelongsTo-zeros
