use Rattle.row_words.proofs.PatchLaws.{IsPatch-patch_in}
use Rattle.row_words.proofs.ShapeLaws.{patches, BelongsTo-patched_words}
use Rattle.row_words.proofs.laws.patched_words_belong.Goals as goal

pub returns-clause-patch : goal.returns-clause-patch
returns-clause-patch c = IsPatch-patch_in

pub returns-clause-belongs : goal.returns-clause-belongs
returns-clause-belongs c = λ meta patch words is of belongs. (patches meta patch words is of belongs).belongs

pub returns-clause-row : goal.returns-clause-row
returns-clause-row c = λ meta patch words is of belongs. (patches meta patch words is of belongs).row

pub returns-clause-shape : goal.returns-clause-shape
returns-clause-shape c = BelongsTo-patched_words
