use Rattle.row_words.proofs.MeaningLaws.{one_meaning}
use Rattle.row_words.proofs.laws.equal_patches_have_one_meaning.Goals as goal

pub returns : goal.returns
returns c = one_meaning
