use Rattle.row_words.proofs.MeaningLaws.{IsPatchOf-spelled_patch, patch_in-spelled_patch}
use Rattle.row_words.proofs.laws.patches_have_words.Goals as goal

pub returns-clause-of : goal.returns-clause-of
returns-clause-of c = IsPatchOf-spelled_patch

pub returns-clause-patch : goal.returns-clause-patch
returns-clause-patch c = patch_in-spelled_patch
