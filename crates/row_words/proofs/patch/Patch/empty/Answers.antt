use Rattle.row_words.proofs.PatchLaws.{IsPatchOf-none, patch_in-none}
use Rattle.row_words.proofs.patch.Patch.empty.Goals as goal

pub returns-clause-of : goal.returns-clause-of
returns-clause-of c = λ meta is. IsPatchOf-none meta c.opening.result (c.opening.ensures.belongs meta is) (c.opening.ensures.row meta.fields is)

pub returns-clause-empty : goal.returns-clause-empty
returns-clause-empty c = λ fields. patch_in-none fields c.opening.result
