use Rattle.std.proofs.Common.{length}
use Rattle.dataset_meta.proofs.CutLaws.{patched-cut, differs-cut}
use Rattle.dataset_meta.proofs.laws.cuts_go_with_patches.Goals as goal

pub returns-clause-patched : goal.returns-clause-patched
returns-clause-patched c = λ short. patched-cut (length short.fields)

pub returns-clause-differ : goal.returns-clause-differ
returns-clause-differ c = λ short. differs-cut (length short.fields)
