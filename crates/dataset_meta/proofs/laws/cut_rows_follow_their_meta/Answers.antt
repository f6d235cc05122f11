use Rattle.dataset_meta.proofs.CutLaws.{IsRow-cut, IsPatch-cut, opening-cut}
use Rattle.dataset_meta.proofs.laws.cut_rows_follow_their_meta.Goals as goal

pub returns-clause-row : goal.returns-clause-row
returns-clause-row c = IsRow-cut

pub returns-clause-patch : goal.returns-clause-patch
returns-clause-patch c = IsPatch-cut

pub returns-clause-opening : goal.returns-clause-opening
returns-clause-opening c = opening-cut
