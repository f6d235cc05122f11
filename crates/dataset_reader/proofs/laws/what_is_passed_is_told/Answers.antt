use Rattle.dataset_reader.proofs.PassedLaws.{foreign-told, numberless-told, silent-told, older-told}
use Rattle.dataset_reader.proofs.laws.what_is_passed_is_told.Goals as goal

pub returns : goal.returns
returns c = record { foreign = foreign-told; numberless = numberless-told; silent = silent-told; older = older-told }
