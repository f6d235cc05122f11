use Rattle.dataset_reader.proofs.Passing.{all_counted}
use Rattle.dataset_reader.proofs.laws.answers_are_counted.Goals as goal

pub returns : goal.returns
returns c = all_counted
