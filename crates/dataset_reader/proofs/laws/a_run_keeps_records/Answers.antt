use Rattle.dataset_reader.proofs.RunLaws.{keeps-run}
use Rattle.dataset_reader.proofs.laws.a_run_keeps_records.Goals as goal

pub returns : goal.returns
returns c = keeps-run
