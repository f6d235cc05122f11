use Rattle.dataset_reader.proofs.RunLaws.{unnumbered-run}
use Rattle.dataset_reader.proofs.laws.an_unnumbered_run_keeps_the_last_whole.Goals as goal

pub returns : goal.returns
returns c = unnumbered-run
