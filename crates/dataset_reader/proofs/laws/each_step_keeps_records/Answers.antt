use Rattle.dataset_reader.proofs.RunLaws.{keeps-fresh, keeps-frame, keeps-cut}
use Rattle.dataset_reader.proofs.laws.each_step_keeps_records.Goals as goal

pub returns : goal.returns
returns c = record { fresh = keeps-fresh; frame = keeps-frame; cut = keeps-cut }
