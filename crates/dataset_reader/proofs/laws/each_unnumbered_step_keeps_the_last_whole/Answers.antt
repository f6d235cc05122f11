use Rattle.dataset_reader.proofs.RunLaws.{unnumbered-fresh, unnumbered-frame, unnumbered-cut}
use Rattle.dataset_reader.proofs.laws.each_unnumbered_step_keeps_the_last_whole.Goals as goal

pub returns : goal.returns
returns c = record { fresh = unnumbered-fresh; frame = unnumbered-frame; cut = unnumbered-cut }
