use Rattle.dataset_writer.proofs.Publishing.{published-turn}
use Rattle.dataset_writer.proofs.laws.frames_publish_each_row.Goals as goal

pub returns : goal.returns
returns c = published-turn
