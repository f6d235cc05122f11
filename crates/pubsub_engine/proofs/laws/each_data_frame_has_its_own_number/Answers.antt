use Rattle.pubsub_engine.proofs.OwnNumbers.{own-numbers}
use Rattle.pubsub_engine.proofs.laws.each_data_frame_has_its_own_number.Goals as goal

pub returns : goal.returns
returns c = λ p life s stands few g w. own-numbers p life s g w few stands
