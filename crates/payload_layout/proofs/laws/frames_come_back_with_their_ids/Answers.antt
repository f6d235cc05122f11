use Rattle.payload_layout.proofs.Again.{parts-several, parts-again}
use Rattle.payload_layout.proofs.laws.frames_come_back_with_their_ids.Goals as goal

pub returns : goal.returns
returns c = record { payload = parts-again; several = parts-several }
