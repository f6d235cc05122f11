use Rattle.ps_config.proofs.Roomy.{chunk_roomy, turn_roomy, frame_roomy}
use Rattle.ps_config.proofs.laws.a_group_with_room_has_room_for_a_keep_alive.Goals as goal

pub returns-clause-chunk : goal.returns-clause-chunk
returns-clause-chunk c = chunk_roomy

pub returns-clause-turn : goal.returns-clause-turn
returns-clause-turn c = turn_roomy

pub returns-clause-frame : goal.returns-clause-frame
returns-clause-frame c = frame_roomy
