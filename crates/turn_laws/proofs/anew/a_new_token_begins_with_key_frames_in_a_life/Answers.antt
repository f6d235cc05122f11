use Rattle.std.proofs.Common.{refl}
use Rattle.turn_laws.proofs.LifeAnew.{at-once, life-anew, life-answers, next-key}
use Rattle.turn_laws.proofs.anew.a_new_token_begins_with_key_frames_in_a_life.Goals as goal

pub returns : goal.returns
returns c = record { first = life-anew; next = next-key; at_once = at-once c.a_refreshed_writer_sends_a_key_frame.ensures.whole; turns = life-answers; deeds = λ p g w life. refl }
