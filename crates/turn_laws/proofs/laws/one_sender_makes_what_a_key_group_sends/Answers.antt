use Rattle.turn_laws.proofs.Uses.{life-sender, session-sender}
use Rattle.turn_laws.proofs.laws.one_sender_makes_what_a_key_group_sends.Goals as goal

pub returns : goal.returns
returns c = let once = c.no_token_and_number_come_twice_in_groups.ensures in record { session = session-sender once; life = life-sender once }
