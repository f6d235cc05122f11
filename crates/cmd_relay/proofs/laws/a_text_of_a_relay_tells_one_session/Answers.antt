use Rattle.cmd_relay.proofs.Alone.{session-told}
use Rattle.cmd_relay.proofs.laws.a_text_of_a_relay_tells_one_session.Goals as goal

pub returns : goal.returns
returns c = session-told
