use Rattle.cmd_relay.proofs.Ending.{accepting_second}
use Rattle.cmd_relay.proofs.command.accept.Goals as goal

pub returns-in-Err-second_of-clause-ends : goal.returns-in-Err-second_of-clause-ends
returns-in-Err-second_of-clause-ends g c =
    accepting_second _ _ _ c.read_configuration.ensures.folder.files c.in-Err-second_of.status c.in-Ok.first c.in-Ok.ensures.config c.in-Err-second_of.ensures.ends
