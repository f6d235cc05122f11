use Rattle.group_laws.proofs.TurnLaws.{turn-taken, turn-many}
use Rattle.group_laws.proofs.laws.each_datagram_is_taken_as_it_was_sent.Goals as goal

pub returns-clause-taken : goal.returns-clause-taken
returns-clause-taken c = turn-taken

pub returns-clause-many : goal.returns-clause-many
returns-clause-many c = turn-many
