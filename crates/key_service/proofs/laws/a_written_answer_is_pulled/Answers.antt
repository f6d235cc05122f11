use Rattle.key_service.proofs.Served.{covered_read_back, pulled_read_back}
use Rattle.key_service.proofs.Used.{used_read_back}
use Rattle.key_service.proofs.laws.a_written_answer_is_pulled.Goals as goal

pub returns-clause-ring : goal.returns-clause-ring
returns-clause-ring c = pulled_read_back

pub returns-clause-keys : goal.returns-clause-keys
returns-clause-keys c = covered_read_back

pub returns-clause-uses : goal.returns-clause-uses
returns-clause-uses c = used_read_back
