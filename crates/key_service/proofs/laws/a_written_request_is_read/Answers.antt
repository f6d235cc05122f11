use Rattle.key_service.proofs.Again.{request_again}
use Rattle.key_service.proofs.laws.a_written_request_is_read.Goals as goal

pub returns : goal.returns
returns c = request_again
