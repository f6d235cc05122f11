use Rattle.uadp_header.proofs.WireAgain.{wire_again}
use Rattle.uadp_header.proofs.WireBack.{wire-spelled}
use Rattle.uadp_header.proofs.laws.headers_are_read_as_spelled.Goals as goal

pub returns : goal.returns
returns c = record { again = wire_again; exactly = wire-spelled }
