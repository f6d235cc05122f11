use Rattle.uadp_header.proofs.Again.{same_header}
use Rattle.uadp_header.proofs.laws.bytes_are_of_one_header.Goals as goal

pub returns : goal.returns
returns c = same_header
