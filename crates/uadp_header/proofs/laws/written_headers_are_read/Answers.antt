use Rattle.uadp_header.proofs.Again.{header_again, header_begins}
use Rattle.uadp_header.proofs.laws.written_headers_are_read.Goals as goal

pub returns-clause-read : goal.returns-clause-read
returns-clause-read c = header_again

pub returns-clause-begins : goal.returns-clause-begins
returns-clause-begins c = header_begins
