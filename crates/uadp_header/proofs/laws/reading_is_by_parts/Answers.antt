use Rattle.uadp_header.specs.Layout.{header, header_at}
use Rattle.uadp_header.proofs.FormatLaws.{read-spells, spells-read, read-fails, fails-read}
use Rattle.uadp_header.proofs.laws.reading_is_by_parts.Goals as goal

pub returns-clause-headers : goal.returns-clause-headers
unfolding header_at
returns-clause-headers c = λ bytes rest one. (read-spells header bytes one rest, spells-read header bytes one rest)

pub returns-clause-faults : goal.returns-clause-faults
unfolding header_at
returns-clause-faults c = λ bytes fault. (read-fails header bytes fault, fails-read header bytes fault)
