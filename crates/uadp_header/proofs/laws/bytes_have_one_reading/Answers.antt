use Rattle.uadp_header.specs.Layout.{header}
use Rattle.uadp_header.proofs.FormatLaws.{one-reading, one-told, one-fault, never-both}
use Rattle.uadp_header.proofs.laws.bytes_have_one_reading.Goals as goal

pub returns-clause-some : goal.returns-clause-some
returns-clause-some c = one-reading header

pub returns-clause-one_header : goal.returns-clause-one_header
returns-clause-one_header c = λ bytes rest after one other. one-told header bytes rest after one other

pub returns-clause-one_fault : goal.returns-clause-one_fault
returns-clause-one_fault c = λ bytes one other. one-fault header bytes one other

pub returns-clause-never_both : goal.returns-clause-never_both
returns-clause-never_both c = λ bytes rest one fault. never-both header bytes rest one fault
