use Rattle.reader_group.proofs.Trimming.{plain-trimmed}
use Rattle.reader_group.proofs.laws.refused_datagrams_leave_no_trace.Goals as goal

pub returns : goal.returns
returns c = plain-trimmed
