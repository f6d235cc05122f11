use Rattle.turn_laws.proofs.CutLogs.{tells-as-whole}
use Rattle.turn_laws.proofs.cut.a_cut_log_tells_no_other_version.Goals as goal

pub returns : goal.returns
returns c = tells-as-whole
