use Rattle.std.proofs.Common.{◌≡◌, drop}
use Rattle.ps_script.specs.Values.{ValueReader}
use Rattle.ps_script.specs.Past.{done_by}
use Rattle.ps_script.specs.Refusals.{early_faults, first_of}
use Rattle.ps_script.proofs.refusal.early_fault.Given as goal

-- none of the faults so far stands
abbrev pub invariant-loop-fault : goal.invariant-loop-fault
invariant-loop-fault l =
    (reader : ValueReader) → first_of reader (drop l.fault-index l.fault-items) l.given.config.now l.given.takes_fates (done_by l.past) l.line
    ≡ first_of reader early_faults l.given.config.now l.given.takes_fates (done_by l.past) l.line
