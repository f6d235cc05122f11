use Rattle.std.proofs.Common.{sym, ◌∙◌, arith}
use Rattle.ps_script.specs.Past.{done_by}
use Rattle.ps_script.proofs.Finding.{not_the_last, next_at}
use Rattle.ps_script.proofs.refusal.early_fault.Goals as goal

pub stands-requires-clause-early : goal.stands-requires-clause-early
stands-requires-clause-early c = not_the_last _ _ _ c.early_faults-fault-items.ensures (omega arith)

pub loop-fault-preserved : goal.loop-fault-preserved
loop-fault-preserved c = λ reader.
    next_at reader c.args.given.now.config.now c.args.given.now.takes_fates (done_by c.args.past.now) c.args.line.now c.early_faults-fault-items.result.now c.loop-fault.fault-index _ (omega arith) (sym (c.stands.ensures reader) ∙ c.if-stands.false)
    ∙ c.loop-fault.invariant reader
