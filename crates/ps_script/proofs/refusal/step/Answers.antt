use Rattle.std.proofs.Common.{sym, ap, ◌∙◌}
use Rattle.std.proofs.lemmas.Bool.{false≢true}
use Rattle.ps_script.specs.Past.{done_by}
use Rattle.ps_script.specs.Faults.{is_past_limit}
use Rattle.ps_script.proofs.Finding.{early_is_told, within_limit}
use Rattle.ps_script.proofs.refusal.step.Goals as goal

pub returns-in-Some-clause-steps : goal.returns-in-Some-clause-steps
returns-in-Some-clause-steps c = λ reader.
    early_is_told reader c.args.given.now.config.now c.args.given.now.takes_fates (done_by c.args.past.now) c.args.line.now c.in-Some.fault (c.in-Some.ensures reader)

pub returns-then-is_past_limit-clause-steps : goal.returns-then-is_past_limit-clause-steps
returns-then-is_past_limit-clause-steps c = λ reader.
    absurd (false≢true (sym (within_limit reader c.args.given.now.config.now c.args.given.now.takes_fates (done_by c.args.past.now) c.args.line.now (c.in-None.ensures reader)) ∙ (ap (is_past_limit (done_by c.args.past.now)) (sym c.of-verb.ensures) ∙ (sym c.is_past_limit.ensures ∙ c.if-is_past_limit.true))))
