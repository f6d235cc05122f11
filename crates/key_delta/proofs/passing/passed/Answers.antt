use Rattle.std.proofs.Common.{sym, ◌∙◌}
use Rattle.key_delta.proofs.SameFields.{values_pass, both_pass}
use Rattle.key_delta.proofs.passing.passed.Goals as goal

pub returns-then-not-quality-clause-same : goal.returns-then-not-quality-clause-same
returns-then-not-quality-clause-same c =
    values_pass c.args.meta.now c.args.old.now.words c.args.new.now.words c.args.from c.values_passed.result c.fields.ensures.meta c.requires.old c.requires.new
    (sym c.quality.ensures ∙ c.if-not-quality.true) c.values_passed.ensures.ahead c.values_passed.ensures.within c.values_passed.ensures.same

pub returns-clause-same : goal.returns-clause-same
returns-clause-same c =
    both_pass c.args.meta.now c.args.old.now.words c.args.new.now.words c.args.from c.statuses_passed.result c.values_passed-values.result c.fields.ensures.meta c.requires.old c.requires.new
    c.statuses_passed.ensures.ahead c.statuses_passed.ensures.within c.values_passed-values.ensures.within c.statuses_passed.ensures.same c.values_passed-values.ensures.same
