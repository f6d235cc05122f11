use Rattle.std.proofs.Common.{is_none, sym, ap, ◌∙◌}
use Rattle.ps_script.proofs.Said.{gives}
use Rattle.ps_script.proofs.changes.gives_nothing.Goals as goal

pub returns-in-Some : goal.returns-in-Some
returns-in-Some c = λ reader.
    sym (ap is_none c.in-Some.is) ∙ gives reader c.args.meta.now.quality c.args.meta.now.fields c.args.word.now c.change_of.result (c.change_of.ensures.change reader)

pub returns-in-None : goal.returns-in-None
returns-in-None c = λ reader.
    sym (ap is_none c.in-None.is) ∙ gives reader c.args.meta.now.quality c.args.meta.now.fields c.args.word.now c.change_of.result (c.change_of.ensures.change reader)
