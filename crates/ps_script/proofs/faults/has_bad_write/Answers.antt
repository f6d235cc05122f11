use Rattle.std.proofs.Common.{sym, ap, ◌∙◌}
use Rattle.ps_script.specs.Faults.{meta_named}
use Rattle.ps_script.proofs.Acting.{bad_value_in}
use Rattle.ps_script.proofs.faults.has_bad_write.Goals as goal

pub returns-in-Some : goal.returns-in-Some
returns-in-Some c = λ reader.
    bad_value_in reader c.args.past.now.metas.items c.args.line.now c.in-Some.meta.now c.has_bad_value.result
    (ap (meta_named c.args.past.now.metas.items) (sym c.word.ensures) ∙ ap (λ xs. meta_named xs c.word.result.now) (sym c.deref.ensures.value) ∙ sym c.in-Some.ensures)
    (c.has_bad_value.ensures reader)
