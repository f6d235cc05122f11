use Rattle.std.proofs.Common.{sym, ap, ◌∙◌}
use Rattle.ps_script.specs.Names.{set_named}
use Rattle.ps_script.specs.Numbers.{number_at}
use Rattle.ps_script.proofs.Acting.{wrote}
use Rattle.ps_script.proofs.acts.write_of.Goals as goal

pub returns : goal.returns
returns c = λ reader.
    wrote reader c.args.metas.now c.args.line.now c.in_ok-set.set c.in_ok-meta.meta.now c.number_at.result c.patch_of.result
    (ap (set_named c.args.metas.now) (sym c.word.ensures) ∙ sym c.in_ok-set.ensures.place)
    (sym c.in_ok-meta.ensures) (c.number_at.ensures.number ∙ ap (number_at 0 7) c.word-2.ensures) (c.patch_of.ensures reader)
