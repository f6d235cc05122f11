use Rattle.std.proofs.Common.{Some, sym, ap, ◌∙◌}
use Rattle.ps_script.proofs.Acting.{act_write}
use Rattle.ps_script.proofs.acts.act_of.Goals as goal

pub returns-in-Write : goal.returns-in-Write
returns-in-Write c = λ reader.
    act_write reader c.args.given.now.config.now c.args.metas.now c.args.line.now c.write_of.result (sym c.of.ensures ∙ c.in_ok-of.was ∙ ap Some c.in-Write.is) (c.write_of.ensures reader)
