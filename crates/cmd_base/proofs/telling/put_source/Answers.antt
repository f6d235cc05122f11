use Rattle.std.proofs.Common.{List, ℕ, ◌++◌, subst}
use Rattle.std.specs.Prelude.{codes}
use Rattle.cmd_base.specs.Telling.{Puts}
use Rattle.cmd_base.proofs.telling.put_source.Goals as goal

pub returns-clause-told : goal.returns-clause-told
returns-clause-told g c =
    subst (λ (number : List ℕ). Puts c.put_three.result (g.E.Sink.written c.args.err.now) (g.E.Sink.written c.put_three.new.err) (g.E.Sink.faults c.args.err.now) (g.E.Sink.faults c.put_three.new.err)
    (codes "config: C26 NoSource dataset[" ++ number ++ codes "]\n")) c.format.ensures.text c.put_three.ensures.told
