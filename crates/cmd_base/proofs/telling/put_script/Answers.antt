use Rattle.std.proofs.Common.{true, false, List, ℕ, ◌++◌, subst}
use Rattle.std.specs.Prelude.{codes}
use Rattle.std.specs.Fmt.{decimal}
use Rattle.cmd_base.specs.Statuses.{fault_text}
use Rattle.cmd_base.specs.Telling.{Puts}
use Rattle.cmd_base.proofs.Pieces.{then_put, cut_short}
use Rattle.cmd_base.proofs.telling.put_script.Goals as goal

pub returns-then-put_three-clause-told : goal.returns-then-put_three-clause-told
returns-then-put_three-clause-told g c =
    let told = subst (λ (number : List ℕ). Puts true (g.E.Sink.written c.args.err.now) (g.E.Sink.written c.put_three.new.err) (g.E.Sink.faults c.args.err.now) (g.E.Sink.faults c.put_three.new.err)
    (codes "script: line " ++ number ++ codes " S")) c.format.ensures.text c.if-put_three.ensures.told in
    then_put _ _ _ _ _ _ _ (codes "script: line " ++ decimal c.args.line ++ codes " S") (fault_text c.args.fault) told c.put_fault.ensures.told

pub returns-else-put_three-clause-told : goal.returns-else-put_three-clause-told
returns-else-put_three-clause-told g c =
    let told = subst (λ (number : List ℕ). Puts false (g.E.Sink.written c.args.err.now) (g.E.Sink.written c.put_three.new.err) (g.E.Sink.faults c.args.err.now) (g.E.Sink.faults c.put_three.new.err)
    (codes "script: line " ++ number ++ codes " S")) c.format.ensures.text c.if-put_three.ensures.told in
    rw c.if-put_three.false (cut_short _ _ _ _ (codes "script: line " ++ decimal c.args.line ++ codes " S") (fault_text c.args.fault) told)
