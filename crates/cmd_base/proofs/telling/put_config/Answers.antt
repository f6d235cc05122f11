use Rattle.std.proofs.Common.{true, false, List, ℕ, ◌++◌, subst}
use Rattle.std.specs.Prelude.{codes}
use Rattle.std.specs.Fmt.{decimal}
use Rattle.cmd_base.specs.Statuses.{place_text}
use Rattle.cmd_base.specs.Telling.{Puts}
use Rattle.cmd_base.proofs.Pieces.{then_put, cut_short}
use Rattle.cmd_base.proofs.telling.put_config.Goals as goal

pub returns-then-put_three-clause-told : goal.returns-then-put_three-clause-told
returns-then-put_three-clause-told g c =
    let told = subst (λ (number : List ℕ). Puts true (g.E.Sink.written c.args.err.now) (g.E.Sink.written c.put_three.new.err) (g.E.Sink.faults c.args.err.now) (g.E.Sink.faults c.put_three.new.err)
    (codes "config: C" ++ number ++ codes " ")) c.format.ensures.text c.if-put_three.ensures.told in
    then_put _ _ _ _ _ _ _ (codes "config: C" ++ decimal c.args.code ++ codes " ") (place_text c.args.code c.args.path.now) told c.put_place.ensures.told

pub returns-else-put_three-clause-told : goal.returns-else-put_three-clause-told
returns-else-put_three-clause-told g c =
    let told = subst (λ (number : List ℕ). Puts false (g.E.Sink.written c.args.err.now) (g.E.Sink.written c.put_three.new.err) (g.E.Sink.faults c.args.err.now) (g.E.Sink.faults c.put_three.new.err)
    (codes "config: C" ++ number ++ codes " ")) c.format.ensures.text c.if-put_three.ensures.told in
    rw c.if-put_three.false (cut_short _ _ _ _ (codes "config: C" ++ decimal c.args.code ++ codes " ") (place_text c.args.code c.args.path.now) told)
