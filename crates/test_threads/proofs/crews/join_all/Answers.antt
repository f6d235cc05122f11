use Rattle.std.proofs.Common.{subst}
use Rattle.std.specs.Prelude.{All}
use Rattle.std.proofs.lemmas.List.Elements.{All-tail}
use Rattle.test_threads.specs.Lists.{IsDoneOf}
use Rattle.test_threads.proofs.crews.join_all.Goals as goal

pub loop-done-preserved : goal.loop-done-preserved
loop-done-preserved g c =
    let P = IsDoneOf c.args.bank.now c.args.targets.now.cells in
    record {
      seen = c.join.ensures.own;
      looks = c.join-in-loop-done.ensures.own;
      left = All-tail P c.in-Some.done _ (subst (All P) c.in-Some.ensures.steps.0 c.loop-done.invariant.left);
    }
