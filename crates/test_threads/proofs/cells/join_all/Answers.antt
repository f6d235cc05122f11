use Rattle.std.proofs.Common.{subst, ◌∙◌}
use Rattle.std.specs.Prelude.{All}
use Rattle.std.proofs.lemmas.List.Elements.{All-tail}
use Rattle.version_cell.specs.Passes.{IsPassOf}
use Rattle.test_threads.proofs.cells.join_all.Goals as goal

pub loop-pass-preserved : goal.loop-pass-preserved
loop-pass-preserved g c =
    let P = IsPassOf c.args.cell.now in
    let was = c.loop-pass.invariant.first in
    let more = c.join.ensures.joins.more in
    record {
      first = record { name = more.cell ∙ was.name; terms = more.terms ∙ was.terms };
      left = All-tail P c.in-Some.pass _ (subst (All P) c.in-Some.ensures.steps.0 c.loop-pass.invariant.left);
    }
