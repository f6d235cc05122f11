use Rattle.std.proofs.Common.{List, ◌∙◌, sym, subst, arith}
use Rattle.writer_group.specs.declared.sampled.Sampled.{Sampled}
use Rattle.session_model.specs.Sets.{AreRowsOf}
use Rattle.gateway_core.proofs.OpenRows.{alike, rows-alike}
use Rattle.gateway_core.proofs.collected.Collected.new.Goals as goal

pub returns-clause-samples : goal.returns-clause-samples
returns-clause-samples c =
    c.in_ok-samples.ensures.items_if_clones_equal (λ y is. is)
    ∙ alike c.args.sources.items c.len.result c.opening.result c.opening.ensures.opening (omega (arith, c.len.ensures, c.args.sources.ok.0))

pub returns-clause-rows : goal.returns-clause-rows
returns-clause-rows c metas count are =
    subst (λ (samples : List Sampled). AreRowsOf metas samples) (sym (c.in_ok-samples.ensures.items_if_clones_equal (λ y is. is)))
    (rows-alike metas c.len.result c.opening.result c.opening.ensures.belongs (omega (arith, count, c.len.ensures, c.args.sources.ok.0)) are)
