use Rattle.std.proofs.Common.{ℕ, ◌<◌, List, length, option_map, sym, ap, ◌∙◌, subst}
use Rattle.ps_config.specs.declared.parts.GroupPart.{GroupPart}
use Rattle.pubsub_engine.specs.Logs.{place_within}
use Rattle.pubsub_engine.proofs.Named.{group-found, group-other}
use Rattle.pubsub_engine.proofs.logs.writer_named.Goals as goal

pub returns-in-Some-clause-place : goal.returns-in-Some-clause-place
returns-in-Some-clause-place c =
    sym (group-found c.args.config.now c.loop-g.g c.args.id c.in-Some.w
    (subst (λ (l : List GroupPart). c.loop-g.g < length l) c.as_slice-g-end.ensures c.loop-g-test.true)
    (c.in-Some.ensures.place c.loop-g.g ∙ ap (λ (group : GroupPart). place_within group c.loop-g.g c.args.id) c.group_part.ensures))
    ∙ c.loop-g.invariant

pub loop-g-preserved : goal.loop-g-preserved
loop-g-preserved c =
    group-other c.args.config.now c.loop-g.g c.args.id
    (subst (λ (l : List GroupPart). c.loop-g.g < length l) c.as_slice-g-end.ensures c.loop-g-test.true)
    (sym (ap (option_map (λ (w : ℕ). (c.loop-g.g, w))) c.in_default.is) ∙ c.writer_within.ensures.place c.loop-g.g
    ∙ ap (λ (group : GroupPart). place_within group c.loop-g.g c.args.id) c.group_part.ensures)
    ∙ c.loop-g.invariant
