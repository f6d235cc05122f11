use Rattle.std.proofs.Common.{List, sym, subst}
use Rattle.writer_group.specs.declared.sampled.Sampled.{Sampled}
use Rattle.session_model.specs.Sets.{AreRowsOf}
use Rattle.pubsub_engine.proofs.OpenRows.{rows-alike}
use Rattle.pubsub_engine.proofs.sampling.Samples.new.Goals as goal

pub returns-clause-rows : goal.returns-clause-rows
returns-clause-rows c full count are =
    subst (λ (samples : List Sampled). AreRowsOf full samples) (sym (c.in_ok-vec.ensures.items_if_clones_equal (λ y is. is)))
    (rows-alike full c.args.sets c.opening.result c.opening.ensures.belongs count are)
