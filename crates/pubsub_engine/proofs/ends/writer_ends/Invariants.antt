use Rattle.std.proofs.Common.{ℕ, List}
use Rattle.std.specs.Prelude.{flat_map}
use Rattle.std.specs.List.{AllZip, range_with_len}
use Rattle.session_model.specs.Steps.{Plan, Step}
use Rattle.session_model.specs.Lives.{Account}
use Rattle.pubsub_engine.specs.LifeEnds.{IsWriterEndBy}
use Rattle.pubsub_engine.specs.Logs.{log_after}
use Rattle.pubsub_engine.specs.Ending.{HavePublished, places_of_group}
use Rattle.pubsub_engine.proofs.ends.writer_ends.Given as goal

abbrev pub invariant-loop-g : goal.invariant-loop-g
invariant-loop-g l = (most : ℕ) (p : Plan) (steps : List Step) (a : Account) → HavePublished l.config most p steps a l.tree l.publisher
    → AllZip (IsWriterEndBy (log_after most p.config a.deeds) p steps a) (flat_map (places_of_group p.config) (range_with_len 0 l.g)) l.ends.items
