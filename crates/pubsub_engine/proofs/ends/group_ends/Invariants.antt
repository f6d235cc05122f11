use Rattle.std.proofs.Common.{◌≡◌, ℕ, List, map}
use Rattle.std.specs.List.{range_with_len}
use Rattle.session_model.specs.Steps.{Plan, Step}
use Rattle.session_model.specs.Lives.{Account}
use Rattle.pubsub_engine.specs.LifeEnds.{group_end_by}
use Rattle.pubsub_engine.specs.Ending.{HavePublished}
use Rattle.pubsub_engine.proofs.ends.group_ends.Given as goal

abbrev pub invariant-loop-g : goal.invariant-loop-g
invariant-loop-g l = (most : ℕ) (p : Plan) (steps : List Step) (a : Account) → HavePublished l.config most p steps a l.tree l.publisher
    → l.ends.items ≡ map (group_end_by p steps a) (range_with_len 0 l.g)
