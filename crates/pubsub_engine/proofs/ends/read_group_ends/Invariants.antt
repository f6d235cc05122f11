use Rattle.std.proofs.Common.{◌≡◌, List, map}
use Rattle.std.specs.List.{range_with_len}
use Rattle.session_model.specs.Steps.{Plan, Step}
use Rattle.session_model.specs.Lives.{Account}
use Rattle.pubsub_engine.specs.LifeEnds.{read_group_end_by}
use Rattle.pubsub_engine.specs.Ending.{HaveReceived}
use Rattle.pubsub_engine.proofs.ends.read_group_ends.Given as goal

abbrev pub invariant-loop-r : goal.invariant-loop-r
invariant-loop-r l = (p : Plan) (steps : List Step) (a : Account) → HaveReceived l.config p steps a l.tree l.subscriber
    → l.ends.items ≡ map (read_group_end_by p steps a) (range_with_len 0 l.r)
