use Rattle.std.proofs.Common.{ℕ, List, ◌++◌, map}
use Rattle.std.specs.List.{AllZip, range_with_len}
use Rattle.session_model.specs.Steps.{Plan, Step}
use Rattle.session_model.specs.Closing.{MemberPlace}
use Rattle.session_model.specs.Lives.{Account}
use Rattle.pubsub_engine.specs.LifeEnds.{IsWriterEndBy}
use Rattle.pubsub_engine.specs.Logs.{log_after}
use Rattle.pubsub_engine.specs.Ending.{HavePublished}
use Rattle.pubsub_engine.proofs.ends.push_writer_ends.Given as goal

abbrev pub invariant-loop-w : goal.invariant-loop-w
invariant-loop-w l = (most : ℕ) (p : Plan) (steps : List Step) (a : Account) (places : List MemberPlace) → HavePublished l.config most p steps a l.tree l.publisher
    → AllZip (IsWriterEndBy (log_after most p.config a.deeds) p steps a) places l.initial.ends.items
    → AllZip (IsWriterEndBy (log_after most p.config a.deeds) p steps a) (places ++ map (λ w. (l.group, w)) (range_with_len 0 l.w)) l.ends.items
