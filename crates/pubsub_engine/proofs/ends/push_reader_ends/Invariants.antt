use Rattle.std.proofs.Common.{◌≡◌, ℕ, List, ◌+◌, ◌++◌, length, map}
use Rattle.std.specs.List.{AllZip, range_with_len}
use Rattle.session_model.specs.Steps.{Plan, Step}
use Rattle.session_model.specs.Closing.{MemberPlace}
use Rattle.session_model.specs.Lives.{Account}
use Rattle.pubsub_engine.specs.LifeEnds.{IsToldBy}
use Rattle.pubsub_engine.specs.Logs.{log_after, logs_told}
use Rattle.pubsub_engine.specs.Ending.{HavePublished, HaveReceived}
use Rattle.pubsub_engine.specs.Storing.{first_reader}
use Rattle.pubsub_engine.proofs.ends.push_reader_ends.Given as goal

abbrev pub invariant-loop-i : goal.invariant-loop-i
invariant-loop-i l = record {
  behind : length l.ends.items ≡ first_reader l.config l.read_group + l.i;
  told : (most : ℕ) (p : Plan) (steps : List Step) (a : Account) (places : List MemberPlace) → HavePublished l.config most p steps a l.tree l.publisher
      → HaveReceived l.config p steps a l.tree l.subscriber → AllZip (IsToldBy (logs_told l.versions (log_after most p.config a.deeds)) p steps a) places l.initial.ends.items
      → AllZip (IsToldBy (logs_told l.versions (log_after most p.config a.deeds)) p steps a) (places ++ map (λ i. (l.read_group, i)) (range_with_len 0 l.i)) l.ends.items;
}
