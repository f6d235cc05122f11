use Rattle.std.proofs.Common.{◌≡◌, ℕ, List, length}
use Rattle.std.specs.Prelude.{flat_map}
use Rattle.std.specs.List.{AllZip, range_with_len}
use Rattle.session_model.specs.Steps.{Plan, Step}
use Rattle.session_model.specs.Lives.{Account}
use Rattle.pubsub_engine.specs.LifeEnds.{IsToldBy}
use Rattle.pubsub_engine.specs.Logs.{log_after, logs_told}
use Rattle.pubsub_engine.specs.Ending.{HavePublished, HaveReceived, places_of_read_group}
use Rattle.pubsub_engine.specs.Storing.{first_reader}
use Rattle.pubsub_engine.proofs.ends.reader_ends.Given as goal

abbrev pub invariant-loop-r : goal.invariant-loop-r
invariant-loop-r l = record {
  behind : length l.ends.items ≡ first_reader l.config l.r;
  told : (most : ℕ) (p : Plan) (steps : List Step) (a : Account) → HavePublished l.config most p steps a l.tree l.publisher → HaveReceived l.config p steps a l.tree l.subscriber
      → AllZip (IsToldBy (logs_told l.versions (log_after most p.config a.deeds)) p steps a) (flat_map (places_of_read_group p.config) (range_with_len 0 l.r)) l.ends.items;
}
