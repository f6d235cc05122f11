use Rattle.std.proofs.Common.{List, sym, subst}
use Rattle.std.specs.Prelude.{flat_map}
use Rattle.std.specs.List.{AllZip, range_with_len}
use Rattle.session_model.specs.Closing.{MemberPlace}
use Rattle.pubsub_engine.specs.LifeEnds.{IsWriterEndBy}
use Rattle.pubsub_engine.specs.Logs.{log_after}
use Rattle.pubsub_engine.specs.Ending.{places_of_group}
use Rattle.pubsub_engine.proofs.PlacesInOrder.{group-more}
use Rattle.pubsub_engine.proofs.ends.writer_ends.Goals as goal

pub loop-g-preserved : goal.loop-g-preserved
loop-g-preserved c = λ most p steps a have.
    subst (λ (places : List MemberPlace). AllZip (IsWriterEndBy (log_after most p.config a.deeds) p steps a) places c.push_writer_ends.new.ends.items) (sym (group-more (places_of_group p.config) c.loop-g.g))
    (c.in_ok-push_writer_ends.ensures most p steps a (flat_map (places_of_group p.config) (range_with_len 0 c.loop-g.g)) have (c.loop-g.invariant most p steps a have))
