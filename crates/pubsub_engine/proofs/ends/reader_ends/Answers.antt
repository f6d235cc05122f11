use Rattle.std.proofs.Common.{List, sym, subst}
use Rattle.std.specs.Prelude.{flat_map}
use Rattle.std.specs.List.{AllZip, range_with_len}
use Rattle.session_model.specs.Closing.{MemberPlace}
use Rattle.pubsub_engine.specs.LifeEnds.{IsToldBy}
use Rattle.pubsub_engine.specs.Logs.{log_after, logs_told}
use Rattle.pubsub_engine.specs.Ending.{places_of_read_group}
use Rattle.pubsub_engine.proofs.PlacesInOrder.{group-more}
use Rattle.pubsub_engine.proofs.ends.reader_ends.Goals as goal

pub loop-r-preserved : goal.loop-r-preserved
loop-r-preserved c = record {
  behind = c.in_ok-push_reader_ends.ensures.behind;
  told = λ most p steps a published have.
      subst (λ (places : List MemberPlace). AllZip (IsToldBy (logs_told c.args.versions (log_after most p.config a.deeds)) p steps a) places c.push_reader_ends.new.ends.items) (sym (group-more (places_of_read_group p.config) c.loop-r.r))
      (c.in_ok-push_reader_ends.ensures.more most p steps a (flat_map (places_of_read_group p.config) (range_with_len 0 c.loop-r.r)) published have (c.loop-r.invariant.told most p steps a published have));
}
