use Rattle.std.proofs.Common.{take, ap, arith}
use Rattle.std.proofs.lemmas.List.{length-take}
use Rattle.ua_base.specs.Journal.{Got, Long}
use Rattle.ua_base.proofs.Links.{KeepsLink-more}
use Rattle.ua_base.proofs.Told.{Tells-weaker}
use Rattle.session_model.specs.Events.{receives}
use Rattle.session_parts.specs.declared.receiving.Receiving.{Receiving}
use Rattle.session_parts.specs.Pumping.{brought}
use Rattle.session_parts.proofs.Entries.{none-if, counts-after}
use Rattle.session_parts.proofs.Handing.{got-same}
use Rattle.session_parts.proofs.receiving.Receiving.receive.Goals as goal

pub returns-in-Datagram-clause-receives : goal.returns-in-Datagram-clause-receives
returns-in-Datagram-clause-receives g c = (
  Got (take c.in-Datagram.count c.take_in.new.self.buffer.items),
  record {
    is_receive = omega (arith, length-take c.in-Datagram.count c.take_in.new.self.buffer.items, c.take_in.ensures.room.buffer, c.take_in.new.self.buffer.ok.0);
    counts = counts-after (Got (take c.in-Datagram.count c.take_in.new.self.buffer.items)) c.args.self.now c.take_in.new.self c.hand_on.new.self c.take_in.ensures.rest c.hand_on.ensures.counts;
    hands_on = c.hand_on.ensures.hands;
  },
  c.hand_on.ensures.taken,
  Tells-weaker _ _ _ _ (λ x y p. p.0) c.in-Datagram.ensures.entry,
)

pub returns-in-Long-clause-receives : goal.returns-in-Long-clause-receives
returns-in-Long-clause-receives g c = (
  Long c.in-Long.field-0,
  record {
    is_receive = omega (arith, c.in-Long.ensures.sizes, c.take_in.ensures.room.buffer, c.take_in.new.self.buffer.ok.0);
    counts = counts-after (Long c.in-Long.field-0) c.args.self.now c.take_in.new.self c.note_long.new.self c.take_in.ensures.rest (record {
      received = ap (λ (r : Receiving). r.received) c.note_long.ensures.counts;
      broken = ap (λ (r : Receiving). r.broken) c.note_long.ensures.counts;
      long = ap (λ (r : Receiving). r.long) c.note_long.ensures.counts;
      limit = ap (λ (r : Receiving). r.limit) c.note_long.ensures.counts;
    });
    hands_on = λ before from befell switches now got.
        got-same c.args.config.now from befell (λ r. brought c.args.config.now before (Long c.in-Long.field-0) r (befell r)) c.args.subscriber.now (λ r low. none-if (receives c.args.config.now before r) (befell r)) got;
  },
  c.note_long.ensures.taken,
  Tells-weaker _ _ _ _ (λ x y p. p.0) c.in-Long.ensures.entry,
)

-- where a datagram came, or none since the receive failed, none of the answers was Nothing
pub returns-in-Datagram-clause-link : goal.returns-in-Datagram-clause-link
returns-in-Datagram-clause-link g c = KeepsLink-more g.L.Link.told g.L.Link.patience g.L.Link.opened_with g.L.Link.faults g.L.Link.made g.L.Link.openings 0 _ c.args.link.now c.take_in.new.link (omega arith) c.in-Datagram.ensures.link

pub returns-in-Long-clause-link : goal.returns-in-Long-clause-link
returns-in-Long-clause-link g c = KeepsLink-more g.L.Link.told g.L.Link.patience g.L.Link.opened_with g.L.Link.faults g.L.Link.made g.L.Link.openings 0 _ c.args.link.now c.take_in.new.link (omega arith) c.in-Long.ensures.link

pub returns-in-Failed-clause-link : goal.returns-in-Failed-clause-link
returns-in-Failed-clause-link g c = KeepsLink-more g.L.Link.told g.L.Link.patience g.L.Link.opened_with g.L.Link.faults g.L.Link.made g.L.Link.openings 0 _ c.args.link.now c.take_in.new.link (omega arith) c.in-Failed.ensures.link
