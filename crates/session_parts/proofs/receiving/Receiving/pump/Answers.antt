use Rattle.std.proofs.Common.{◌≡◌, ◌<◌, ℕ, refl, sym, subst, arith}
use Rattle.ua_base.proofs.Links.{KeepsLink-refl, KeepsLink-more, KeepsLink-then, stays_open}
use Rattle.session_parts.specs.Pumping.{PumpsTo}
use Rattle.session_parts.proofs.Entries.{SoFar, so-none, so-more, so-ended, so-full}
use Rattle.session_parts.proofs.receiving.Receiving.pump.Goals as goal

pub loop-taken-init : goal.loop-taken-init
loop-taken-init g c = record {
  holds = c.requires.holds;
  room = c.requires.room;
  run = so-none c.args.config.now c.args.tree.now c.args.moment c.args.self.now c.args.subscriber.now (g.L.Link.told c.args.link.now);
  link = KeepsLink-refl g.L.Link.told g.L.Link.patience g.L.Link.opened_with g.L.Link.faults g.L.Link.made g.L.Link.openings c.args.link.now;
}

pub returns-then-not-receive-clause-pumps : goal.returns-then-not-receive-clause-pumps
returns-then-not-receive-clause-pumps g c =
    let few : c.loop-taken.taken < 65536 = omega arith in
    so-ended c.args.config.now c.args.tree.now c.args.moment c.loop-taken.taken c.args.self.now c.loop-taken.self c.receive.new.self c.args.subscriber.now c.loop-taken.subscriber c.receive.new.subscriber
    _ _ _ few c.loop-taken.invariant.run c.if-not-receive.ensures.receives

pub returns-then-not-receive-clause-link : goal.returns-then-not-receive-clause-link
returns-then-not-receive-clause-link g c =
    KeepsLink-then g.L.Link.told g.L.Link.patience g.L.Link.opened_with g.L.Link.faults g.L.Link.made g.L.Link.openings 0 1 c.args.link.now c.loop-taken.link c.receive.new.link c.loop-taken.invariant.link c.if-not-receive.ensures.link

pub receive-requires-clause-open : goal.receive-requires-clause-open
receive-requires-clause-open g c = stays_open g.L.Link.told g.L.Link.patience g.L.Link.opened_with g.L.Link.faults g.L.Link.made g.L.Link.openings 0 c.args.link.now c.loop-taken.link c.loop-taken.invariant.link c.requires.open

pub loop-taken-preserved : goal.loop-taken-preserved
loop-taken-preserved g c = record {
  holds = c.receive.ensures.holds;
  room = c.receive.ensures.room;
  run = so-more c.args.config.now c.args.tree.now c.args.moment c.loop-taken.taken c.args.self.now c.loop-taken.self c.receive.new.self c.args.subscriber.now c.loop-taken.subscriber c.receive.new.subscriber
      _ _ _ c.loop-taken.invariant.run c.if-not-receive.ensures.receives;
  link = KeepsLink-then g.L.Link.told g.L.Link.patience g.L.Link.opened_with g.L.Link.faults g.L.Link.made g.L.Link.openings 0 0 c.args.link.now c.loop-taken.link c.receive.new.link c.loop-taken.invariant.link c.if-not-receive.ensures.link;
}

pub returns-clause-pumps : goal.returns-clause-pumps
returns-clause-pumps g c =
    let full : c.loop-taken.taken ≡ 65536 = omega arith in
    subst (λ (n : ℕ). PumpsTo c.args.config.now c.args.tree.now c.args.moment n c.args.self.now c.note_limit.new.self c.args.subscriber.now c.loop-taken.subscriber (g.L.Link.told c.args.link.now) (g.L.Link.told c.loop-taken.link)) (sym c.note_limit.ensures.taken)
    (so-full c.args.config.now c.args.tree.now c.args.moment c.args.self.now c.loop-taken.self c.note_limit.new.self c.args.subscriber.now c.loop-taken.subscriber _ _ c.note_limit.ensures.counts
    (subst (λ (n : ℕ). SoFar c.args.config.now c.args.tree.now c.args.moment n c.args.self.now c.loop-taken.self c.args.subscriber.now c.loop-taken.subscriber (g.L.Link.told c.args.link.now) (g.L.Link.told c.loop-taken.link)) full
    c.loop-taken.invariant.run))

-- the last receive brought a datagram too
pub returns-clause-link : goal.returns-clause-link
returns-clause-link g c = KeepsLink-more g.L.Link.told g.L.Link.patience g.L.Link.opened_with g.L.Link.faults g.L.Link.made g.L.Link.openings 0 1 c.args.link.now c.loop-taken.link (omega arith) c.loop-taken.invariant.link
