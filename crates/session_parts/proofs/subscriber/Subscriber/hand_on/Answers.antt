use Rattle.std.proofs.Common.{◌≡◌, ◌+◌, ℕ, arith, subst}
use Rattle.session_parts.proofs.Handing.{HandedTo, handed-all, handed-more, handed-none}
use Rattle.session_parts.proofs.subscriber.Subscriber.hand_on.Goals as goal

pub loop-r-init : goal.loop-r-init
loop-r-init c = record {
  holds = c.requires.holds;
  handed = handed-none c.args.config.now c.args.tree.now c.args.moment c.args.datagram.now c.args.self.now;
}

pub hand_copy-requires-clause-may : goal.hand_copy-requires-clause-may
hand_copy-requires-clause-may c = record {
  good = c.requires.good;
  within = let last = c.in-Some.ensures in omega (arith, c.loop-r-test.true, last.0, last.1, c.len.ensures, c.args.self.now.groups.ok.0, c.requires.holds.groups.count);
  holds = c.loop-r.invariant.holds;
  counts = c.requires.tree;
}

pub loop-r-preserved : goal.loop-r-preserved
loop-r-preserved c = record {
  holds = c.hand_copy.ensures.holds;
  handed = handed-more c.args.config.now c.args.tree.now c.args.moment c.args.datagram.now c.loop-r.r c.args.self.now c.loop-r.self c.hand_copy.new.self c.loop-r.invariant.handed c.hand_copy.ensures.hands;
}

pub returns-clause-got : goal.returns-clause-got
returns-clause-got c =
    let last = c.in-Some.ensures in
    let at : c.loop-r.r ≡ c.in-Some.last = omega (arith, c.loop-r-test.false, c.loop-r.auto.r-end) in
    handed-all c.args.config.now c.args.tree.now c.args.moment c.args.datagram.now (c.in-Some.last + 1) c.args.self.now c.hand.new.self
    (omega (arith, last.0, last.1, c.len.ensures, c.args.self.now.groups.ok.0, c.requires.holds.groups.count))
    (handed-more c.args.config.now c.args.tree.now c.args.moment c.args.datagram.now c.in-Some.last c.args.self.now c.loop-r.self c.hand.new.self
    (subst (λ (n : ℕ). HandedTo c.args.config.now c.args.tree.now c.args.moment c.args.datagram.now n c.args.self.now c.loop-r.self) at c.loop-r.invariant.handed)
    c.hand.ensures.hands)
