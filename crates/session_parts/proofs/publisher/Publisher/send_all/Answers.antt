use Rattle.std.proofs.Common.{◌≡◌, ◌<◌, ℕ, List, [], ◌∷◌, ◌++◌, length, take, get_or, refl, ap, sym, ◌∙◌, subst, arith}
use Rattle.std.proofs.Math.Seq.{take-length}
use Rattle.ua_base.proofs.Links.{KeepsLink-refl, KeepsLink-then, stays_open}
use Rattle.writer_group.specs.declared.datagrams.Datagrams.{Datagrams}
use Rattle.writer_group.specs.Standing.{IsReserved, datagrams_in}
use Rattle.session_model.specs.Sends.{sends_by}
use Rattle.session_parts.specs.declared.publisher.Publisher.{Publisher}
use Rattle.session_parts.specs.Ticking.{HaveBeenSent}
use Rattle.session_parts.proofs.Halting.{been-unsent}
use Rattle.session_parts.proofs.Sent.{none-been, next-been}
use Rattle.session_parts.proofs.publisher.Publisher.send_all.Goals as goal

pub loop-i-init : goal.loop-i-init
loop-i-init g c = record {
  sent = ([], none-been c.args.self.now (g.L.Link.told c.args.link.now));
  count = refl;
  rest = refl;
  link = KeepsLink-refl g.L.Link.told g.L.Link.patience g.L.Link.opened_with g.L.Link.faults g.L.Link.made g.L.Link.openings c.args.link.now;
}

pub send_one-requires-clause-open : goal.send_one-requires-clause-open
send_one-requires-clause-open g c =
    stays_open g.L.Link.told g.L.Link.patience g.L.Link.opened_with g.L.Link.faults g.L.Link.made g.L.Link.openings 0 c.args.link.now c.loop-i.link c.loop-i.invariant.link c.requires.open

pub send_one-requires-clause-reserved : goal.send_one-requires-clause-reserved
send_one-requires-clause-reserved g c =
    let same : c.loop-i.self.out ≡ c.args.self.now.out = ap (λ (p : Publisher). p.out) c.loop-i.invariant.rest in
    subst IsReserved (sym same) c.requires.reserved

pub send_one-requires-clause-index : goal.send_one-requires-clause-index
send_one-requires-clause-index g c =
    let same : c.loop-i.self.out ≡ c.args.self.now.out = ap (λ (p : Publisher). p.out) c.loop-i.invariant.rest in
    subst (λ (o : Datagrams). c.loop-i.i < length (datagrams_in o)) (sym same) (omega (arith, c.loop-i-test.true, c.requires.count))

pub loop-i-preserved : goal.loop-i-preserved
loop-i-preserved g c =
    let inv = c.loop-i.invariant in
    let e = c.in-Done.ensures in
    let old = c.args.self.now in
    let mid = c.loop-i.self in
    let new = c.send_one.new.self in
    let told = g.L.Link.told c.args.link.now in
    let between = g.L.Link.told c.loop-i.link in
    let after = g.L.Link.told c.send_one.new.link in
    let more = e.sent refl in
    let same : mid.out ≡ old.out = ap (λ (p : Publisher). p.out) inv.rest in
    record {
      sent = (
        inv.sent.0 ++ more.0 ∷ [],
        next-been c.args.g c.loop-i.i (datagrams_in old.out) inv.sent.0 more.0 old mid new told between after
            (omega (arith, c.loop-i-test.true, c.requires.count)) (omega (arith, inv.count, mid.sends.ok.0, old.sends.ok.0)) inv.sent.1
            (subst (λ (o : Datagrams). HaveBeenSent (sends_by c.args.g (get_or (datagrams_in o) c.loop-i.i [] ∷ [])) (more.0 ∷ []) mid new between after) same more.1),
      );
      count = e.count ∙ inv.count;
      rest = e.rest ∙ ap (λ (p : Publisher). record p { sends = new.sends; link = new.link }) inv.rest;
      link = KeepsLink-then g.L.Link.told g.L.Link.patience g.L.Link.opened_with g.L.Link.faults g.L.Link.made g.L.Link.openings 0 0 c.args.link.now c.loop-i.link c.send_one.new.link inv.link e.link;
    }

pub returns-in-Memory-clause-link : goal.returns-in-Memory-clause-link
returns-in-Memory-clause-link g c =
    KeepsLink-then g.L.Link.told g.L.Link.patience g.L.Link.opened_with g.L.Link.faults g.L.Link.made g.L.Link.openings 0 0 c.args.link.now c.loop-i.link c.send_one.new.link c.loop-i.invariant.link c.in-Memory.ensures.link

pub returns-clause-sent : goal.returns-clause-sent
returns-clause-sent g c =
    λ is.
    let inv = c.loop-i.invariant in
    let datagrams = datagrams_in c.args.self.now.out in
    let told = g.L.Link.told c.args.link.now in
    let after = g.L.Link.told c.loop-i.link in
    let all : c.loop-i.i ≡ length datagrams = omega (arith, c.loop-i-test.false, c.loop-i.auto.i-end, c.requires.count) in (
      inv.sent.0,
      subst (λ (l : List (List ℕ)). HaveBeenSent (sends_by c.args.g l) inv.sent.0 c.args.self.now c.loop-i.self told after)
          (ap (λ (n : ℕ). take n datagrams) all ∙ take-length datagrams) inv.sent.1,
    )

pub returns-in-Memory-clause-halted : goal.returns-in-Memory-clause-halted
returns-in-Memory-clause-halted g c =
    λ is.
    let inv = c.loop-i.invariant in
    record {
      count = c.loop-i.i;
      fewer = omega (arith, c.loop-i-test.true, c.requires.count);
      done = inv.sent.0;
      sent = been-unsent _ inv.sent.0 c.args.self.now c.loop-i.self c.send_one.new.self (g.L.Link.told c.args.link.now) (g.L.Link.told c.loop-i.link)
          (g.L.Link.told c.send_one.new.link) inv.sent.1 (c.in-Memory.ensures.unsent refl);
    }
