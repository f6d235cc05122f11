use Rattle.std.proofs.Common.{◌≡◌, ◌<◌, ℕ, length, ap, subst, arith}
use Rattle.std.specs.Vec.{with_item}
use Rattle.session_parts.specs.declared.subscriber.Subscriber.{Subscriber}
use Rattle.session_parts.proofs.Each.{EachTo, each-more}
use Rattle.session_parts.proofs.Expiring.{ExpiresAt, expired-hold, expired-read}
use Rattle.session_parts.proofs.subscriber.Subscriber.expire.Goals as goal

pub loop-r-preserved : goal.loop-r-preserved
loop-r-preserved c =
    let e = c.expire.ensures in
    let mid = c.loop-r.self.groups.items in
    let low : c.loop-r.r < length mid = omega (arith, c.loop-r-test.true, c.len-r-end.ensures, c.args.self.now.groups.ok.0, c.loop-r.invariant.each.count) in
    record {
      each = each-more (ExpiresAt c.args.moment) c.loop-r.r c.args.self.now.groups.items mid c.index_mut.result.now c.expire.new.self low c.index_mut.ensures.value
          (record { index = e.index; made = e.made; steps = e.step }) c.loop-r.invariant.each;
      rest = ap (λ (s : Subscriber). record s { groups = with_item c.loop-r.self.groups c.loop-r.r c.expire.new.self }) c.loop-r.invariant.rest;
    }

pub returns-clause-holds : goal.returns-clause-holds
returns-clause-holds c =
    let old = c.args.self.now in
    let all : c.loop-r.r ≡ length old.groups.items = omega (arith, c.loop-r-test.false, c.loop-r.auto.r-end, c.len-r-end.ensures, old.groups.ok.0) in
    expired-hold c.args.moment old c.loop-r.self
    (subst (λ (n : ℕ). EachTo (ExpiresAt c.args.moment) n old.groups.items c.loop-r.self.groups.items) all c.loop-r.invariant.each)
    (ap (λ (s : Subscriber). s.tallies) c.loop-r.invariant.rest)

pub returns-clause-read : goal.returns-clause-read
returns-clause-read c =
    let old = c.args.self.now in
    let all : c.loop-r.r ≡ length old.groups.items = omega (arith, c.loop-r-test.false, c.loop-r.auto.r-end, c.len-r-end.ensures, old.groups.ok.0) in
    expired-read c.args.moment old c.loop-r.self
    (subst (λ (n : ℕ). EachTo (ExpiresAt c.args.moment) n old.groups.items c.loop-r.self.groups.items) all c.loop-r.invariant.each)
