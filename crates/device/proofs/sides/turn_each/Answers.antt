use Rattle.std.proofs.Common.{◌≡◌, ◌<◌, ◌≤◌, false, length, refl, sym, subst, ◌∙◌, arith}
use Rattle.std.specs.Prelude.{◌↔◌, IsTrue}
use Rattle.std.proofs.lemmas.List.{get_or-set_other, length-set}
use Rattle.std.proofs.lemmas.List.Elements.{All-set}
use Rattle.message_guard.specs.Senders.{IsSender, SenderState, turned}
use Rattle.device.specs.Coming.{HasNewToken}
use Rattle.device.proofs.Firsts.{first-all, first-more, first-next, first-none, zip-map}
use Rattle.device.proofs.Refreshing.{none-raised, raised-more}
use Rattle.device.proofs.sides.turn_each.Goals as goal

pub loop-k-init : goal.loop-k-init
loop-k-init c = record {
  few = refl;
  senders = c.requires.senders;
  state = first-none (λ (was is : SenderState). is ≡ turned was c.args.now) c.args.senders.now;
  raised = λ j d low. absurd (omega (arith, low));
  others = λ j at. none-raised 4 j;
}

pub loop-k-preserved : goal.loop-k-preserved
loop-k-preserved c =
    let invariant = c.loop-k.invariant in
    let old = c.args.senders.now in
    let mid = c.loop-k.senders in
    let k = c.loop-k.k in
    let x = c.index-senders-k.result in
    let state = subst (λ (s : SenderState). c.turn_one.new.sender ≡ turned s c.args.now) (sym c.index-senders-k.is) c.turn_one.ensures.state in
    let changed = subst (λ (s : SenderState). IsTrue c.turn_one.result ↔ HasNewToken c.args.now s) (sym c.index-senders-k.is) c.turn_one.ensures.changed in
    let does = λ (was is : SenderState). is ≡ turned was c.args.now in
    let low : k < length old = omega (arith, c.loop-k-test.true) in
    let room : k < length c.loop-k.raised = omega (arith, low, invariant.few, c.requires.few) in
    record {
      few = length-set c.loop-k.raised k c.turn_one.result ∙ invariant.few;
      senders = All-set IsSender mid k c.turn_one.new.sender c.turn_one.ensures.sender invariant.senders;
      state = first-more does k old mid x c.turn_one.new.sender low c.index-senders-k.is state invariant.state;
      raised = raised-more c.args.now old c.loop-k.raised k x c.turn_one.result room low (c.index-senders-k.is ∙ first-next does k old mid x invariant.state) changed
          invariant.raised;
      others = λ j at. get_or-set_other c.loop-k.raised k j c.turn_one.result false (λ same. omega (arith, same, at)) ∙ invariant.others j (omega (arith, at));
    }

pub returns-clause-state : goal.returns-clause-state
returns-clause-state c =
    let old = c.args.senders.now in
    let does = λ (was is : SenderState). is ≡ turned was c.args.now in
    let all : length old ≤ c.loop-k.k = omega (arith, c.loop-k-test.false) in
    zip-map (λ (sender : SenderState). turned sender c.args.now) old c.loop-k.senders (first-all does c.loop-k.k old c.loop-k.senders all c.loop-k.invariant.state)

pub returns-clause-raised : goal.returns-clause-raised
returns-clause-raised c =
    let all : c.loop-k.k ≡ length c.args.senders.now = omega (arith, c.loop-k-test.false, c.loop-k.auto.k-end) in
    record {
      each = λ j d low. c.loop-k.invariant.raised j d (omega (arith, low, all)) low;
      others = λ j at. c.loop-k.invariant.others j (omega (arith, at, all));
    }
