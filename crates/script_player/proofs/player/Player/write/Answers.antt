use Rattle.std.proofs.Common.{◌≡◌, ℕ, refl, sym, subst, arith}
use Rattle.std.specs.Prelude.{IsSome, OnOk, Some, Option}
use Rattle.std.specs.Vec.{with_item}
use Rattle.std.proofs.lemmas.Result.{on_ok_weaker}
use Rattle.version_cell.specs.Passes.{HasLeft}
use Rattle.version_cell.specs.Sets.{pass_at}
use Rattle.pubsub_engine.specs.Holding.{passes_of}
use Rattle.script_player.specs.declared.hand.Hand.{Hand}
use Rattle.script_player.specs.Player.{IsHand, SeeNoMore}
use Rattle.script_player.proofs.Outcomes.{both-ok}
use Rattle.script_player.proofs.Staying.{hand-holds}
use Rattle.script_player.proofs.Written.{HandWrote, player-writes, player-written}
use Rattle.script_player.proofs.player.Player.write.Goals as goal

pub index_mut-hand-requires : goal.index_mut-hand-requires
index_mut-hand-requires g c = let n = c.requires.player.eight in omega (arith, c.requires.may.bound, c.from.ensures, n, c.args.self.now.hands.ok.0)

pub write-requires-clause-own : goal.write-requires-clause-own
write-requires-clause-own g c =
    let player = c.args.self.now in
    let is = c.requires.player in
    let lt = c.requires.may.bound in
    let hand = c.index_mut-hand.result.now in
    (hand-holds player is c.args.thread c.from.result hand lt c.from.ensures c.index_mut-hand.ensures.value (IsHand player.bank c.args.thread) (is.hands c.args.thread lt)).own

pub write-requires-clause-behind : goal.write-requires-clause-behind
write-requires-clause-behind g c =
    let player = c.args.self.now in
    let is = c.requires.player in
    let lt = c.requires.may.bound in
    let hand = c.index_mut-hand.result.now in
    hand-holds player is c.args.thread c.from.result hand lt c.from.ensures c.index_mut-hand.ensures.value (λ (h : Hand). SeeNoMore h.passes (passes_of player.session)) (is.behind c.args.thread lt)

pub write-requires-clause-numbered : goal.write-requires-clause-numbered
write-requires-clause-numbered g c =
    let player = c.args.self.now in
    let is = c.requires.player in
    let lt = c.requires.may.bound in
    let hand = c.index_mut-hand.result.now in
    let held = hand-holds player is c.args.thread c.from.result hand lt c.from.ensures c.index_mut-hand.ensures.value (IsHand player.bank c.args.thread) (is.hands c.args.thread lt) in
    some-is (pass_at hand.passes c.args.set).author c.args.thread (held.author c.args.set c.requires.may.there)
  where
    some-is : (o : Option ℕ) (n : ℕ) → o ≡ Some n → IsSome o
    some-is o n e = subst IsSome (sym e) refl

pub write-requires-clause-left : goal.write-requires-clause-left
write-requires-clause-left g c =
    let player = c.args.self.now in
    let hand = c.index_mut-hand.result.now in
    hand-holds player c.requires.player c.args.thread c.from.result hand c.requires.may.bound c.from.ensures c.index_mut-hand.ensures.value
    (λ (h : Hand). HasLeft (pass_at h.passes c.args.set)) c.requires.may.left

pub returns : goal.returns
returns g c =
    let player = c.args.self.now in
    let hand = c.index_mut-hand.result.now in
    let after = c.write.new.self in
    let hands = with_item player.hands c.from.result after in
    let e = c.write.ensures in
    let r = c.write.result in
    let known = both-ok _ _ r e.session (both-ok _ _ r e.bank (both-ok _ _ r e.own (both-ok _ _ r e.wrote (both-ok _ _ r e.authors (both-ok _ _ r e.behind (both-ok _ _ r e.samples e.stands)))))) in
    let wrote : OnOk r (HandWrote player c.args.set c.args.patch.now c.write.new.session hand after) = on_ok_weaker r (λ k. record {
      session = k.0;
      bank = k.1.0;
      own = k.1.1.0;
      wrote = k.1.1.1.0;
      authors = k.1.1.1.1.0;
      behind = k.1.1.1.1.1.0;
      samples = k.1.1.1.1.1.1.0;
      stands = k.1.1.1.1.1.1.1;
    }) known in
    record {
      player = on_ok_weaker r (λ w. player-written player c.requires.player c.args.thread c.from.result hand c.requires.may.bound c.from.ensures c.index_mut-hand.ensures.value
          c.args.set c.args.patch.now c.write.new.session after hands refl w) wrote;
      writes = on_ok_weaker r (λ w. player-writes player c.requires.player c.args.thread c.from.result hand c.requires.may.bound c.from.ensures c.index_mut-hand.ensures.value
          c.args.set c.args.patch.now c.write.new.session after hands refl w) wrote;
    }
