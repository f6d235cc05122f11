use Rattle.std.proofs.Common.{◌≡◌, ℕ, ◌<◌, List, length, get_or, ap, subst, arith, ◌∙◌}
use Rattle.std.specs.Prelude.{Some}
use Rattle.group_keys.specs.KeySets.{current}
use Rattle.group_keys.specs.Ring.{key_sets}
use Rattle.group_keys.specs.declared.key_set.KeySet.{KeySet}
use Rattle.device.proofs.Begins.{timely-more}
use Rattle.device.proofs.Rings.{ring-at, rings-count}
use Rattle.device.proofs.publisher.Publisher.later_token.Goals as goal

pub index-requires : goal.index-requires
index-requires c =
    let self = c.args.self.now in
    omega (arith, c.loop-k-test.true, c.len-k-end.ensures, self.senders.ok.0, self.rings.ok.0, rings-count self.senders.items self.rings.items c.requires.rings_are)

pub returns-then-at-token-clause-later : goal.returns-then-at-token-clause-later
returns-then-at-token-clause-later c = λ d.
    let self = c.args.self.now in
    let k = c.loop-k.k in
    let low : k < length self.senders.items = omega (arith, c.loop-k-test.true, c.len-k-end.ensures, self.senders.ok.0) in
    let sets : key_sets c.index.result.now ≡ (get_or self.senders.items k d).sets = ap key_sets c.index.ensures ∙ ring-at self.senders.items self.rings.items k d c.index.result.now c.requires.rings_are low in
    record {
      set = c.at.result.now;
      is = subst (λ (l : List KeySet). current l c.args.now ≡ Some c.at.result.now) sets c.at.ensures.last;
      earlier = omega (arith, c.if-at-token.true, ap (λ (p : ℕ × ℕ). p.0) c.pair_in-token.ensures);
    }

pub loop-k-preserved : goal.loop-k-preserved
loop-k-preserved c =
    let self = c.args.self.now in
    let k = c.loop-k.k in
    let low : k < length self.senders.items = omega (arith, c.loop-k-test.true, c.len-k-end.ensures, self.senders.ok.0) in
    timely-more c.args.now k c.args.state.now.words self.senders.items self.rings.items c.index.result.now c.at.result.now c.requires.rings_are low c.index.ensures c.at.ensures.last
    (omega (arith, c.if-at-token.false, ap (λ (p : ℕ × ℕ). p.0) c.pair_in-token.ensures)) c.loop-k.invariant
