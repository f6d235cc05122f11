-- At a covered moment a puller uses the keys that the publisher uses.
use Rattle.std.proofs.Common.{◌≡◌, ℕ, zero, suc, ◌+◌, ◌-◌, ◌<◌, ◌≤◌, Bool, inl, inr, List, length, get_or, Option, Some, sym, ap, subst, ◌∙◌, arith}
use Rattle.std.proofs.lemmas.Bool.Decides.{leb_tells}
use Rattle.group_keys.specs.declared.key_set.KeySet.{KeySet}
use Rattle.group_keys.specs.declared.ring.Ring.{Ring}
use Rattle.group_keys.specs.Faults.{IsAccepted}
use Rattle.group_keys.specs.KeySets.{moments, current}
use Rattle.group_keys.specs.Ring.{key_sets, is_long}
use Rattle.key_service.specs.Services.{lifetime_of, IsServed}
use Rattle.key_service.specs.Answers.{answer, answered, next_of, left_of}
use Rattle.key_service.specs.Pulled.{as_read, from_moment, moment_of, timed_from}
use Rattle.key_service.specs.Laws.{IsCovered, IsServedRing, UsesKeyOfMoment}
use Rattle.key_service.proofs.Covered.{IsAt, far, is_at, placed, timed_at, timed_length, times_more}
use Rattle.key_service.proofs.Pullable.{current_one, moment_later, moments_at, pullable, same_pulled}

-- behind the first pulled set the moments are those of the ring, less the moment of the answer
same_moment : (sets : List KeySet) (now c i : ℕ) (cur : KeySet) → IsServed sets → current sets now ≡ Some cur → IsAt sets now cur c → 0 < i → c + i < length sets
    → moment_of (next_of sets now) (lifetime_of sets) i + now ≡ get_or (moments sets) (c + i) 0
same_moment sets now c zero cur served cur_is at some inside = absurd (omega (arith, some))
same_moment sets now c (suc i) cur served cur_is at some inside =
    let L = lifetime_of sets in
    let after : c + 1 < length sets = omega (arith, inside) in
    let next : next_of sets now ≡ (cur.from + L) - now = ap (λ (o : Option KeySet). left_of o L now) cur_is in
    omega (arith, moment_later (next_of sets now) L i, times_more i L, far sets served c (suc i) inside, far sets served c 1 after, at.later (c + 1) (omega arith) after, at.from, next)

-- the pulled set of a moment stands where the answered one stands
same_place : (sets pulled : List KeySet) (now u : ℕ) (cur set x : KeySet) (c j k : ℕ) → now ≤ u → c ≤ j → IsAt sets u set j → IsAt pulled (u - now) x k
    → j - c < length pulled → c + length pulled ≤ length sets
    → ((i : ℕ) → 0 < i → i < length pulled → get_or (moments pulled) i 0 + now ≡ get_or (moments sets) (c + i) 0) → k ≡ j - c
same_place sets pulled now u cur set x c j k begun order b at within few same = elim (leb_tells k (j - c)) [
  | inl t ↦ elim (leb_tells (j - c) k) [
    | inl s ↦ omega (arith, t.1, s.1)
    | inr f ↦ (
        let there : c + (j - c) ≡ j = omega (arith, order) in
        absurd (omega (arith, at.later (j - c) (omega (arith, f.1)) within, same (j - c) (omega (arith, f.1)) within, ap (λ (n : ℕ). get_or (moments sets) n 0) there, b.from, b.come, begun))
        )
  ]
  | inr f ↦ absurd (omega (arith, same k (omega (arith, f.1)) at.within, at.from, at.come, begun, b.later (c + k) (omega (arith, f.1, order)) (omega (arith, at.within, few))))
]

used : (long : Bool) (sets : List KeySet) (now count u : ℕ) (cur set x : KeySet) → IsAccepted long sets → IsServed sets → IsCovered sets now count u
    → current sets now ≡ Some cur → current sets u ≡ Some set
    → let pulled = timed_from (next_of sets now) (lifetime_of sets) 0 (answered sets now 0 count) in
    IsAccepted long pulled → current pulled (u - now) ≡ Some x → (from : ℕ) × (current pulled (u - now) ≡ Some (from_moment set from))
used long sets now count u cur set x accepted served cover cur_is set_is accepted_there x_is =
    let at = placed long sets now count u cur set accepted served cover cur_is set_is in
    let c = at.0 in
    let j = at.1 in
    let p = at.2 in
    let i = j - c in
    let next = next_of sets now in
    let L = lifetime_of sets in
    let some_sets = answered sets now 0 count in
    let pulled = timed_from next L 0 some_sets in
    let many = timed_length next L 0 some_sets in
    let few : c + length some_sets ≤ length sets = omega (arith, p.size, p.now_at.within) in
    let y = is_at pulled (u - now) x accepted_there.rises.moments_rise x_is in
    let same : y.0 ≡ i = same_place sets pulled now u cur set x c j y.0 cover.begun p.order p.then_at y.1 (omega (arith, many, p.within)) (omega (arith, many, few))
    (λ n some within. (
    let inside : n < length some_sets = omega (arith, within, many) in
    let here = moments_at next L some_sets n inside in
    omega (arith, here, same_moment sets now c n cur served cur_is p.now_at some (omega (arith, inside, few)))
    )) in
    let zero_i : 0 + i ≡ i = omega arith in
    let is : x ≡ from_moment set (moment_of next L i) =
    y.1.here ∙ ap (λ (n : ℕ). get_or pulled n x) same ∙ timed_at next L 0 some_sets i set x p.within
    ∙ ap (λ (n : ℕ). from_moment (get_or some_sets i set) (moment_of next L n)) zero_i ∙ ap (λ (s : KeySet). from_moment s (moment_of next L i)) (sym p.here) in
    (moment_of next L i, x_is ∙ ap Some is)

pub puller_uses : (ring : Ring) (now count : ℕ) → IsServedRing ring → UsesKeyOfMoment ring now count (answer ring now 0 count)
puller_uses ring now count is moment set cover set_is =
    let sets = key_sets ring in
    let pulled = timed_from (next_of sets now) (lifetime_of sets) 0 (answered sets now 0 count) in
    let cur = current_one (is_long ring) sets now is.accepted in
    let there = (pullable ring now count is).accepted in
    let x = current_one (is_long ring) pulled (moment - now) there in
    used (is_long ring) sets now count moment cur.0 set x.0 is.accepted is.served cover cur.1 set_is there x.1

pub used_read_back : (ring : Ring) (now count : ℕ) → IsServedRing ring → UsesKeyOfMoment ring now count (as_read (answer ring now 0 count))
used_read_back ring now count is moment set cover set_is =
    subst (λ (pulled : List KeySet). (from : ℕ) × (current pulled (moment - now) ≡ Some (from_moment set from))) (sym (same_pulled (answer ring now 0 count)))
    (puller_uses ring now count is moment set cover set_is)
