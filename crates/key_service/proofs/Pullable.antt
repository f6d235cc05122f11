-- A puller can make a ring of an answer that begins at the current set.
use Rattle.std.proofs.Common.{◌≡◌, ℕ, zero, suc, ◌+◌, ◌-◌, ◌*◌, ◌^◌, ◌<◌, ◌≤◌, ◌==◌, ◌&&◌, nat_lt, max, min, Bool, true, inl, inr, List, [], ◌∷◌, length, map, take, drop, get_or, Option, Some, None, refl, sym, ap, subst, ◌∙◌, arith}
use Rattle.std.specs.Prelude.{if◌then◌else◌, is_some}
use Rattle.group_keys.proofs.Finding.{some_last}
use Rattle.key_service.specs.declared.service.Keys.{Keys}
use Rattle.key_service.proofs.Looking.{not_equal}
use Rattle.key_service.specs.Laws.{IsSetOf, AreSets, IsReply, IsServedRing}
use Rattle.std.proofs.lemmas.Bool.Decides.{eqb_tells}
use Rattle.std.proofs.lemmas.List.Folds.{find_at}
use Rattle.std.proofs.lemmas.Option.{slice_get_cases}
use Rattle.std.specs.List.Sorted.{IsStrictlyIncreasing}
use Rattle.std.proofs.lemmas.Bool.{lt-ltb}
use Rattle.std.proofs.lemmas.List.{get_or-map, get_or-take, get_or-drop, length-map, length-take, length-drop}
use Rattle.group_keys.specs.declared.key_set.KeySet.{KeySet}
use Rattle.group_keys.specs.declared.ring.Ring.{Ring}
use Rattle.group_keys.specs.Faults.{IsAccepted}
use Rattle.group_keys.specs.InMemory.{AreKeySets}
use Rattle.group_keys.specs.Ring.{key_sets, is_long}
use Rattle.group_keys.specs.KeySets.{tokens, moments, encrypting_lengths, current}
use Rattle.key_service.specs.Services.{lifetime_of, IsServed}
use Rattle.key_service.specs.Answers.{answered, next_of, left_of, answer, from_token, place_of, token_asked}
use Rattle.key_service.specs.Pulled.{from_moment, moment_of, timed_from, moments_fit, IsPullable, pulled_sets, as_read}
use Rattle.key_service.proofs.Covered.{IsAt, is_at, far, rising, answered_from, timed_at, timed_length, timed_tokens, times_more, at_least_one, inside_is}

fit_each : (next lifetime base : ℕ) (sets : List KeySet) → ((i : ℕ) → i < length sets → moment_of next lifetime (base + i) < 2 ^ 64) → moments_fit next lifetime base sets ≡ true
fit_each next lifetime base [] each = refl
fit_each next lifetime base (set ∷ sets) each =
    let none : base + 0 ≡ base = omega arith in
    let here : nat_lt (moment_of next lifetime base) (2 ^ 64) ≡ true = lt-ltb (moment_of next lifetime base) (2 ^ 64) (subst (λ (n : ℕ). moment_of next lifetime n < 2 ^ 64) none (each 0 (omega arith))) in
    let rest = fit_each next lifetime (base + 1) sets (λ i within. subst (λ (n : ℕ). moment_of next lifetime n < 2 ^ 64) (same base i) (each (suc i) (omega arith))) in
    ap (λ (b : Bool). b && moments_fit next lifetime (base + 1) sets) here ∙ rest
  where
    same : (base i : ℕ) → base + suc i ≡ base + 1 + i
    same base i = omega arith

pub moment_later : (next lifetime k : ℕ) → moment_of next lifetime (suc k) ≡ next + k * lifetime
moment_later next lifetime k =
    let back : suc k - 1 ≡ k = omega arith in
    ap (λ (b : Bool). if b then 0 else next + (suc k - 1) * lifetime) (not_equal (suc k) 0 (λ e. omega (arith, e)))
    ∙ ap (λ (n : ℕ). next + n * lifetime) back

-- a puller's moment of an index isn't past the ring's
moment_bound : (next lifetime first i : ℕ) → next ≤ lifetime → moment_of next lifetime i ≤ first + i * lifetime
moment_bound next lifetime first zero small = omega arith
moment_bound next lifetime first (suc i) small = omega (arith, times_more i lifetime, moment_later next lifetime i, small)

pub moments_small : (long : Bool) (sets few : List KeySet) (next : ℕ) → IsServed sets → length few ≤ length sets → next ≤ lifetime_of sets
    → ((k : ℕ) → k < length sets → get_or (moments sets) k 0 < 2 ^ 64) → moments_fit next (lifetime_of sets) 0 few ≡ true
moments_small long sets few next served shorter small each =
    fit_each next (lifetime_of sets) 0 few
    (λ i within. (
    let zero_i : 0 + i ≡ i = omega arith in
    let inside : 0 + i < length sets = omega (arith, within, shorter) in
    let there = far sets served 0 i inside in
    let bound = moment_bound next (lifetime_of sets) (get_or (moments sets) 0 0) i small in
    let at = ap (λ (n : ℕ). moment_of next (lifetime_of sets) n) zero_i in
    omega (arith, there, bound, at, each (0 + i) inside)
    ))

pub next_small : (sets : List KeySet) (now : ℕ) (cur : KeySet) → current sets now ≡ Some cur → cur.from ≤ now → next_of sets now ≤ lifetime_of sets
next_small sets now cur is come =
    let next : next_of sets now ≡ (cur.from + lifetime_of sets) - now = ap (λ (o : Option KeySet). left_of o (lifetime_of sets) now) is in
    omega (arith, next, come)

timed_lengths : (next lifetime base : ℕ) (sets : List KeySet) → encrypting_lengths (timed_from next lifetime base sets) ≡ encrypting_lengths sets
timed_lengths next lifetime base [] = refl
timed_lengths next lifetime base (set ∷ sets) = ap (λ (l : List ℕ). length set.encrypting.items ∷ l) (timed_lengths next lifetime (base + 1) sets)

abbrev pub none_set : KeySet
none_set = record { token = 0; from = 0; signing = []; encrypting = record { items = [] }; nonce = [] }

-- f of an answered set is f of the ring's
pub answered_at : (f : KeySet → ℕ) (sets : List KeySet) (m c k : ℕ) → k < length (take m (drop c sets)) → k < m → c + k < length sets
    → get_or (map f (take m (drop c sets))) k 0 ≡ get_or (map f sets) (c + k) 0
answered_at f sets m c k within below inside =
    get_or-map f (take m (drop c sets)) k none_set 0 within
    ∙ ap f (get_or-take m (drop c sets) k none_set below ∙ get_or-drop c sets k none_set)
    ∙ sym (get_or-map f sets (c + k) none_set 0 inside)

pub moments_at : (next lifetime : ℕ) (sets : List KeySet) (k : ℕ) → k < length sets → get_or (moments (timed_from next lifetime 0 sets)) k 0 ≡ moment_of next lifetime k
moments_at next lifetime sets k within =
    let zero_k : 0 + k ≡ k = omega arith in
    get_or-map (λ (s : KeySet). s.from) (timed_from next lifetime 0 sets) k none_set 0 (omega (arith, within, timed_length next lifetime 0 sets))
    ∙ ap (λ (s : KeySet). s.from) (timed_at next lifetime 0 sets k none_set none_set within)
    ∙ ap (moment_of next lifetime) zero_k

moment_rises : (next lifetime k : ℕ) → 0 < next → 0 < lifetime → moment_of next lifetime k < moment_of next lifetime (k + 1)
moment_rises next lifetime zero some long = omega arith
moment_rises next lifetime (suc k) some long =
    let plus : suc k + 1 ≡ suc (suc k) = omega arith in
    omega (arith, moment_later next lifetime k, moment_later next lifetime (suc k), ap (moment_of next lifetime) plus, times_more k lifetime, long)

pub accepted_again : (long : Bool) (sets : List KeySet) (now count : ℕ) (cur : KeySet) → IsAccepted long sets → IsServed sets → current sets now ≡ Some cur
    → IsAccepted long (timed_from (next_of sets now) (lifetime_of sets) 0 (answered sets now 0 count))
accepted_again long sets now count cur accepted served cur_is =
    let a = is_at sets now cur accepted.rises.moments_rise cur_is in
    by_place a.0 a.1
  where
    by_place : (c : ℕ) → IsAt sets now cur c → IsAccepted long (timed_from (next_of sets now) (lifetime_of sets) 0 (answered sets now 0 count))
    by_place c at =
        subst (λ (l : List KeySet). IsAccepted long (timed_from next L 0 l)) (sym (answered_from sets now count c cur accepted.rises.tokens_rise cur_is at)) (record {
          has_key = omega (arith, timed_length next L 0 few, some);
          rises = record {
            tokens_rise = subst IsStrictlyIncreasing (sym (timed_tokens next L 0 few))
                (λ k within. (
                let inside : k + 1 < length few = omega (arith, within, length-map few (λ (s : KeySet). s.token)) in
                let plus : c + (k + 1) ≡ c + k + 1 = omega arith in
                let here = answered_at (λ (s : KeySet). s.token) sets m c k (omega (arith, inside)) (omega (arith, inside, at_most)) (omega (arith, inside, left)) in
                let there = answered_at (λ (s : KeySet). s.token) sets m c (k + 1) inside (omega (arith, inside, at_most)) (omega (arith, inside, left)) in
                let step = accepted.rises.tokens_rise (c + k) (omega (arith, inside, left, length-map sets (λ (s : KeySet). s.token))) in
                omega (arith, here, there, step, ap (λ (n : ℕ). get_or (tokens sets) n 0) plus)
                ));
            moments_rise = λ k within. (
                let inside : k + 1 < length few = omega (arith, within, length-map (timed_from next L 0 few) (λ (s : KeySet). s.from), timed_length next L 0 few) in
                let here = moments_at next L few k (omega (arith, inside)) in
                let there = moments_at next L few (k + 1) inside in
                let after : c + 1 < length sets = omega (arith, inside, left) in
                let step = far sets served c 1 after in
                let late = at.later (c + 1) (omega arith) after in
                let some_left : 0 < next = omega (arith, step, late, at.from, next_is) in
                let apart : 0 < L = omega (arith, step, rising (moments sets) c (c + 1) accepted.rises.moments_rise (omega arith) (omega (arith, after, length-map sets (λ (s : KeySet). s.from)))) in
                omega (arith, here, there, moment_rises next L k some_left apart)
                );
          };
          first_at_zero = moments_at next L few 0 some;
          lengths_fit = λ k within. (
              let inside : k < length few = omega (arith, within, timed_length next L 0 few) in
              ap (λ (l : List ℕ). get_or l k 0) (timed_lengths next L 0 few)
              ∙ answered_at (λ (s : KeySet). length s.encrypting.items) sets m c k inside (omega (arith, inside, at_most)) (omega (arith, inside, left))
              ∙ accepted.lengths_fit (c + k) (omega (arith, inside, left))
              );
        })
      where
        next : ℕ
        next = next_of sets now

        L : ℕ
        L = lifetime_of sets

        m : ℕ
        m = max 1 count

        few : List KeySet
        few = take m (drop c sets)

        next_is : next ≡ (cur.from + L) - now
        next_is = ap (λ (o : Option KeySet). left_of o L now) cur_is

        size : length few ≡ min m (length sets - c)
        size = length-take m (drop c sets) ∙ ap (min m) (length-drop c sets)

        at_most : length few ≤ m
        at_most = omega (arith, size)

        left : length few ≤ length sets - c
        left = omega (arith, size)

        some : 0 < length few
        some = inside_is (length few) m (length sets - c) 0 size (at_least_one count) (omega (arith, at.within))

shorter : (sets : List KeySet) (now count : ℕ) (cur : KeySet) (c : ℕ) → IsStrictlyIncreasing (tokens sets) → current sets now ≡ Some cur → IsAt sets now cur c → length (answered sets now 0 count) ≤ length sets
shorter sets now count cur c rises is at =
    omega (arith, ap length (answered_from sets now count c cur rises is at), length-take (max 1 count) (drop c sets), length-drop c sets)

-- what the numbers of sets are in memory
moment_small : (sets : List KeySet) → AreKeySets sets → (k : ℕ) → k < length sets → get_or (moments sets) k 0 < 2 ^ 64
moment_small sets kept k within = omega (arith, get_or-map (λ (s : KeySet). s.from) sets k none_set 0 within, (kept.each k none_set within).moment)

token_small : (sets : List KeySet) → AreKeySets sets → (k : ℕ) → k < length sets → get_or (tokens sets) k 0 < 2 ^ 32
token_small sets kept k within = omega (arith, get_or-map (λ (s : KeySet). s.token) sets k none_set 0 within, (kept.each k none_set within).token)

-- some set is current
pub current_one : (long : Bool) (sets : List KeySet) (now : ℕ) → IsAccepted long sets → (cur : KeySet) × (current sets now ≡ Some cur)
current_one long sets now accepted = by_found (current sets now) refl
  where
    by_found : (o : Option KeySet) → current sets now ≡ o → (cur : KeySet) × (current sets now ≡ Some cur)
    by_found None none = absurd (some_last (λ (s : KeySet). s.from) now sets accepted.has_key accepted.first_at_zero none)
    by_found (Some cur) is = (cur, is)

pub pullable : (ring : Ring) (now count : ℕ) → IsServedRing ring → IsPullable (answer ring now 0 count)
pullable ring now count is =
    let cur = current_one (is_long ring) (key_sets ring) now is.accepted in by_current cur.0 cur.1
  where
    by_current : (cur : KeySet) → current (key_sets ring) now ≡ Some cur → IsPullable (answer ring now 0 count)
    by_current cur cur_is =
        let sets = key_sets ring in
        let a = is_at sets now cur is.accepted.rises.moments_rise cur_is in record {
          fit = moments_small (is_long ring) sets (answered sets now 0 count) (next_of sets now) is.served
              (shorter sets now count cur a.0 is.accepted.rises.tokens_rise cur_is a.1) (next_small sets now cur cur_is a.1.come) (moment_small sets is.in_memory);
          accepted = accepted_again (is_long ring) sets now count cur is.accepted is.served cur_is;
        }

-- an answer is a reply
pub each_set : (long : Bool) (token : ℕ) (sets : List KeySet) → ((i : ℕ) → i < length sets → IsSetOf long (token + i) (get_or sets i none_set)) → AreSets long token sets
each_set long token [] each = tt
each_set long token (set ∷ sets) each =
    let none : token + 0 ≡ token = omega arith in (
      subst (λ (n : ℕ). IsSetOf long n set) none (each 0 (omega arith)),
      each_set long (token + 1) sets (λ i within. subst (λ (n : ℕ). IsSetOf long n (get_or sets i none_set)) (next i) (each (suc i) (omega arith))),
    )
  where
    next : (i : ℕ) → token + suc i ≡ token + 1 + i
    next i = omega arith

token_steps : (sets : List KeySet) → IsServed sets → (c i : ℕ) → c + i < length sets → get_or (tokens sets) (c + i) 0 ≡ get_or (tokens sets) c 0 + i
token_steps sets served c zero within = let none : c + 0 ≡ c = omega arith in omega (arith, ap (λ (k : ℕ). get_or (tokens sets) k 0) none)
token_steps sets served c (suc i) within =
    let back : c + suc i - 1 ≡ c + i = omega arith in
    let here : get_or (tokens sets) (c + suc i) 0 ≡ get_or (tokens sets) (c + suc i - 1) 0 + 1 = step (c + suc i) (omega arith) within in
    omega (arith, here, ap (λ (k : ℕ). get_or (tokens sets) k 0) back, token_steps sets served c i (omega arith))
  where
    step : (k : ℕ) → 0 < k → k < length sets → get_or (tokens sets) k 0 ≡ get_or (tokens sets) (k - 1) 0 + 1
    step k some within = elim (eqb_tells (get_or (tokens sets) k 0) (get_or (tokens sets) (k - 1) 0 + 1)) [
      | inl t ↦ t.1
      | inr f ↦ absurd (served.consecutive k (record { has_one_before = some; in_range = within; apart = f.1 }))
    ]

pub from_place : (sets : List KeySet) (token : ℕ) → 0 < length sets → (c : ℕ) × ((c < length sets) × (from_token sets token ≡ drop c sets))
from_place sets token some = elim (slice_get_cases sets (place_of sets token)).1 [
  | inl here ↦ (place_of sets token, (here.1, ap (λ (o : Option KeySet). if is_some o then drop (place_of sets token) sets else sets) (find_at (λ (s : KeySet). s.token == token) sets ∙ here.2)))
  | inr past ↦ (0, (some, ap (λ (o : Option KeySet). if is_some o then drop (place_of sets token) sets else sets) (find_at (λ (s : KeySet). s.token == token) sets ∙ past.1)))
]

pub reply_of_answer : (ring : Ring) (now start count : ℕ) → IsServedRing ring → IsReply (answer ring now start count)
reply_of_answer ring now start count is =
    let at = from_place (key_sets ring) (token_asked (key_sets ring) now start) is.accepted.has_key in
    let cur = current_one (is_long ring) (key_sets ring) now is.accepted in by_place cur.0 cur.1 at.0 at.1.0 at.1.1
  where
    by_place : (cur : KeySet) → current (key_sets ring) now ≡ Some cur → (c : ℕ) → c < length (key_sets ring) → from_token (key_sets ring) (token_asked (key_sets ring) now start) ≡ drop c (key_sets ring) → IsReply (answer ring now start count)
    by_place cur cur_is c inside place = record {
      some = subst (λ (l : List KeySet). 0 < length l) (sym got) some;
      few = subst (λ (l : List KeySet). length l ≤ 16) (sym got) (omega (arith, left, is.in_memory.few));
      tokens = subst (λ (l : List KeySet). get_or (tokens l) 0 0 + length l ≤ 2 ^ 32) (sym got) (omega (arith, head, some, left, token_last, token_small sets is.in_memory last (omega (arith, left, some, inside))));
      sets = subst (λ (l : List KeySet). AreSets (is_long ring) (get_or (tokens l) 0 0) l) (sym got) (each_set (is_long ring) (get_or (tokens some_sets) 0 0) some_sets each);
      next = omega (arith, small, lifetime_small);
      lifetime = lifetime_small;
      fit = subst (λ (l : List KeySet). moments_fit (next_of sets now) (lifetime_of sets) 0 l ≡ true) (sym got) (moments_small (is_long ring) sets some_sets (next_of sets now) is.served (omega (arith, left)) small (moment_small sets is.in_memory));
    }
      where
        sets : List KeySet
        sets = key_sets ring

        m : ℕ
        m = max 1 count

        some_sets : List KeySet
        some_sets = take m (drop c sets)

        got : answered sets now start count ≡ some_sets
        got = ap (take m) place

        size : length some_sets ≡ min m (length sets - c)
        size = length-take m (drop c sets) ∙ ap (min m) (length-drop c sets)

        at_most : length some_sets ≤ m
        at_most = omega (arith, size)

        left : length some_sets ≤ length sets - c
        left = omega (arith, size)

        some : 0 < length some_sets
        some = inside_is (length some_sets) m (length sets - c) 0 size (at_least_one count) (omega (arith, inside))

        last : ℕ
        last = c + (length some_sets - 1)

        no_more : c + 0 ≡ c
        no_more = omega arith

        head : get_or (tokens some_sets) 0 0 ≡ get_or (tokens sets) c 0
        head = answered_at (λ (s : KeySet). s.token) sets m c 0 some (omega (arith, some, at_most)) (omega (arith, inside)) ∙ ap (λ (k : ℕ). get_or (tokens sets) k 0) no_more

        token_last : get_or (tokens sets) last 0 ≡ get_or (tokens sets) c 0 + (length some_sets - 1)
        token_last = token_steps sets is.served c (length some_sets - 1) (omega (arith, left, some, inside))

        small : next_of sets now ≤ lifetime_of sets
        small = next_small sets now cur cur_is (is_at sets now cur is.accepted.rises.moments_rise cur_is).1.come

        lifetime_small : lifetime_of sets < 2 ^ 64
        lifetime_small = omega (arith, moment_small sets is.in_memory 1 is.served.two)

        each : (i : ℕ) → i < length some_sets → IsSetOf (is_long ring) (get_or (tokens some_sets) 0 0 + i) (get_or some_sets i none_set)
        each i within =
            let there : c + i < length sets = omega (arith, within, left) in
            let same : get_or some_sets i none_set ≡ get_or sets (c + i) none_set = get_or-take m (drop c sets) i none_set (omega (arith, within, at_most)) ∙ get_or-drop c sets i none_set in
            let token = get_or-map (λ (s : KeySet). s.token) sets (c + i) none_set 0 there in
            let len = get_or-map (λ (s : KeySet). length s.encrypting.items) sets (c + i) none_set 0 there in
            subst (IsSetOf (is_long ring) (get_or (tokens some_sets) 0 0 + i)) (sym same) (record {
              under = omega (arith, token, head, token_steps sets is.served c i there);
              signing = (is.in_memory.each (c + i) none_set there).signing;
              encrypting = sym len ∙ is.accepted.lengths_fit (c + i) there;
              nonce = (is.in_memory.each (c + i) none_set there).nonce;
            })

-- the moments that the sets have don't count
timed_timed : (next lifetime index : ℕ) (sets : List KeySet) → timed_from next lifetime index (timed_from next lifetime index sets) ≡ timed_from next lifetime index sets
timed_timed next lifetime index [] = refl
timed_timed next lifetime index (set ∷ sets) = ap (λ (l : List KeySet). from_moment set (moment_of next lifetime index) ∷ l) (timed_timed next lifetime (index + 1) sets)

fit_timed : (next lifetime index : ℕ) (sets : List KeySet) → moments_fit next lifetime index (timed_from next lifetime index sets) ≡ moments_fit next lifetime index sets
fit_timed next lifetime index [] = refl
fit_timed next lifetime index (set ∷ sets) = ap (λ (b : Bool). nat_lt (moment_of next lifetime index) (2 ^ 64) && b) (fit_timed next lifetime (index + 1) sets)

pub read_back : (keys : Keys) → IsPullable keys → IsPullable (as_read keys)
read_back keys is = record {
  fit = fit_timed keys.next keys.lifetime 0 keys.keys.items ∙ is.fit;
  accepted = subst (IsAccepted keys.long) (sym (timed_timed keys.next keys.lifetime 0 keys.keys.items)) is.accepted;
}

pub same_pulled : (keys : Keys) → pulled_sets (as_read keys) ≡ pulled_sets keys
same_pulled keys = timed_timed keys.next keys.lifetime 0 keys.keys.items
