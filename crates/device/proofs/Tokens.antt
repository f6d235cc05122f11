-- When a sender has a new token: from the moment of the first key set with a higher one.
use Rattle.std.proofs.Common.{◌≡◌, ◌≢◌, ℕ, ◌<◌, ◌≤◌, ◌⊎◌, inl, inr, Bool, true, false, List, map, get_or, length, nat_le, nat_lt, Bor, leb-true, refl, sym, ap, arith, ◌∙◌}
use Rattle.std.specs.Prelude.{◌==◌, find, Option, Some, None, if◌then◌else◌}
use Rattle.std.specs.Option.{option_copied}
use Rattle.std.specs.List.{IsAmong, position_or_len}
use Rattle.std.specs.List.Sorted.{IsStrictlyIncreasing}
use Rattle.std.proofs.lemmas.Bool.{cases_lt}
use Rattle.std.proofs.lemmas.Bool.Decides.{eqb_tells, nat_tests}
use Rattle.std.proofs.lemmas.List.{get_or-map, length-map}
use Rattle.std.proofs.lemmas.List.Folds.{find_at}
use Rattle.std.proofs.lemmas.List.Kept.{AllPairs-from_increasing}
use Rattle.std.proofs.lemmas.List.Sums.{fails_before_first}
use Rattle.std.proofs.lemmas.Option.{none-some, same_Some, slice_get_cases}
use Rattle.group_keys.specs.KeySets.{Rises, current, moments}
use Rattle.group_keys.specs.declared.key_set.KeySet.{KeySet}
use Rattle.group_keys.specs.Faults.{IsAccepted}
use Rattle.group_keys.proofs.Finding.{found_at, last_found_latest, last_found_listed, last_found_passes, some_last}
use Rattle.message_guard.specs.Protection.{keys_in}
use Rattle.message_guard.specs.Senders.{SenderState, turned_by}
use Rattle.device.specs.Coming.{HasNewToken}
use Rattle.device.specs.Due.{KeepsToken, first_above}

-- ---- places of sets

-- where f rises along the list, it is no less at no earlier index
no_less : (f : KeySet → ℕ) (sets : List KeySet) (i j : ℕ) (a b : KeySet) → IsStrictlyIncreasing (map f sets) → i < length sets → j < length sets → get_or sets i a ≡ a → get_or sets j b ≡ b
    → i ≤ j → f a ≤ f b
no_less f sets i j a b rises low_i low_j is_a is_b order = by_case (eqb_tells i j)
  where
    at_a : get_or (map f sets) i 0 ≡ f a
    at_a = get_or-map f sets i a 0 low_i ∙ ap f is_a

    at_b : get_or (map f sets) j 0 ≡ f b
    at_b = get_or-map f sets j b 0 low_j ∙ ap f is_b

    by_case : ((i == j) ≡ true) × (i ≡ j) ⊎ ((i == j) ≡ false) × (i ≢ j) → f a ≤ f b
    by_case (inl same) = omega (arith, at_a, at_b, ap (λ (k : ℕ). get_or (map f sets) k 0) same.1)
    by_case (inr other) =
        let apart = other.1 in
        omega (arith, at_a, at_b, AllPairs-from_increasing (map f sets) rises i j 0 (omega (arith, apart, order)) (omega (arith, low_j, length-map sets f)))

-- ---- the token of a sender by the set that it turns to

token-by : (s : SenderState) (set : KeySet) (b : Bool) → nat_lt s.keys.token set.token ≡ b → set.token ≤ s.keys.token
    → (if b then record s { keys = keys_in set; used = 0; fronted = None } else s).keys.token ≡ s.keys.token
token-by s set true higher low = absurd (grind (arith, nat_tests))
token-by s set false higher low = refl

keeps-by : (s : SenderState) (o : Option KeySet) → ((set : KeySet) → o ≡ Some set → set.token ≤ s.keys.token) → (turned_by s o).keys.token ≡ s.keys.token
keeps-by s None low = refl
keeps-by s (Some set) low = token-by s set (nat_lt s.keys.token set.token) refl (low set refl)

other-by : (s : SenderState) (set : KeySet) (b : Bool) → nat_lt s.keys.token set.token ≡ b → s.keys.token < set.token
    → (if b then record s { keys = keys_in set; used = 0; fronted = None } else s).keys.token ≢ s.keys.token
other-by s set true higher high = λ same. let token : set.token ≡ s.keys.token = same in omega (arith, token, high)
other-by s set false higher high = absurd (grind (arith, nat_tests))

raises-by : (s : SenderState) (o : Option KeySet) (set : KeySet) → o ≡ Some set → s.keys.token < set.token → (turned_by s o).keys.token ≢ s.keys.token
raises-by s None set is high = absurd (none-some set is)
raises-by s (Some other) set is high =
    let same = ap (λ (k : KeySet). k.token) (same_Some other set is) in
    other-by s other (nat_lt s.keys.token other.token) refl (omega (arith, same, high))

-- ---- before and behind the first set of a higher token

before-first : (sets : List KeySet) (token t : ℕ) (first set : KeySet) → Rises sets → first_above sets token ≡ Some first → current sets t ≡ Some set → t < first.from → set.token ≤ token
before-first sets token t first set rises first_is set_is early = by_case (cases_lt among.0 i)
  where
    i : ℕ
    i = position_or_len (λ (k : KeySet). nat_lt token k.token) sets

    among : IsAmong sets set
    among = last_found_listed (λ (k : KeySet). nat_le k.from t) sets set set_is

    by_case : (among.0 < i) ⊎ (i ≤ among.0) → set.token ≤ token
    by_case (inl before) =
        let at = found_at (λ (k : KeySet). nat_lt token k.token) sets first first_is in
        let fails : nat_lt token set.token ≡ false = ap (λ (k : KeySet). nat_lt token k.token) among.1.1 ∙ at.none_before among.0 set before in
        grind (arith, nat_tests)
    by_case (inr behind) =
        let at = found_at (λ (k : KeySet). nat_lt token k.token) sets first first_is in
        let come : set.from ≤ t = leb-true set.from t (last_found_passes (λ (k : KeySet). nat_le k.from t) sets set set_is) in
        let late = no_less (λ (k : KeySet). k.from) sets i among.0 first set rises.moments_rise at.within among.1.0 at.here (sym among.1.1) behind in
        absurd (omega (arith, come, early, late))

behind-first : (sets : List KeySet) (token t : ℕ) (first set : KeySet) → Rises sets → first_above sets token ≡ Some first → current sets t ≡ Some set → first.from ≤ t → token < set.token
behind-first sets token t first set rises first_is set_is late = by_case (cases_lt among.0 i)
  where
    i : ℕ
    i = position_or_len (λ (k : KeySet). nat_lt token k.token) sets

    among : IsAmong sets set
    among = last_found_listed (λ (k : KeySet). nat_le k.from t) sets set set_is

    by_case : (among.0 < i) ⊎ (i ≤ among.0) → token < set.token
    by_case (inl before) =
        let at = found_at (λ (k : KeySet). nat_lt token k.token) sets first first_is in
        let here : get_or sets i first ≡ first = at.here in
        let from_here : (get_or sets i first).from ≡ first.from = ap (λ (k : KeySet). k.from) here in
        let latest : (get_or sets i first).from ≤ set.from = last_found_latest (λ (k : KeySet). k.from) t sets set rises.moments_rise set_is i first at.within (omega (arith, from_here, late)) in
        let rise = AllPairs-from_increasing (moments sets) rises.moments_rise among.0 i 0 before (omega (arith, at.within, length-map sets (λ (k : KeySet). k.from))) in
        let at_set : get_or (moments sets) among.0 0 ≡ set.from = get_or-map (λ (k : KeySet). k.from) sets among.0 set 0 among.1.0 ∙ ap (λ (k : KeySet). k.from) (sym among.1.1) in
        let at_first : get_or (moments sets) i 0 ≡ first.from = get_or-map (λ (k : KeySet). k.from) sets i first 0 at.within ∙ from_here in
        absurd (omega (arith, from_here, latest, rise, at_set, at_first))
    by_case (inr behind) =
        let at = found_at (λ (k : KeySet). nat_lt token k.token) sets first first_is in
        let passes : nat_lt token first.token ≡ true = at.passes in
        let high : token < first.token = grind (arith, nat_tests) in
        let more = no_less (λ (k : KeySet). k.token) sets i among.0 first set rises.tokens_rise at.within among.1.0 at.here (sym among.1.1) behind in
        omega (arith, high, more)

never-above : (sets : List KeySet) (token t : ℕ) (set : KeySet) → first_above sets token ≡ None → current sets t ≡ Some set → set.token ≤ token
never-above sets token t set none set_is =
    let test = λ (k : KeySet). nat_lt token k.token in
    let among : IsAmong sets set = last_found_listed (λ (k : KeySet). nat_le k.from t) sets set set_is in
    let fails : nat_lt token set.token ≡ false = ap test among.1.1 ∙ none-passes test sets among.0 set none among.1.0 in
    grind (arith, nat_tests)
  where
    none-passes : (p : KeySet → Bool) (xs : List KeySet) (k : ℕ) (d : KeySet) → find p xs ≡ None → k < length xs → p (get_or xs k d) ≡ false
    none-passes p xs k d is_none below =
        elim (slice_get_cases xs (position_or_len p xs)).1 [
          | inl here ↦ absurd (none-some here.0 (sym is_none ∙ find_at p xs ∙ here.2))
          | inr past ↦ fails_before_first p xs k d (omega (arith, past.0))
        ]

-- ---- a sender

-- what was found among the same sets by the same token
pub first-of : (sets others : List KeySet) (token other : ℕ) (read : Option (Bor KeySet)) (o : Option KeySet) → sets ≡ others → token ≡ other → option_copied read ≡ first_above sets token
    → option_copied read ≡ o → first_above others other ≡ o
first-of sets others token other read o same_sets same_token found is =
    sym (found ∙ ap (λ (l : List KeySet). first_above l token) same_sets ∙ ap (λ (n : ℕ). first_above others n) same_token) ∙ is

pub key-calm : (s : SenderState) (first : KeySet) (t : ℕ) → Rises s.sets → first_above s.sets s.keys.token ≡ Some first → t < first.from → KeepsToken t s
key-calm s first t rises first_is early =
    λ new. new (keeps-by s (current s.sets t) (λ set is. before-first s.sets s.keys.token t first set rises first_is is early))

pub key-due : (s : SenderState) (long : Bool) (first : KeySet) (t : ℕ) → IsAccepted long s.sets → first_above s.sets s.keys.token ≡ Some first → first.from ≤ t → HasNewToken t s
key-due s long first t accepted first_is late = by_set (current s.sets t) refl
  where
    by_set : (o : Option KeySet) → current s.sets t ≡ o → HasNewToken t s
    by_set None none = absurd (some_last (λ (k : KeySet). k.from) t s.sets accepted.has_key accepted.first_at_zero none)
    by_set (Some set) set_is = raises-by s (current s.sets t) set set_is (behind-first s.sets s.keys.token t first set accepted.rises first_is set_is late)

pub key-never : (s : SenderState) (t : ℕ) → first_above s.sets s.keys.token ≡ None → KeepsToken t s
key-never s t none = λ new. new (keeps-by s (current s.sets t) (λ set is. never-above s.sets s.keys.token t set none is))
