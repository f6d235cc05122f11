-- Key sets by moment and by token: a later moment has no lower token, and a token names one set.
use Rattle.std.proofs.Common.{◌≡◌, ℕ, ◌<◌, ◌≤◌, ◌==◌, List, map, get_or, Option, Some, None, refl, sym, ◌∙◌, ap, arith, inl, inr, nat_le, leb-true, eqb-true}
use Rattle.std.specs.Prelude.{◌⊎◌}
use Rattle.std.specs.List.{IsAmong}
use Rattle.std.specs.List.Sorted.{IsStrictlyIncreasing}
use Rattle.std.proofs.lemmas.Bool.Decides.{eqb_tells, leb_tells}
use Rattle.std.proofs.lemmas.List.{get_or-map, get_or_default, length-map}
use Rattle.std.proofs.lemmas.List.Kept.{AllPairs-from_increasing}
use Rattle.group_keys.specs.KeySets.{tokens, moments, current, with_token}
use Rattle.group_keys.specs.declared.key_set.KeySet.{KeySet}
use Rattle.group_keys.proofs.Finding.{found_at, none_equal, last_found_listed, last_found_latest, last_found_passes}

-- f of a set among them is what stands at its index
number_at : (f : KeySet → ℕ) (sets : List KeySet) (set : KeySet) (among : IsAmong sets set) → get_or (map f sets) among.0 0 ≡ f set
number_at f sets set among = get_or-map f sets among.0 set 0 among.1.0 ∙ ap f (sym among.1.1)

-- where f rises along the list, it is greater at a later index
greater : (f : KeySet → ℕ) (sets : List KeySet) (a b : KeySet) (at_a : IsAmong sets a) (at_b : IsAmong sets b) → IsStrictlyIncreasing (map f sets)
    → at_a.0 < at_b.0 → f a < f b
greater f sets a b at_a at_b rises before =
    let far = AllPairs-from_increasing (map f sets) rises at_a.0 at_b.0 0 before (omega (arith, at_b.1.0, length-map sets f)) in
    omega (arith, far, number_at f sets a at_a, number_at f sets b at_b)

same_index : (sets : List KeySet) (a b : KeySet) (at_a : IsAmong sets a) (at_b : IsAmong sets b) → at_a.0 ≡ at_b.0 → a ≡ b
same_index sets a b at_a at_b same =
    at_a.1.1 ∙ get_or_default sets at_a.0 a b at_a.1.0 ∙ ap (λ (i : ℕ). get_or sets i b) same ∙ sym at_b.1.1

-- where f rises, sets with the same f are the same
same_from : (f : KeySet → ℕ) (sets : List KeySet) (a b : KeySet) → IsAmong sets a → IsAmong sets b → IsStrictlyIncreasing (map f sets) → f a ≡ f b → a ≡ b
same_from f sets a b at_a at_b rises same =
    elim (eqb_tells at_a.0 at_b.0) [
      | inl here ↦ same_index sets a b at_a at_b here.1
      | inr apart ↦ absurd (elim (leb_tells at_a.0 at_b.0) [
        | inl below ↦ omega (arith, same, greater f sets a b at_a at_b rises (omega (arith, below.1, apart.1)))
        | inr above ↦ omega (arith, same, greater f sets b a at_b at_a rises above.1)
      ])
    ]

-- the set of a later moment is the same, or its token is higher
pub later_token : (sets : List KeySet) (earlier now : ℕ) (a b : KeySet) → IsStrictlyIncreasing (tokens sets) → IsStrictlyIncreasing (moments sets) → earlier ≤ now
    → current sets earlier ≡ Some a → current sets now ≡ Some b → (a ≡ b) ⊎ (a.token < b.token)
later_token sets earlier now a b tokens_rise moments_rise order a_is b_is =
    let at_a : IsAmong sets a = last_found_listed (λ (set : KeySet). nat_le set.from earlier) sets a a_is in
    let at_b : IsAmong sets b = last_found_listed (λ (set : KeySet). nat_le set.from now) sets b b_is in
    let come : a.from ≤ earlier = leb-true a.from earlier (last_found_passes (λ (set : KeySet). nat_le set.from earlier) sets a a_is) in
    let latest = last_found_latest (λ (set : KeySet). set.from) now sets b moments_rise b_is at_a.0 a at_a.1.0 in
    let from_a : (get_or sets at_a.0 a).from ≡ a.from = ap (λ (set : KeySet). set.from) (sym at_a.1.1) in
    let not_later : a.from ≤ b.from = omega (arith, from_a, latest, come, order) in
    elim (eqb_tells at_a.0 at_b.0) [
      | inl here ↦ inl (same_index sets a b at_a at_b here.1)
      | inr apart ↦ elim (leb_tells at_a.0 at_b.0) [
        | inl below ↦ inr (greater (λ (set : KeySet). set.token) sets a b at_a at_b tokens_rise (omega (arith, below.1, apart.1)))
        | inr above ↦ absurd (omega (arith, not_later, greater (λ (set : KeySet). set.from) sets b a at_b at_a moments_rise above.1))
      ]
    ]

-- the set of a moment is found by its token
pub found_by_token : (sets : List KeySet) (now : ℕ) (set : KeySet) → IsStrictlyIncreasing (tokens sets) → current sets now ≡ Some set → with_token sets set.token ≡ Some set
found_by_token sets now set tokens_rise is = found_in (with_token sets set.token) refl
  where
    among : IsAmong sets set
    among = last_found_listed (λ (s : KeySet). nat_le s.from now) sets set is

    found_in : (o : Option KeySet) → with_token sets set.token ≡ o → with_token sets set.token ≡ Some set
    found_in None o_is =
        let none = none_equal (λ (s : KeySet). s.token) set.token sets o_is among.0 set among.1.0 in
        absurd (none (ap (λ (s : KeySet). s.token) (sym among.1.1)))
    found_in (Some other) o_is =
        let at = found_at (λ (s : KeySet). s.token == set.token) sets other o_is in
        let token : other.token ≡ set.token = eqb-true other.token set.token at.passes in
        o_is ∙ ap Some (same_from (λ (s : KeySet). s.token) sets other set (_, (at.within, sym at.here)) among tokens_rise token)
