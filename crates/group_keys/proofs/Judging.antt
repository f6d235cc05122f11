-- A list of key sets that is refused isn't accepted.
use Rattle.std.proofs.Common.{◌≡◌, ℕ, ◌<◌, ◌==◌, List, Bool, true, false, length, get_or, sym, ap, ◌∙◌, eqb-true, arith, map, inl, inr, ◌≤◌, ◌-◌, ◌+◌}
use Rattle.std.specs.List.Sorted.{IsStrictlyIncreasing}
use Rattle.std.proofs.lemmas.Bool.{eqb-false}
use Rattle.std.proofs.lemmas.List.{length-map}
use Rattle.group_keys.specs.KeySets.{Rises, moments}
use Rattle.group_keys.specs.Faults.{IsAccepted, IsRefusedBy}
use Rattle.group_keys.specs.declared.key_set.KeySet.{KeySet}
use Rattle.group_keys.specs.declared.ring.RingFault.{RingFault}
use Rattle.group_keys.specs.declared.ring.RingFault.TheVariants.{NoKey, NotRising, FirstLate, BadLength}
use Rattle.group_keys.proofs.Rising.{field_at}

no_fall : (f : KeySet → ℕ) (sets : List KeySet) (index : ℕ) → 0 < index → index < length sets → IsStrictlyIncreasing (map f sets)
    → get_or (map f sets) index 0 ≤ get_or (map f sets) (index - 1) 0 → ⊥
no_fall f sets index some within rises fall =
    let next : index - 1 + 1 ≡ index = omega arith in
    let step : get_or (map f sets) (index - 1) 0 < get_or (map f sets) (index - 1 + 1) 0 = rises (index - 1) (omega (arith, length-map sets f)) in
    omega (arith, rw next at step)

pub not_both : (long : Bool) (sets : List KeySet) (fault : RingFault) → IsRefusedBy long sets fault → IsAccepted long sets → ⊥
not_both long sets NoKey refused accepted = omega (arith, refused, accepted.has_key)
not_both long sets (NotRising index) refused accepted =
    let here = refused.here in
    elim here.not_above [
      | inl token ↦ no_fall (λ (s : KeySet). s.token) sets index here.has_one_before here.in_range accepted.rises.tokens_rise token
      | inr moment ↦ no_fall (λ (s : KeySet). s.from) sets index here.has_one_before here.in_range accepted.rises.moments_rise moment
    ]
not_both long sets FirstLate refused accepted = refused.2 accepted.first_at_zero
not_both long sets (BadLength index) refused accepted =
    refused.2.here.other_length (accepted.lengths_fit index refused.2.here.in_range)

-- what the clause says of a list that is refused
pub no_ring : (long : Bool) (sets : List KeySet) (fault : RingFault) → IsRefusedBy long sets fault
    → (false ≡ true → IsAccepted long sets) × (IsAccepted long sets → false ≡ true)
no_ring long sets fault refused = (λ e. absurd (cc), λ accepted. absurd (not_both long sets fault refused accepted))

pub no_key : (sets : List KeySet) (empty : Bool) → empty ≡ (length sets == 0) → empty ≡ true → length sets ≡ 0
no_key sets empty is e = eqb-true (length sets) 0 (sym is ∙ e)

pub some_key : (sets : List KeySet) (empty : Bool) → empty ≡ (length sets == 0) → empty ≡ false → 0 < length sets
some_key sets empty is e = let full : (length sets ≡ 0) → ⊥ = eqb-false (length sets) 0 (sym is ∙ e) in omega arith

pub first_late : (long : Bool) (sets : List KeySet) (set : KeySet) → 0 < length sets → Rises sets → set ≡ get_or sets 0 set
    → ((get_or sets 0 set).from ≡ 0 → ⊥) → IsRefusedBy long sets FirstLate
first_late long sets set some rises read late =
    (some, rises, λ zero. late (omega (arith, zero, field_at (λ (s : KeySet). s.from) sets 0 set read some, moment))) where
      moment : set.from ≡ (get_or sets 0 set).from
      moment = ap (λ (s : KeySet). s.from) read

pub first_at_zero : (sets : List KeySet) (set : KeySet) → 0 < length sets → set ≡ get_or sets 0 set → (get_or sets 0 set).from ≡ 0
    → get_or (moments sets) 0 0 ≡ 0
first_at_zero sets set some read zero =
    field_at (λ (s : KeySet). s.from) sets 0 set read some ∙ ap (λ (s : KeySet). s.from) read ∙ zero
