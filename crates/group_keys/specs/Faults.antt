-- The refusals of a list of key sets, in their order.
use Rattle.std.specs.Prelude.{◌≡◌, ◌≢◌, ℕ, ◌-◌, ◌<◌, ◌≤◌, ◌⊎◌, Bool, List, length, slice_index}
use Rattle.group_keys.specs.KeySets.{tokens, moments, encrypting_lengths, encrypting_length, LengthsFit, Rises}
use Rattle.group_keys.specs.declared.key_set.KeySet.{KeySet}
use Rattle.group_keys.specs.declared.ring.RingFault.{RingFault}
use Rattle.group_keys.specs.declared.ring.RingFault.TheVariants.{NoKey, NotRising, FirstLate, BadLength}

-- the set's token or moment isn't above that of the set before it
pub record IsNotAbove (sets : List KeySet) (index : ℕ) : Type 0 where
  pub has_one_before : 0 < index
  pub in_range : index < length sets
  pub not_above : (slice_index (tokens sets) index ≤ slice_index (tokens sets) (index - 1))
      ⊎ (slice_index (moments sets) index ≤ slice_index (moments sets) (index - 1))

-- the set's encrypting key doesn't have the ring's length
pub record IsMisfit (long : Bool) (sets : List KeySet) (index : ℕ) : Type 0 where
  pub in_range : index < length sets
  pub other_length : slice_index (encrypting_lengths sets) index ≢ encrypting_length long

-- the first index of which the fact holds
pub record IsFirstIndex (P : ℕ → Type 0) (index : ℕ) : Type 0 where
  pub here : P index
  pub none_before : (k : ℕ) → k < index → ¬ P k

-- what each fault says of the sets: no earlier fault holds of them, and this one does
abbrev pub IsRefusedBy : Bool → List KeySet → RingFault → Type 0
IsRefusedBy long sets NoKey = length sets ≡ 0
IsRefusedBy long sets (NotRising index) = IsFirstIndex (IsNotAbove sets) index
IsRefusedBy long sets FirstLate = (0 < length sets) × Rises sets × (slice_index (moments sets) 0 ≢ 0)
IsRefusedBy long sets (BadLength index) =
    Rises sets × (slice_index (moments sets) 0 ≡ 0) × IsFirstIndex (IsMisfit long sets) index

-- no fault holds of the sets
pub record IsAccepted (long : Bool) (sets : List KeySet) : Type 0 where
  pub has_key : 0 < length sets
  pub rises : Rises sets
  pub first_at_zero : slice_index (moments sets) 0 ≡ 0
  pub lengths_fit : LengthsFit long sets
