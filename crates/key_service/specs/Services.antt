-- Which rings a service can answer from: at least two keys, consecutive tokens, and one lifetime.
use Rattle.std.specs.Prelude.{◌≢◌, ℕ, ◌+◌, ◌-◌, ◌<◌, List, length, slice_index}
use Rattle.group_keys.specs.declared.key_set.KeySet.{KeySet}
use Rattle.group_keys.specs.Faults.{IsFirstIndex}
use Rattle.group_keys.specs.KeySets.{tokens, moments}
use Rattle.key_service.specs.declared.service_fault.ServiceFault.{ServiceFault}
use Rattle.key_service.specs.declared.service_fault.ServiceFault.TheVariants.{TooFew, NotConsecutive, Uneven}

-- the lifetime of a key in milliseconds: the distance of the first two moments
abbrev pub lifetime_of : List KeySet → ℕ
lifetime_of sets = slice_index (moments sets) 1 - slice_index (moments sets) 0

-- the token at an index isn't the one before plus one
pub record IsGap (sets : List KeySet) (index : ℕ) : Type 0 where
  pub has_one_before : 0 < index
  pub in_range : index < length sets
  pub apart : slice_index (tokens sets) index ≢ slice_index (tokens sets) (index - 1) + 1

-- the moment at an index isn't the one before plus the first distance
pub record IsUneven (sets : List KeySet) (index : ℕ) : Type 0 where
  pub has_one_before : 0 < index
  pub in_range : index < length sets
  pub apart : slice_index (moments sets) index ≢ slice_index (moments sets) (index - 1) + lifetime_of sets

-- a service can answer from the sets
pub record IsServed (sets : List KeySet) : Type 0 where
  pub two : 1 < length sets
  pub consecutive : (index : ℕ) → ¬ IsGap sets index
  pub even : (index : ℕ) → ¬ IsUneven sets index

-- what each fault says of the sets: no earlier fault holds of them, and this one does
abbrev pub Refuses : List KeySet → ServiceFault → Type 0
Refuses sets TooFew = length sets < 2
Refuses sets (NotConsecutive index) = (1 < length sets) × IsFirstIndex (IsGap sets) index
Refuses sets (Uneven index) = (1 < length sets) × ((k : ℕ) → ¬ IsGap sets k) × IsFirstIndex (IsUneven sets) index
