-- The key sets of a security group (OPC 10000-14, SecurityGroup), as a list in the order of their
-- tokens.
use Rattle.std.specs.Prelude.{◌≡◌, ℕ, EachIndex, slice_index, Bool, List, Option, map, find, reverse, length, nat_le, ◌==◌, if◌then◌else◌}
use Rattle.std.specs.List.Sorted.{IsStrictlyIncreasing}
use Rattle.group_keys.specs.declared.key_set.KeySet.{KeySet}

abbrev pub tokens : List KeySet → List ℕ
tokens sets = map (λ set. set.token) sets

-- the moments from which the sets stand
abbrev pub moments : List KeySet → List ℕ
moments sets = map (λ set. set.from) sets

-- the lengths of the encrypting keys
abbrev pub encrypting_lengths : List KeySet → List ℕ
encrypting_lengths sets = map (λ set. length set.encrypting.items) sets

-- the bytes of an encrypting key: those of AES-256 in a long ring, and else of AES-128
abbrev pub encrypting_length : Bool → ℕ
encrypting_length long = if long then 32 else 16

-- tokens and moments rise from each set to the next
pub record Rises (sets : List KeySet) : Type 0 where
  pub tokens_rise : IsStrictlyIncreasing (tokens sets)
  pub moments_rise : IsStrictlyIncreasing (moments sets)

-- the encrypting key of each set has the ring's length
abbrev pub LengthsFit : Bool → List KeySet → Type 0
LengthsFit long sets =
    EachIndex sets (λ k. slice_index (encrypting_lengths sets) k ≡ encrypting_length long)

-- the last set whose moment has come
abbrev pub current : List KeySet → ℕ → Option KeySet
current sets now = find (λ set. nat_le set.from now) (reverse sets)

-- the set that has the token
abbrev pub with_token : List KeySet → ℕ → Option KeySet
with_token sets token = find (λ set. set.token == token) sets
