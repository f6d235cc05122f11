-- What each set is told to be, of the lists of tokens and moments.
use Rattle.std.proofs.Common.{◌≡◌, ℕ, ◌^◌, ◌<◌, List, [], length, get_or, sym, ◌∙◌, subst}
use Rattle.std.specs.Prelude.{All, EachIndex, slice_index}
use Rattle.std.proofs.lemmas.List.{get_or-map, get_or_default}
use Rattle.group_keys.specs.InMemory.{IsKeySet}
use Rattle.group_keys.specs.KeySets.{tokens, moments}
use Rattle.group_keys.specs.declared.key_set.KeySet.{KeySet}

-- the set that was read at an index is the one there
pub told-at : (sets : List KeySet) (i : ℕ) (set : KeySet) → set ≡ get_or sets i set → i < length sets → IsKeySet set → (d : KeySet) → IsKeySet (get_or sets i d)
told-at sets i set read within is d = subst IsKeySet (read ∙ get_or_default sets i set d within) is

abbrev no_set : KeySet
no_set = record { token = 0; from = 0; signing = []; encrypting = record { items = [] }; nonce = [] }

-- each token is below 2^32
pub tokens_below : (sets : List KeySet) → All IsKeySet sets → EachIndex sets (λ k. slice_index (tokens sets) k < 2 ^ 32)
tokens_below sets are k within = subst (λ (n : ℕ). n < 2 ^ 32) (sym (get_or-map (λ (set : KeySet). set.token) sets k no_set 0 within)) ((are k no_set within).token)

-- each moment is below 2^64
pub moments_below : (sets : List KeySet) → All IsKeySet sets → EachIndex sets (λ k. slice_index (moments sets) k < 2 ^ 64)
moments_below sets are k within = subst (λ (n : ℕ). n < 2 ^ 64) (sym (get_or-map (λ (set : KeySet). set.from) sets k no_set 0 within)) ((are k no_set within).moment)

-- signing keys have 32 bytes, and nonces 4
pub signing_lengths : (sets : List KeySet) → All IsKeySet sets → All (λ set. length set.signing ≡ 32) sets
signing_lengths sets are k d within = (are k d within).signing

pub nonce_lengths : (sets : List KeySet) → All IsKeySet sets → All (λ set. length set.nonce ≡ 4) sets
nonce_lengths sets are k d within = (are k d within).nonce
