-- The keys of an accepted key group make a ring.
use Rattle.std.proofs.Common.{◌≡◌, ℕ, zero, suc, ◌<◌, List, [], ◌∷◌, length, map, slice_index, All, sym, ap, ◌∙◌, subst, arith}
use Rattle.std.specs.List.Sorted.{IsStrictlyIncreasing}
use Rattle.std.proofs.lemmas.List.{length-map}
use Rattle.group_keys.specs.declared.key_set.KeySet.{KeySet}
use Rattle.group_keys.specs.KeySets.{tokens, moments, encrypting_lengths, encrypting_length}
use Rattle.ps_config.specs.declared.parts.KeyGroupPart.{KeyGroupPart}
use Rattle.ps_config.specs.declared.parts.KeyPart.{KeyPart}
use Rattle.ps_config.specs.Configs.{is_long}
use Rattle.ps_config.specs.Rings.{key_set, MakesRing}
use Rattle.ps_config.specs.Sound.{IsKeyGroup, tokens as own_tokens, moments as own_moments}
use Rattle.ps_config.proofs.Rising.{map_twice}

abbrev pub sizes : List KeyPart → List ℕ
sizes keys = map (λ (key : KeyPart). length key.encrypting) keys

pub size_at : (keys : List KeyPart) (n k : ℕ) → All (λ key. length key.encrypting ≡ n) keys → k < length keys → slice_index (sizes keys) k ≡ n
size_at [] n k all within = absurd (omega arith)
size_at (key ∷ keys) n zero all within = all zero key (omega arith)
size_at (key ∷ keys) n (suc k) all within = size_at keys n k (λ i d below. all (suc i) d (omega arith)) (omega arith)

pub makes_ring : (group : KeyGroupPart) → IsKeyGroup group → MakesRing group
makes_ring group h =
    let sets = map key_set group.key in
    let count : length sets ≡ length group.key = length-map group.key key_set in
    let tokens_are : tokens sets ≡ own_tokens group = map_twice key_set (λ (set : KeySet). set.token) group.key in
    let moments_are : moments sets ≡ own_moments group = map_twice key_set (λ (set : KeySet). set.from) group.key in
    let sizes_are : encrypting_lengths sets ≡ sizes group.key = map_twice key_set (λ (set : KeySet). length set.encrypting.items) group.key in
    record {
      has_key = omega (arith, count, h.has_key);
      rises = record { tokens_rise = subst IsStrictlyIncreasing (sym tokens_are) h.tokens_rise; moments_rise = subst IsStrictlyIncreasing (sym moments_are) h.moments_rise };
      first_at_zero = ap (λ (l : List ℕ). slice_index l 0) moments_are ∙ h.first_at_zero;
      lengths_fit = λ k within. ap (λ (l : List ℕ). slice_index l k) sizes_are ∙ size_at group.key (encrypting_length (is_long group.policy)) k h.lengths_fit (omega (arith, count, within));
    }
