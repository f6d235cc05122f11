-- A sender that was made of a key group's ring has a key set of it.
use Rattle.std.proofs.Common.{◌≡◌, refl, sym, ap, ◌∙◌, subst, ℕ, List, [], ◌∷◌, map, Some}
use Rattle.std.specs.List.Sorted.{IsStrictlyIncreasing}
use Rattle.group_keys.specs.declared.key_set.KeySet.{KeySet}
use Rattle.group_keys.specs.KeySets.{Rises}
use Rattle.message_guard.specs.declared.keys.TokenKeys.{TokenKeys}
use Rattle.message_guard.specs.Protection.{keys_in, keys_with}
use Rattle.message_guard.specs.Senders.{SenderState}
use Rattle.message_guard.proofs.Rings.{known_in_ring}
use Rattle.ps_config.specs.declared.parts.KeyGroupPart.{KeyGroupPart}
use Rattle.ps_config.specs.declared.parts.KeyPart.{KeyPart}
use Rattle.ps_config.specs.Rings.{key_set}
use Rattle.ps_config.specs.Sound.{IsKeyGroup}
use Rattle.ps_config.proofs.Rising.{map_twice}
use Rattle.reader_group.specs.Settings.{token_keys}
use Rattle.group_laws.specs.Matching.{IsRingSender, IsSenderOf}

ring-rises : (ring : KeyGroupPart) → IsKeyGroup ring → Rises (map key_set ring.key)
ring-rises ring is = record {
  tokens_rise = subst IsStrictlyIncreasing (sym (map_twice key_set (λ (set : KeySet). set.token) ring.key)) is.tokens_rise;
  moments_rise = subst IsStrictlyIncreasing (sym (map_twice key_set (λ (set : KeySet). set.from) ring.key)) is.moments_rise;
}

keys-same : (keys : List KeyPart) → map keys_in (map key_set keys) ≡ map token_keys keys
keys-same [] = refl
keys-same (key ∷ keys) = ap (λ (l : List TokenKeys). token_keys key ∷ l) (keys-same keys)

pub ring-sender : (ring : KeyGroupPart) (now : ℕ) (s : SenderState) → IsKeyGroup ring → IsRingSender ring now s → IsSenderOf ring s
ring-sender ring now s is made =
    let rises : Rises s.sets = subst Rises (sym made.sets) (ring-rises ring is) in
    let in_sets : keys_with (map keys_in s.sets) s.keys.token ≡ Some s.keys = known_in_ring s now rises made.keys in
    let known : keys_with (map token_keys ring.key) s.keys.token ≡ Some s.keys =
    subst (λ (l : List TokenKeys). keys_with l s.keys.token ≡ Some s.keys) (ap (map keys_in) made.sets ∙ keys-same ring.key) in_sets in
    record {
      sender_is = made.sender_is;
      keys = known;
      first_block = made.first_block;
    }
