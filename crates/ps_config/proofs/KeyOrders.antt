-- KeyOrder stands at the key groups whose keys make no ring.
use Rattle.std.proofs.Common.{◌≡◌, ℕ, ◌^◌, ◌<◌, Bool, true, false, ◌&&◌, not, List, length, map, slice_index, All, sym, ap, ◌∙◌, subst, refl, arith}
use Rattle.std.specs.List.Sorted.{IsStrictlyIncreasing}
use Rattle.std.proofs.lemmas.Bool.{and_parts}
use Rattle.std.proofs.lemmas.List.{length-map}
use Rattle.std.proofs.lemmas.List.Elements.{All-map}
use Rattle.toml.specs.Data.{Members}
use Rattle.group_keys.specs.declared.key_set.KeySet.{KeySet}
use Rattle.group_keys.specs.KeySets.{tokens, moments, encrypting_lengths, encrypting_length}
use Rattle.config_tables.specs.declared.key.Key.TheVariants as key
use Rattle.config_tables.specs.declared.place.Part.TheVariants.{KeyGroup}
use Rattle.config_tables.specs.Places.{is_outer, index_of}
use Rattle.config_tables.specs.Tables.{Located, tables}
use Rattle.config_tables.specs.Values.{number_at}
use Rattle.ps_config.specs.declared.parts.KeyPart.{KeyPart}
use Rattle.ps_config.specs.Configs.{key_of, key_group_of, is_long}
use Rattle.ps_config.specs.Faults.{starts_at_zero, rises, moments_in, tokens_in, are_in_order}
use Rattle.ps_config.specs.Fields.{outer_tables, elements_of}
use Rattle.ps_config.specs.Rings.{key_set, MakesRing, IsJudgedByRing}
use Rattle.ps_config.specs.Settings.{policy_at}
use Rattle.ps_config.proofs.Elements.{in_own_table}
use Rattle.ps_config.proofs.Passing.{passing}
use Rattle.ps_config.proofs.Rings.{sizes, size_at}
use Rattle.ps_config.proofs.Rising.{rising, passes_rising, starting, some_first, map_twice}
use Rattle.ps_config.proofs.Sound.{and_right, not_no, lengths, moments_are, tokens_are}

abbrev keys_in : Located → List Located → List Located
keys_in t ts = elements_of KeyGroup (index_of t.place) ts

set_tokens : (t : Located) (ts : List Located) → tokens (map key_set (map key_of (keys_in t ts))) ≡ tokens_in (index_of t.place) ts
set_tokens t ts = map_twice key_set (λ (set : KeySet). set.token) (map key_of (keys_in t ts)) ∙ tokens_are (keys_in t ts)

set_moments : (t : Located) (ts : List Located) → moments (map key_set (map key_of (keys_in t ts))) ≡ moments_in (index_of t.place) ts
set_moments t ts = map_twice key_set (λ (set : KeySet). set.from) (map key_of (keys_in t ts)) ∙ moments_are (keys_in t ts)

set_sizes : (keys : List KeyPart) → encrypting_lengths (map key_set keys) ≡ sizes keys
set_sizes keys = map_twice key_set (λ (set : KeySet). length set.encrypting.items) keys

-- an accepted order, and keys that have the lengths of their group's policy
ring_of_order : (t : Located) (ts : List Located) → All (λ (s : Located). s.outer ≡ t.members) (keys_in t ts) → are_in_order (index_of t.place) ts ≡ true → MakesRing (key_group_of ts t)
unfolding key_group_of
ring_of_order t ts own order =
    let keys = keys_in t ts in
    let starts = starts_at_zero (moments_in (index_of t.place) ts) in
    let later = rises (moments_in (index_of t.place) ts) in
    let higher = rises (tokens_in (index_of t.place) ts) in
    let first = and_parts starts (later && higher) order in
    let both = and_parts later higher first.1 in
    let begun = some_first (moments_in (index_of t.place) ts) first.0 in
    let fit : All (λ (part : KeyPart). length part.encrypting ≡ encrypting_length (is_long (policy_at t.members))) (map key_of keys) =
    All-map (λ (part : KeyPart). length part.encrypting ≡ encrypting_length (is_long (policy_at t.members))) key_of keys (λ k d within. lengths ts t _ (own k d within)) in
    let count : length (map key_set (map key_of keys)) ≡ length (map key_of keys) = length-map (map key_of keys) key_set in
    record {
      has_key = omega (arith, begun.0, length-map keys (λ (k : Located). number_at key.From (2 ^ 40) 0 k.members), length-map keys key_of, count);
      rises = record {
        tokens_rise = subst IsStrictlyIncreasing (sym (set_tokens t ts)) (rising (tokens_in (index_of t.place) ts) both.1);
        moments_rise = subst IsStrictlyIncreasing (sym (set_moments t ts)) (rising (moments_in (index_of t.place) ts) both.0);
      };
      first_at_zero = ap (λ (l : List ℕ). slice_index l 0) (set_moments t ts) ∙ begun.1;
      lengths_fit = λ k within. ap (λ (l : List ℕ). slice_index l k) (set_sizes (map key_of keys))
          ∙ size_at (map key_of keys) (encrypting_length (is_long (policy_at t.members))) k fit (omega (arith, count, within));
    }

order_of_ring : (t : Located) (ts : List Located) → MakesRing (key_group_of ts t) → are_in_order (index_of t.place) ts ≡ true
unfolding key_group_of
order_of_ring t ts ring =
    let some : 0 < length (moments_in (index_of t.place) ts) =
    subst (λ (l : List ℕ). 0 < length l) (set_moments t ts) (omega (arith, ring.has_key, length-map (map key_set (map key_of (keys_in t ts))) (λ (set : KeySet). set.from))) in
    let first : slice_index (moments_in (index_of t.place) ts) 0 ≡ 0 = ap (λ (l : List ℕ). slice_index l 0) (sym (set_moments t ts)) ∙ ring.first_at_zero in
    let starts = starting (moments_in (index_of t.place) ts) some first in
    let later = passes_rising (moments_in (index_of t.place) ts) (subst IsStrictlyIncreasing (set_moments t ts) ring.rises.moments_rise) in
    let higher = passes_rising (tokens_in (index_of t.place) ts) (subst IsStrictlyIncreasing (set_tokens t ts) ring.rises.tokens_rise) in
    rw (starts, later, higher) refl

faultless : (b order : Bool) → order ≡ true → (b && not order) ≡ false
faultless true order is = ap not is
faultless false order is = refl

pub judged_by_ring : (document : Members) → All (IsJudgedByRing (tables document)) (outer_tables KeyGroup (tables document))
judged_by_ring document =
    let ts = tables document in
    passing (λ t. is_outer KeyGroup t.place) (IsJudgedByRing ts) ts
    (λ front t back split passes.
    let own = in_own_table KeyGroup document front t back split passes in (
      (λ none. ring_of_order t ts own (not_no (are_in_order (index_of t.place) ts) (and_right (is_outer KeyGroup t.place) _ passes none))),
      (λ ring. faultless (is_outer KeyGroup t.place) (are_in_order (index_of t.place) ts) (order_of_ring t ts ring)),
    ))
