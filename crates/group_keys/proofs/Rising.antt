-- Lemmas on the loops that look for the first set at fault.
use Rattle.std.proofs.Common.{◌≡◌, ℕ, ◌+◌, ◌-◌, ◌<◌, List, map, length, get_or, sym, ◌∙◌, ap, arith}
use Rattle.std.proofs.lemmas.List.{get_or-map}
use Rattle.group_keys.specs.KeySets.{tokens, moments}
use Rattle.group_keys.specs.declared.key_set.KeySet.{KeySet}

-- f of the set that was read at an index
pub field_at : (f : KeySet → ℕ) (sets : List KeySet) (i : ℕ) (set : KeySet) → set ≡ get_or sets i set →
    i < length sets → get_or (map f sets) i 0 ≡ f set
field_at f sets i set read within = get_or-map f sets i set 0 within ∙ ap f (sym read)

-- the numbers before an index rise
abbrev pub IsRisingBelow : List ℕ → ℕ → Type 0
IsRisingBelow ns high = (k : ℕ) → k + 1 < high → get_or ns k 0 < get_or ns (k + 1) 0

rising_more : (ns : List ℕ) (i : ℕ) → 0 < i → IsRisingBelow ns i → get_or ns (i - 1) 0 < get_or ns i 0 → IsRisingBelow ns (i + 1)
rising_more ns i some rising above = grind arith

-- tokens and moments rise among the sets before an index
pub record RisesBelow (sets : List KeySet) (high : ℕ) : Type 0 where
  pub tokens_rise : IsRisingBelow (tokens sets) high
  pub moments_rise : IsRisingBelow (moments sets) high

pub RisesBelow-more : (sets : List KeySet) (i : ℕ) (before next : KeySet) → RisesBelow sets i → 0 < i → i < length sets →
    before ≡ get_or sets (i - 1) before → next ≡ get_or sets i next →
    before.token < next.token → before.from < next.from → RisesBelow sets (i + 1)
RisesBelow-more sets i before next rises some within read_before read_next tokens_rise moments_rise =
    let within_before : i - 1 < length sets = omega arith in
    let token_before = field_at (λ set. set.token) sets (i - 1) before read_before within_before in
    let token_next = field_at (λ set. set.token) sets i next read_next within in
    let moment_before = field_at (λ set. set.from) sets (i - 1) before read_before within_before in
    let moment_next = field_at (λ set. set.from) sets i next read_next within in record {
      tokens_rise = rising_more (tokens sets) i some rises.tokens_rise (omega (arith, token_before, token_next));
      moments_rise = rising_more (moments sets) i some rises.moments_rise (omega (arith, moment_before, moment_next));
    }
