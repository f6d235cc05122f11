-- The encrypting keys of a ring's sets have 16 or 32 bytes.
use Rattle.std.proofs.Common.{◌≡◌, ℕ, ◌<◌, Bool, true, false, List, length, get_or, sym, ◌∙◌, ap, inl, inr}
use Rattle.std.specs.Prelude.{◌⊎◌}
use Rattle.std.proofs.lemmas.List.{get_or-map}
use Rattle.group_keys.specs.KeySets.{encrypting_length, LengthsFit}
use Rattle.group_keys.specs.declared.key_set.KeySet.{KeySet}

sixteen_or_thirty_two : (long : Bool) (n : ℕ) → n ≡ encrypting_length long → (n ≡ 16) ⊎ (n ≡ 32)
sixteen_or_thirty_two true n is = inr is
sixteen_or_thirty_two false n is = inl is

pub fits_at : (long : Bool) (sets : List KeySet) (i : ℕ) (set : KeySet) → LengthsFit long sets → i < length sets → set ≡ get_or sets i set
    → (length set.encrypting.items ≡ 16) ⊎ (length set.encrypting.items ≡ 32)
fits_at long sets i set fit within here =
    sixteen_or_thirty_two long _
    (ap (λ (s : KeySet). length s.encrypting.items) here
    ∙ sym (get_or-map (λ (s : KeySet). length s.encrypting.items) sets i set 0 within)
    ∙ fit i within)
