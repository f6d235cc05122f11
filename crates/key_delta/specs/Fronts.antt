-- Rows of which no more than their first words are used.
use Rattle.std.specs.Prelude.{◌≡◌, ℕ, ◌-◌, List, length, drop, replicate}
use Rattle.std.proofs.Props.{props}

-- 125 words, with zeros behind the first so many
pub record HasZerosBehind (count : ℕ) (words : List ℕ) : Type 0 where
  pub whole : length words ≡ 125
  pub zeros : drop count words ≡ replicate (125 - count) 0

pub HasZerosBehind-prop : (count : ℕ) (words : List ℕ) → IsProp (HasZerosBehind count words)
HasZerosBehind-prop count words = hlevel props
