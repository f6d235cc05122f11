-- Values that words are texts of.
use Rattle.std.specs.Prelude.{◌≡◌, ℕ, List, Option, Some, IfSome}
use Rattle.ua_values.specs.declared.kind.Kind.{Kind}
use Rattle.ua_values.specs.declared.value.Value.{Value}
use Rattle.ua_values.specs.Values.{Fits, IsValue}
use Rattle.value_texts.specs.Spelling.{IsTextOf}

-- a value of this kind that may stand in a field of this cap, and of which the word is a text
pub record IsValueIn (kind : Kind) (cap : ℕ) (word : List ℕ) (value : Value) : Type 0 where
  pub text : IsTextOf word value
  pub fits : Fits value kind cap
  pub valid : IsValue value

-- what a word says: the value that it is a text of, and nothing where there is none. A word is a text of one value of a
-- kind at most, so there is one such function at most
pub record ValueReader : Type 0 where
  pub read : Kind → ℕ → List ℕ → Option Value
  pub found : (kind : Kind) (cap : ℕ) (word : List ℕ) → IfSome (read kind cap word) (IsValueIn kind cap word)
  pub every : (kind : Kind) (cap : ℕ) (word : List ℕ) (value : Value) → IsValueIn kind cap word value
      → read kind cap word ≡ Some value
