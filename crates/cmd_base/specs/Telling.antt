-- What stands on the error output.
use Rattle.std.specs.Prelude.{◌≡◌, ◌≤◌, ◌⊎◌, ℕ, List, Option, Bool, true, false}
use Rattle.ua_base.specs.Cause.{Rose}
use Rattle.ua_base.specs.Output.{appended, AppendsPrefix}

-- the text was appended whole, or, only where the count of faults rose, a prefix of it
abbrev pub WritesText : Option (List ℕ) → Option (List ℕ) → ℕ → ℕ → List ℕ → Type 0
WritesText old new before after text = (new ≡ appended old text) ⊎ (AppendsPrefix old new text × Rose before after)

-- which of the two it was
abbrev pub Puts : Bool → Option (List ℕ) → Option (List ℕ) → ℕ → ℕ → List ℕ → Type 0
Puts true old new before after text = (new ≡ appended old text) × (before ≤ after)
Puts false old new before after text = AppendsPrefix old new text × Rose before after
