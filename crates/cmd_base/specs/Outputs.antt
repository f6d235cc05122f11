-- What a command writes on the output.
use Rattle.std.specs.Prelude.{◌≡◌, ℕ, List, Option}
use Rattle.ua_base.specs.Output.{appended, AppendsPrefix}
use Rattle.cmd_base.specs.declared.status.Status.{Status}
use Rattle.cmd_base.specs.declared.status.Status.TheVariants.{Done, Unwritten}

-- what a status says of the text that was written last
abbrev pub EndsWriting : Option (List ℕ) → Option (List ℕ) → List ℕ → Status → Type 0
EndsWriting old new text Done = new ≡ appended old text
EndsWriting old new text Unwritten = AppendsPrefix old new text
EndsWriting old new text _ = ⊥
