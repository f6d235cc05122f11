-- The line that C is told of a configuration that is refused.
use Rattle.std.specs.Prelude.{◌≡◌, ℕ, List, ◌++◌, codes, length, take, IsOk, Result, Ok, Err}
use Rattle.ps_config.specs.EndTexts.{config_end}
use Rattle.ps_config.specs.Reading.{configuration}
use Rattle.ps_config.specs.declared.read.ConfigEnd.{ConfigEnd}
use Rattle.ps_config.specs.declared.read.ConfigEnd.TheVariants as ends
use Rattle.uapubsub_c.specs.Laying.{IsLaidOut}
use Rattle.uapubsub_c.specs.declared.status.Status.{Status}
use Rattle.uapubsub_c.specs.declared.status.Status.TheVariants.{Memory, Refused}

-- of a refusal `config: Cn NAME PATH`: what the command `check` prints of it, without the end of the line
abbrev pub line_of : ConfigEnd → List ℕ
line_of end = codes "config: " ++ config_end end

-- the bytes stand at the front of the buffer as far as there is room, the buffer keeps its rest, and so many of them stand there
abbrev pub IsFrontLaid : List ℕ → List ℕ → List ℕ → ℕ → Type 0
IsFrontLaid bytes old new count = IsLaidOut (take (length old) bytes) old new count

-- nothing is laid
pub record IsUnlaid (old new : List ℕ) (count : ℕ) : Type 0 where
  pub same : new ≡ old
  pub none : count ≡ 0

-- the end is a refusal, whose line is laid; or memory ran out, there or as the line was spelled
abbrev pub TellsEnd : ConfigEnd → List ℕ → List ℕ → ℕ → Status → Type 0
TellsEnd (ends.Refused code path) old new count Refused = IsFrontLaid (line_of (ends.Refused code path)) old new count
TellsEnd end old new count Memory = IsUnlaid old new count
TellsEnd end old new count other = ⊥

-- the text is refused with this code at this path, and the line of that is laid so
pub record TellsRefusal (text old new : List ℕ) (count : ℕ) : Type 0 where
  pub code : ℕ
  pub path : List ℕ
  pub refused : configuration text ≡ Err (code, path)
  pub laid : IsFrontLaid (line_of (ends.Refused code path)) old new count

-- the text is a configuration; it is refused, and that is told; or memory ran out
abbrev pub Judges : List ℕ → List ℕ → List ℕ → ℕ → Result Unit Status → Type 0
Judges text old new count (Ok value) = IsOk (configuration text) × IsUnlaid old new count
Judges text old new count (Err Refused) = TellsRefusal text old new count
Judges text old new count (Err Memory) = IsUnlaid old new count
Judges text old new count (Err other) = ⊥
