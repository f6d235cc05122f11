-- The line of a refusal.
use Rattle.std.proofs.Common.{◌≡◌, ℕ, ◌≤◌, List, length, take, take_all, Err}
use Rattle.ps_config.specs.Reading.{configuration, IsEnd}
use Rattle.ps_config.specs.declared.read.ConfigEnd.{ConfigEnd}
use Rattle.ps_config.specs.declared.read.ConfigEnd.TheVariants as ends
use Rattle.uapubsub_c.specs.Lines.{Judges, TellsEnd}
use Rattle.uapubsub_c.specs.declared.status.Status.{Status}
use Rattle.uapubsub_c.specs.declared.status.Status.TheVariants.{Memory, Refused}

-- no more bytes than these
pub all_bytes : (most : ℕ) (bytes : List ℕ) → length bytes ≤ most → take most bytes ≡ bytes
all_bytes most bytes few = take_all most bytes few

-- what is told of the end of reading a text judges the text
pub judges-end : (text : List ℕ) (end : ConfigEnd) (old new : List ℕ) (count : ℕ) (status : Status) → IsEnd (configuration text) end
    → TellsEnd end old new count status → Judges text old new count (Err status)
judges-end text (ends.Refused code path) old new count Refused is told = record { code = code; path = path; refused = is; laid = told }
judges-end text (ends.Refused code path) old new count Memory is told = told
judges-end text (ends.Refused code path) old new count other is told = absurd told
judges-end text ends.Memory old new count Memory is told = told
judges-end text ends.Memory old new count other is told = absurd told
