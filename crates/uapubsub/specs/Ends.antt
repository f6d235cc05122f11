-- How the program ends: what each command does, and what a status says by its number.
use Rattle.std.specs.Prelude.{◌≡◌, ◌⊎◌, ℕ, List, Option, Bool, true, false}
use Rattle.cmd_base.specs.declared.status.Status.{Status}
use Rattle.cmd_base.specs.Outside.{Outside, Wire}
use Rattle.cmd_base.specs.Statuses.{number_of, text_of}
use Rattle.cmd_base.specs.Telling.{WritesText}
use Rattle.cmd_base.specs.Checks.{CheckEnds}
use Rattle.cmd_base.specs.Plays.{PlayEnds}
use Rattle.cmd_run.specs.Runs.{RunEnds}
use Rattle.cmd_load.specs.Loads.{LoadEnds, Output}
use Rattle.cmd_json.specs.Jsons.{JsonEnds}
use Rattle.cmd_keys.specs.Ends.{KeysEnds}
use Rattle.cmd_relay.specs.Ends.{RelayEnds, names_of}
use Rattle.cmd_lanes.specs.Runs.{LanesEnds}
use Rattle.uapubsub.specs.Words.{Shape, Check, Play, Run, Load, Json, Keys, Relay, Lanes}

-- folder and output, and the two links
pub record World : Type 0 where
  pub outside : Outside
  pub lab : Wire
  pub wire : Wire

abbrev pub world_of : Outside → Wire → Wire → World
world_of outside lab wire = record { outside = outside; lab = lab; wire = wire }

-- what the output tells
abbrev pub output_in : World → Output
output_in world = record { written = world.outside.written; faults = world.outside.write_faults }

-- a command ends so
abbrev pub Does : Shape → Status → World → World → Type 0
Does (Check config) status old new = CheckEnds status config old.outside new.outside
Does (Play script config) status old new = PlayEnds status script config old.outside new.outside old.lab new.lab
Does (Run script config) status old new = RunEnds status script config old.outside new.outside old.wire new.wire
Does (Load n) status old new = LoadEnds status n (output_in old) (output_in new) old.lab new.lab
Does (Json script config) status old new = JsonEnds status script config old.outside new.outside old.lab new.lab
Does (Keys config asked) status old new = KeysEnds status config asked old.outside new.outside
Does (Relay script first second) status old new =
    RelayEnds status (names_of script first second) old.outside new.outside old.lab new.lab old.wire new.wire
Does (Lanes script config) status old new = LanesEnds status script config old.outside new.outside old.lab new.lab

-- the commands that read files
abbrev pub uses_folder : Shape → Bool
uses_folder (Load n) = false
uses_folder _ = true

-- the commands that use the link in memory
abbrev pub uses_lab : Shape → Bool
uses_lab (Check config) = false
uses_lab (Run script config) = false
uses_lab (Keys config asked) = false
uses_lab _ = true

-- the commands that use the network
abbrev pub uses_wire : Shape → Bool
uses_wire (Run script config) = true
uses_wire (Relay script first second) = true
uses_wire _ = false

-- The number is that of a status that says so. The text of this status was written on the error output, whole where its count of faults
-- didn't rise. old, new: what this tells before and after; before, after: its counts of faults
pub record EndsAs (Says : Status → Type 0) (number : ℕ) (old new : Option (List ℕ)) (before after : ℕ) : Type 0 where
  pub status : Status
  pub numbered : number ≡ number_of status
  pub says : Says status
  pub tells : WritesText old new before after (text_of status)

-- the numbers of the statuses that come before a link is used
abbrev pub IsBeforeLink : ℕ → Type 0
IsBeforeLink number = (number ≡ 2) ⊎ (number ≡ 3) ⊎ (number ≡ 4) ⊎ (number ≡ 5) ⊎ (number ≡ 9)
