-- What the words of the command line ask for.
use Rattle.std.specs.Prelude.{◌≤◌, ⊤, ℕ, List, [], ◌∷◌, Option, Some, None, codes, ◌&&◌, if◌then◌else◌, option_copied, option_map}
use Rattle.std.specs.Str.{bytes_eq}
use Rattle.cmd_base.specs.Words.{is_file_name}
use Rattle.cmd_keys.specs.declared.words.Asked.{Asked}
use Rattle.cmd_keys.specs.Words.{keys_of}
use Rattle.cmd_load.specs.Numbers.{load_number}
use Rattle.uapubsub.specs.declared.words.Command.{Command}
use Rattle.uapubsub.specs.declared.words.Command.TheVariants as commands

-- a command, with what its words name
pub data Shape : Type 0 where
  Check : (config : List ℕ) → Shape
  Play : (script : List ℕ) (config : Option (List ℕ)) → Shape
  Run : (script : List ℕ) (config : Option (List ℕ)) → Shape
  Load : (n : ℕ) → Shape
  Json : (script : List ℕ) (config : Option (List ℕ)) → Shape
  Keys : (config : List ℕ) (asked : Asked) → Shape
  Relay : (script first second : List ℕ) → Shape
  Lanes : (script : List ℕ) (config : Option (List ℕ)) → Shape

-- a command of a script, with the configuration that is named
abbrev pub script_shape : List ℕ → List ℕ → Option (List ℕ) → Option Shape
script_shape command script config =
    if bytes_eq command (codes "play") then Some (Play script config)
    else if bytes_eq command (codes "run") then Some (Run script config)
    else if bytes_eq command (codes "json") then Some (Json script config)
    else if bytes_eq command (codes "lanes") then Some (Lanes script config)
    else None

-- `load N`, or a command of a script with the built-in configuration
abbrev pub short_shape : List ℕ → List ℕ → Option Shape
short_shape command word =
    if bytes_eq command (codes "load") then option_map Load (load_number word)
    else if is_file_name word then script_shape command word None
    else None

-- `check --config FILE`
abbrev pub check_shape : List ℕ → List ℕ → List ℕ → Option Shape
check_shape command option config =
    if bytes_eq command (codes "check") && (bytes_eq option (codes "--config") && is_file_name config) then Some (Check config) else None

-- `SCRIPT FILE SECOND`
abbrev pub relay_shape : List ℕ → List ℕ → List ℕ → Option Shape
relay_shape script first second = if is_file_name script && (is_file_name first && is_file_name second) then Some (Relay script first second) else None

-- `SCRIPT --config FILE`
abbrev pub named_shape : List ℕ → List ℕ → List ℕ → List ℕ → Option Shape
named_shape command script option config =
    if bytes_eq option (codes "--config") && (is_file_name script && is_file_name config) then script_shape command script (Some config) else None

-- a command of three words
abbrev pub long_shape : List ℕ → List ℕ → List ℕ → List ℕ → Option Shape
long_shape command script other last = if bytes_eq command (codes "relay") then relay_shape script other last else named_shape command script other last

-- what these words ask for
abbrev pub shape_of : List (List ℕ) → Option Shape
shape_of (command ∷ word ∷ []) = short_shape command word
shape_of (command ∷ option ∷ config ∷ []) = check_shape command option config
shape_of (command ∷ script ∷ other ∷ last ∷ []) = long_shape command script other last
shape_of words = option_map (λ found. Keys found.0 found.1) (keys_of words)

-- the size of a load is one that may be asked for
abbrev pub IsBounded : Command → Type 0
IsBounded (commands.Load n) = (1 ≤ n) × (n ≤ 1024)
IsBounded _ = ⊤

-- the shape that a command has
abbrev pub shape_by : Command → Shape
shape_by (commands.Check config) = Check config.now
shape_by (commands.Play script config) = Play script.now (option_copied config)
shape_by (commands.Run script config) = Run script.now (option_copied config)
shape_by (commands.Load n) = Load n
shape_by (commands.Json script config) = Json script.now (option_copied config)
shape_by (commands.Keys config asked) = Keys config.now asked
shape_by (commands.Relay script first second) = Relay script.now first.now second.now
shape_by (commands.Lanes script config) = Lanes script.now (option_copied config)
