-- The files of a folder in memory.
use Rattle.std.specs.Prelude.{ℕ, List, Option, Vec, find}
use Rattle.std.specs.Str.{bytes_eq}
use Rattle.std.specs.Option.{option_map}
use Rattle.std.specs.declared.alloc.Global.{Global}

-- the bytes of the first file of that name
abbrev pub file_in : List (List ℕ × Vec ℕ Global) → List ℕ → Option (List ℕ)
file_in files name = option_map (λ file. file.1.items) (find (λ file. bytes_eq file.0 name) files)
