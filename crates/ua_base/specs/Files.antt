-- What a folder tells of its files, and what a read of one gives.
use Rattle.std.specs.Prelude.{◌≡◌, ◌≤◌, ◌<◌, ◌+◌, ℕ, List, length, Option, Some, None}
use Rattle.ua_base.specs.declared.folder.ReadEnd.{ReadEnd}
use Rattle.ua_base.specs.declared.folder.ReadEnd.TheVariants as end

-- what is told of a name: nothing, that there is no such file, or the bytes of the file
abbrev pub ToldFile : Type 0
ToldFile = Option (Option (List ℕ))

-- where the file is told, it is this one
abbrev pub TellsFile : ToldFile → (List ℕ → Type 0) → Type 0
TellsFile None P = Unit {0}
TellsFile (Some file) P = (bytes : List ℕ) × (file ≡ Some bytes) × P bytes

-- what a read of at most `limit` bytes leaves in the buffer, by its answer
abbrev pub ReadGives : ReadEnd → ℕ → ToldFile → List ℕ → Type 0
ReadGives end.Done limit told into = (length into ≤ limit) × TellsFile told (λ bytes. into ≡ bytes)
ReadGives (end.Long read) limit told into = (read ≡ limit + 1) × TellsFile told (λ bytes. limit < length bytes)
ReadGives end.Failed limit told into = Unit {0}
ReadGives end.Memory limit told into = Unit {0}
