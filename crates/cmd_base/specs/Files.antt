-- What reading a file whole gives.
use Rattle.std.specs.Prelude.{◌≡◌, ◌≤◌, ◌<◌, ⊤, ℕ, List, length, Some}
use Rattle.ua_base.specs.Files.{ToldFile, TellsFile}
use Rattle.cmd_base.specs.declared.status.Status.{Status}
use Rattle.cmd_base.specs.declared.status.Status.TheVariants.{Unread, OutOfMemory, Long}

-- the bytes that a file may have
abbrev pub most_bytes : ℕ
most_bytes = 1048576

abbrev pub IsLong : List ℕ → Type 0
IsLong bytes = most_bytes < length bytes

-- these bytes were read: where the folder tells the file, they are its bytes
pub record IsRead (file : ToldFile) (bytes : List ℕ) : Type 0 where
  pub whole : TellsFile file (λ known. bytes ≡ known)
  pub short : length bytes ≤ most_bytes

-- the folder tells these bytes of the file, which may be read
pub record IsTold (file : ToldFile) (bytes : List ℕ) : Type 0 where
  pub told : file ≡ Some (Some bytes)
  pub short : length bytes ≤ most_bytes

-- what a status says of the file of a name that was not read
abbrev pub EndsFile : ToldFile → List ℕ → Status → Type 0
EndsFile file name (Unread unread) = unread.now ≡ name
EndsFile file name (Long long) = (long.now ≡ name) × TellsFile file IsLong
EndsFile file name OutOfMemory = ⊤
EndsFile file name _ = ⊥
