-- Bytes that are laid for C.
use Rattle.std.specs.Prelude.{◌≡◌, ℕ, ◌<◌, ◌≤◌, ◌++◌, List, drop, length, Result, Ok, Err}
use Rattle.ua_values.specs.declared.value.Value.{Value}
use Rattle.ua_values.specs.declared.value.Value.TheVariants.{ByteString, String}
use Rattle.uapubsub_c.specs.Numbers.{status_number}
use Rattle.uapubsub_c.specs.declared.status.Status.{Status}
use Rattle.uapubsub_c.specs.declared.status.Status.TheVariants.{Misfit, Room}

-- the bytes stand at the front of the buffer, which keeps its rest, and there are so many
pub record IsLaidOut (bytes old new : List ℕ) (count : ℕ) : Type 0 where
  pub count_is : count ≡ length bytes
  pub laid : new ≡ bytes ++ drop count old

-- they are laid out so, or are longer than the buffer: UAP_ROOM, and it stays
pub record AreLaid (bytes : List ℕ) (number : ℕ) (old new : List ℕ) (count : ℕ) : Type 0 where
  pub count_is : count ≡ length bytes
  pub laid : count ≤ length old → (number ≡ 0) × IsLaidOut bytes old new count
  pub longer : length old < count → (number ≡ status_number Room) × (new ≡ old)

-- nothing is laid, for this reason
pub record IsUnlaid (status : Status) (number : ℕ) (old new : List ℕ) (was count : ℕ) : Type 0 where
  pub number_is : number ≡ status_number status
  pub same : new ≡ old
  pub count_is : count ≡ was

-- the bytes of a name are laid
abbrev pub LaysName : Result (List ℕ) Status → ℕ → List ℕ → List ℕ → ℕ → ℕ → Type 0
LaysName (Ok name) number old new was count = AreLaid name number old new count
LaysName (Err status) number old new was count = IsUnlaid status number old new was count

-- the bytes of a String are laid; another value is a misfit
abbrev pub LaysText : Result (Value × ℕ) Status → ℕ → List ℕ → List ℕ → ℕ → ℕ → Type 0
LaysText (Ok (String text, code)) number old new was count = AreLaid text number old new count
LaysText (Ok other) number old new was count = IsUnlaid Misfit number old new was count
LaysText (Err status) number old new was count = IsUnlaid status number old new was count

-- the bytes of a ByteString are laid; another value is a misfit
abbrev pub LaysBlob : Result (Value × ℕ) Status → ℕ → List ℕ → List ℕ → ℕ → ℕ → Type 0
LaysBlob (Ok (ByteString blob, code)) number old new was count = AreLaid blob number old new count
LaysBlob (Ok other) number old new was count = IsUnlaid Misfit number old new was count
LaysBlob (Err status) number old new was count = IsUnlaid status number old new was count
