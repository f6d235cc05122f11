-- Reading from left to right, with the first fault that is met.
use Rattle.std.specs.Prelude.{◌≡◌, ℕ, Bool, List, [], ◌∷◌, length, take, drop, Option, Some, None, Result, Ok, Err, nat_lt, if◌then◌else◌}
use Rattle.std.specs.Int.{Width, byte_len, from_le_bytes}
use Rattle.std.specs.Borrow.{Bor}
use Rattle.ua_binary.specs.declared.cursor.Cursor.{Cursor}
use Rattle.ua_binary.specs.declared.cursor.Short.{Short}

infixl 10 ◌>>=◌
abbrev pub ◌>>=◌ : {A B F : Type 0} → Result A F → (A → Result B F) → Result B F
(Ok x) >>= next = next x
(Err fault) >>= next = Err fault

abbrev pub byte_at : {F : Type 0} → F → List ℕ → Result (ℕ × List ℕ) F
byte_at short [] = Err short
byte_at short (byte ∷ rest) = Ok (byte, rest)

abbrev pub bytes_at : {F : Type 0} → F → ℕ → List ℕ → Result (List ℕ × List ℕ) F
bytes_at short n bytes =
    if nat_lt (length bytes) n then Err short else Ok (take n bytes, drop n bytes)

abbrev pub number_at : {F : Type 0} → F → Width → List ℕ → Result (ℕ × List ℕ) F
number_at short w bytes = do
  n ← bytes_at short (byte_len w) bytes
  Ok (from_le_bytes w n.0, n.1)

-- what is still to be read
abbrev pub rest_of : Cursor → List ℕ
rest_of cursor = drop cursor.at cursor.bytes.now

-- the only fault of reading bytes and numbers
abbrev pub short : Short
short = record {}

-- what was read, and the cursor stands behind it in the same bytes
pub record HasRead {A F : Type 0} (x : A) (old new : Cursor)
    (read : List ℕ → Result (A × List ℕ) F) : Type 0 where
  pub answer : read (rest_of old) ≡ Ok (x, rest_of new)
  pub same_bytes : new.bytes ≡ old.bytes

-- the first fault, and the cursor is as it was
pub record HasRefused {A F : Type 0} (fault : F) (old new : Cursor)
    (read : List ℕ → Result (A × List ℕ) F) : Type 0 where
  pub answer : read (rest_of old) ≡ Err fault
  pub stays : new ≡ old

-- A call on a cursor answers what reading gives of the bytes that are left.
abbrev pub Reads : {A F : Type 0} → Result A F → Cursor → Cursor → (List ℕ → Result (A × List ℕ) F)
    → Type 0
Reads (Ok x) old new read = HasRead x old new read
Reads (Err fault) old new read = HasRefused fault old new read

-- an answer that is bytes in memory
abbrev pub lent : {F : Type 0} → Result (Bor (List ℕ)) F → Result (List ℕ) F
lent (Ok found) = Ok found.now
lent (Err fault) = Err fault

-- The same of a step on a copy of a cursor: where the copy stands after a refusal isn't said.
abbrev pub ReadsAhead : {A F : Type 0} → Result A F → Cursor → Cursor
    → (List ℕ → Result (A × List ℕ) F) → Type 0
ReadsAhead (Ok x) old new read = HasRead x old new read
ReadsAhead (Err fault) old new read = read (rest_of old) ≡ Err fault

-- what is read, without its meaning
abbrev pub skipped : {A F : Type 0} → (List ℕ → Result (A × List ℕ) F) → List ℕ
    → Result (Unit {0} × List ℕ) F
skipped read bytes = read bytes >>= λ part. Ok (tt, part.1)

-- a part that is there where its flag is set
abbrev pub part_at : {A F : Type 0} → Bool → (List ℕ → Result (A × List ℕ) F) → List ℕ
    → Result (Option A × List ℕ) F
part_at flag read bytes =
    if flag then (read bytes >>= λ part. Ok (Some part.0, part.1)) else Ok (None, bytes)
