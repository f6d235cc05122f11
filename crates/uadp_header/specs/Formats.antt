-- Formats: which parts bytes are made of, told once for reading and for spelling. A part is so many bytes, which may be refused; which part comes next goes by those before it.
use Rattle.std.specs.Prelude.{◌≡◌, ℕ, ◌≤◌, ◌<◌, ◌⊎◌, List, [], ◌∷◌, ◌++◌, length, take, drop, Option, Some, None, Result, Ok, Err, nat_lt, if◌then◌else◌}
use Rattle.uadp_header.specs.declared.fault.HeaderFault.{HeaderFault}
use Rattle.uadp_header.specs.declared.fault.HeaderFault.TheVariants.{Short}

-- what all the parts together tell, or a part and what follows it
pub data Format (X : Type 0) : Type 0 where
  Told : (told : X) → Format X
  Part : (size : ℕ) (refused : List ℕ → Option HeaderFault) (next : List ℕ → Format X) → Format X

-- one format, and then another that goes by what the first tells
infixl 10 ◌>>=◌
unfoldable pub ◌>>=◌ : {A B : Type 0} → Format A → (A → Format B) → Format B
(Told told) >>= after = after told
(Part size refused next) >>= after = Part size refused (λ part. next part >>= after)

-- a part's fault, else what is read
abbrev pub passing : {A : Type 0} → Option HeaderFault → Result A HeaderFault → Result A HeaderFault
passing None answer = answer
passing (Some fault) answer = Err fault

-- Reading: what the parts tell and the bytes behind them, or the fault of the first part that fails.
unfoldable pub read : {X : Type 0} → Format X → List ℕ → Result (X × List ℕ) HeaderFault
read (Told told) bytes = Ok (told, bytes)
read (Part size refused next) bytes =
    if nat_lt (length bytes) size then Err Short
    else passing (refused (take size bytes)) (read (next (take size bytes)) (drop size bytes))

-- These parts may stand there one after another, each of its size and none refused; `rest` is the format of what follows them.
abbrev pub Leads : {X : Type 0} → Format X → List (List ℕ) → Format X → Type 0
Leads format [] rest = format ≡ rest
Leads (Told told) (part ∷ parts) rest = ⊥
Leads (Part size refused next) (part ∷ parts) rest = (length part ≡ size) × (refused part ≡ None) × Leads (next part) parts rest

-- the bytes of parts
abbrev pub joined : List (List ℕ) → List ℕ
joined [] = []
joined (part ∷ parts) = part ++ joined parts

-- The bytes are those of all parts of the format, which tell this, and then these.
pub record Spells {X : Type 0} (format : Format X) (bytes : List ℕ) (told : X) (rest : List ℕ) : Type 0 where
  pub parts : List (List ℕ)
  pub stand : Leads format parts (Told told)
  pub bytes_are : bytes ≡ joined parts ++ rest

-- too few bytes for a part, or bytes that are refused
abbrev pub IsFaultOf : ℕ → (List ℕ → Option HeaderFault) → List ℕ → HeaderFault → Type 0
IsFaultOf size refused bytes fault = ((length bytes < size) × (fault ≡ Short)) ⊎ ((size ≤ length bytes) × (refused (take size bytes) ≡ Some fault))

-- The first parts stand there, and the next one fails with this fault.
pub record Fails {X : Type 0} (format : Format X) (bytes : List ℕ) (fault : HeaderFault) : Type 0 where
  pub parts : List (List ℕ)
  pub rest : List ℕ
  pub size : ℕ
  pub refused : List ℕ → Option HeaderFault
  pub next : List ℕ → Format X
  pub stand : Leads format parts (Part size refused next)
  pub bytes_are : bytes ≡ joined parts ++ rest
  pub fails : IsFaultOf size refused rest fault
