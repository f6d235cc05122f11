-- What the outside of a command tells, before it or after it.
use Rattle.std.specs.Prelude.{◌≡◌, ◌≤◌, ℕ, List, Option}
use Rattle.ua_base.specs.Cause.{Rose}
use Rattle.ua_base.specs.Files.{ToldFile}
use Rattle.ua_base.specs.Journal.{LinkState}
use Rattle.ua_base.specs.Links.{Making, Opening}

-- a folder and an output: what is told of the file of a name, how often a read has failed, what was written, and how often a write has failed
pub record Outside : Type 0 where
  pub file : List ℕ → ToldFile
  pub read_faults : ℕ
  pub written : Option (List ℕ)
  pub write_faults : ℕ

abbrev pub outside_of : {F K : Type 0} → (F → List ℕ → ToldFile) → (F → ℕ) → (K → Option (List ℕ)) → (K → ℕ) → F → K → Outside
outside_of tells read_faults written write_faults folder out =
    record { file = tells folder; read_faults = read_faults folder; written = written out; write_faults = write_faults out }

-- a link: its journal and what waits, how many answers Nothing more it tells for sure, how often it has failed, what it was opened
-- with, what it was made to do, and how often it was opened
pub record Wire : Type 0 where
  pub told : Option LinkState
  pub patience : ℕ
  pub faults : ℕ
  pub opened_with : Option Opening
  pub made : Making
  pub openings : ℕ

abbrev pub wire_of : {L : Type 0} → (L → Option LinkState) → (L → ℕ) → (L → ℕ) → (L → Option Opening) → (L → Making) → (L → ℕ) → L → Wire
wire_of told patience faults opened_with made openings link =
    record { told = told link; patience = patience link; faults = faults link; opened_with = opened_with link; made = made link; openings = openings link }

-- What every call over a folder keeps: what is told of its files. Its count of faults doesn't fall.
pub record KeepsFolder {F : Type 0} (tells : F → List ℕ → ToldFile) (faults : F → ℕ) (old new : F) : Type 0 where
  pub files : (name : List ℕ) → tells new name ≡ tells old name
  pub counted : faults old ≤ faults new

-- no call failed between these counts
abbrev pub IsQuiet : ℕ → ℕ → Type 0
IsQuiet before after = Rose before after → ⊥
