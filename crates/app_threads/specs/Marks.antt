-- Where one thread's entries stand in a history, and that each is its write laid into the row before it.
use Rattle.std.specs.Prelude.{◌≡◌, ℕ, ◌+◌, ◌<◌, ◌==◌, if◌then◌else◌, List, [], ◌∷◌, ◌++◌, map}
use Rattle.dataset_meta.specs.declared.field.Field.{Field}
use Rattle.row_words.specs.declared.patch.Patch.{Patch}
use Rattle.row_words.specs.Patches.{patched_words}
use Rattle.version_cell.specs.declared.rule.Entry.{Entry}
use Rattle.version_cell.specs.Histories.{opening_words}

-- an entry: its version, the words of the row before it, and those of its row
pub record Mark : Type 0 where
  pub version : ℕ
  pub before : List ℕ
  pub after : List ℕ

-- the thread's entries, where so many entries have gone before and left this row
abbrev pub marks_from : ℕ → ℕ → List ℕ → List Entry → List Mark
marks_from thread count row [] = []
marks_from thread count row (e ∷ log) =
    if e.author == thread then record { version = count + 1; before = row; after = e.row } ∷ marks_from thread (count + 1) e.row log
    else marks_from thread (count + 1) e.row log

abbrev pub marks_of : ℕ → List Entry → List Mark
marks_of thread log = marks_from thread 0 opening_words log

abbrev pub versions_of : List Mark → List ℕ
versions_of marks = map (λ m. m.version) marks

-- there are as many entries as patches, and each is the next patch laid into the row before it
abbrev pub AreLaid : List Field → List Mark → List Patch → Type 0
AreLaid fields [] [] = Unit {0}
AreLaid fields [] (patch ∷ patches) = ⊥
AreLaid fields (m ∷ marks) [] = ⊥
AreLaid fields (m ∷ marks) (patch ∷ patches) = (m.after ≡ patched_words fields patch m.before) × AreLaid fields marks patches

-- in the new history the thread has further entries at these versions and nowhere else, and they are these patches
pub record Made (fields : List Field) (thread : ℕ) (old new : List Entry) (versions : List ℕ) (patches : List Patch) : Type 0 where
  pub marks : List Mark
  pub more : marks_of thread new ≡ marks_of thread old ++ marks
  pub versions_are : versions_of marks ≡ versions
  pub laid : AreLaid fields marks patches

-- who made each entry
abbrev pub authors : List Entry → List ℕ
authors log = map (λ e. e.author) log

-- each is above the one before, and the first above n
abbrev pub Rises : ℕ → List ℕ → Type 0
Rises n [] = Unit {0}
Rises n (v ∷ versions) = (n < v) × Rises v versions
