-- What a thread's watches have counted.
use Rattle.std.specs.Prelude.{◌≡◌, ℕ, ◌<◌, ◌≤◌, ◌==◌, if◌then◌else◌, List, [], ◌∷◌, length, slice_index}
use Rattle.std.specs.List.{flat_map}
use Rattle.app_threads.specs.declared.done.Looked.{Looked}

-- the counts of a watch of this reader
abbrev pub counts_of : ℕ → Looked → List ℕ
counts_of reader looked = if looked.reader == reader then looked.counts else []

-- the counts of all looks at a reader, in order
abbrev pub counts_in : ℕ → List Looked → List ℕ
counts_in reader looks = flat_map (counts_of reader) looks

-- counts that begin at `low` or above, don't fall, and end at `high` or below
abbrev pub Climbs : ℕ → List ℕ → ℕ → Type 0
Climbs low [] high = low ≤ high
Climbs low (n ∷ counts) high = (low ≤ n) × Climbs n counts high

-- no count is below an earlier one
abbrev pub NeverFalls : List ℕ → Type 0
NeverFalls counts = (j k : ℕ) → j ≤ k → k < length counts → slice_index counts j ≤ slice_index counts k

-- a watch's reader, and as many counts as its times
pub record IsLooked (watch : ℕ × ℕ) (looked : Looked) : Type 0 where
  pub reader : looked.reader ≡ watch.0
  pub times : length looked.counts ≡ watch.1
