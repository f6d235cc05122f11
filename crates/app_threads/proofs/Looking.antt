-- The counts of a thread's looks at a reader.
use Rattle.std.proofs.Common.{ℕ, zero, suc, ◌<◌, ◌≤◌, List, [], ◌∷◌, length, get_or, arith, le_refl}
use Rattle.std.specs.Prelude.{All}
use Rattle.std.proofs.lemmas.List.Elements.{All-nil, All-cons, All-weaker}
use Rattle.version_cell.specs.Histories.{StartsWith}
use Rattle.version_cell.specs.Known.{Known}
use Rattle.version_cell.proofs.Logs.{starts_length}
use Rattle.app_threads.specs.Looks.{Climbs, NeverFalls}
use Rattle.app_threads.specs.Duties.{Watched}

climbs_ends : (low : ℕ) (counts : List ℕ) (high : ℕ) → Climbs low counts high → low ≤ high
climbs_ends low [] high h = h
climbs_ends low (n ∷ counts) high h = let a = climbs_ends n counts high h.1 in let b = h.0 in omega (arith, a, b)

climbs_from : (low : ℕ) (counts : List ℕ) (high k : ℕ) → Climbs low counts high → k < length counts → low ≤ get_or counts k 0
climbs_from low [] high k h lt = absurd (omega arith)
climbs_from low (n ∷ counts) high zero h lt = h.0
climbs_from low (n ∷ counts) high (suc k) h lt = let a = climbs_from n counts high k h.1 (omega arith) in let b = h.0 in omega (arith, a, b)

never_falls : (low : ℕ) (counts : List ℕ) (high : ℕ) → Climbs low counts high → NeverFalls counts
never_falls low [] high h j k le lt = absurd (omega arith)
never_falls low (n ∷ counts) high h zero zero le lt = le_refl n
never_falls low (n ∷ counts) high h zero (suc k) le lt = climbs_from n counts high k h.1 (omega arith)
never_falls low (n ∷ counts) high h (suc j) zero le lt = absurd (omega arith)
never_falls low (n ∷ counts) high h (suc j) (suc k) le lt = never_falls n counts high h.1 j k (omega arith) (omega arith)

climbs_within : (low : ℕ) (counts : List ℕ) (high : ℕ) → Climbs low counts high → All (λ (count : ℕ). count ≤ high) counts
climbs_within low [] high h = All-nil (λ (count : ℕ). count ≤ high)
climbs_within low (n ∷ counts) high h = All-cons (λ (count : ℕ). count ≤ high) n counts (climbs_ends n counts high h.1) (climbs_within n counts high h.1)

pub watched_never_falls : (old new : Known) (counts : List ℕ) → Watched old new counts → NeverFalls counts
watched_never_falls old new counts w = never_falls (length old.seen) counts (length new.seen) w.climbs

pub watched_within : (old new p : Known) (counts : List ℕ) → Watched old new counts → StartsWith p.seen new.seen → All (λ (count : ℕ). count ≤ length p.seen) counts
watched_within old new p counts w later =
    let n = starts_length p.seen new.seen later in
    All-weaker (λ (count : ℕ). count ≤ length new.seen) (λ (count : ℕ). count ≤ length p.seen) (λ (count : ℕ) le. omega (arith, le, n)) counts (climbs_within (length old.seen) counts (length new.seen) w.climbs)
