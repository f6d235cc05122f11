-- Counts of faults, and when a fault may be answered.
use Rattle.std.specs.Prelude.{ℕ, ◌+◌, ◌-◌, ◌^◌, ◌≤◌, Bool, min, if◌then◌else◌}

-- the count rose in the call, or stood at its last value as the call began
abbrev pub Rose : ℕ → ℕ → Type 0
Rose before now = min (before + 1) (2 ^ 64 - 1) ≤ now

-- the count doesn't fall, and the answer `failed` comes only where it rose
pub record HasCause (before now : ℕ) (failed : Type 0) : Type 0 where
  pub later : before ≤ now
  pub rose : failed → Rose before now

-- a count of 64 bits after a call that may have to be counted; it stands at its last value
abbrev pub counted_if : Bool → ℕ → ℕ
counted_if counts before = if counts then min (before + 1) (2 ^ 64 - 1) else before
