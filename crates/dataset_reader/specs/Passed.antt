-- How many frames a reader passed over.
use Rattle.std.specs.Prelude.{◌≡◌, ℕ, ◌+◌, ◌-◌, ◌^◌, min, List, [], ◌∷◌, count_by, Bool, true, false}
use Rattle.dataset_reader.specs.declared.passed.Passed.{Passed}
use Rattle.dataset_reader.specs.declared.took.Outcome.{Outcome}
use Rattle.dataset_reader.specs.declared.took.Outcome.TheVariants as outcomes

abbrev pub none_passed : Passed
none_passed = record { wrong_major = 0; unnumbered = 0; older = 0 }

-- a count stands at 2^64 - 1
abbrev pub one_more : ℕ → ℕ
one_more count = min (count + 1) (2 ^ 64 - 1)

-- the counts after one more answer
abbrev pub counted : Passed → Outcome → Passed
counted passed outcomes.Held = passed
counted passed outcomes.Alive = passed
counted passed outcomes.Older = record passed { older = one_more passed.older }
counted passed (outcomes.Waiting why) = passed
counted passed (outcomes.WrongMajor got) = record passed { wrong_major = one_more passed.wrong_major }
counted passed outcomes.Unnumbered = record passed { unnumbered = one_more passed.unnumbered }

-- the counts after these answers, the latest first
abbrev pub passed_in : List Outcome → Passed
passed_in [] = none_passed
passed_in (outcome ∷ before) = counted (passed_in before) outcome

abbrev pub is_wrong_major : Outcome → Bool
is_wrong_major outcomes.Held = false
is_wrong_major outcomes.Alive = false
is_wrong_major outcomes.Older = false
is_wrong_major (outcomes.Waiting why) = false
is_wrong_major (outcomes.WrongMajor got) = true
is_wrong_major outcomes.Unnumbered = false

abbrev pub is_unnumbered : Outcome → Bool
is_unnumbered outcomes.Held = false
is_unnumbered outcomes.Alive = false
is_unnumbered outcomes.Older = false
is_unnumbered (outcomes.Waiting why) = false
is_unnumbered (outcomes.WrongMajor got) = false
is_unnumbered outcomes.Unnumbered = true

abbrev pub is_older : Outcome → Bool
is_older outcomes.Held = false
is_older outcomes.Alive = false
is_older outcomes.Older = true
is_older (outcomes.Waiting why) = false
is_older (outcomes.WrongMajor got) = false
is_older outcomes.Unnumbered = false

-- each count is how many of these answers have its cause
pub record AreCounted (answers : List Outcome) (passed : Passed) : Type 0 where
  pub wrong_major : passed.wrong_major ≡ min (count_by is_wrong_major answers) (2 ^ 64 - 1)
  pub unnumbered : passed.unnumbered ≡ min (count_by is_unnumbered answers) (2 ^ 64 - 1)
  pub older : passed.older ≡ min (count_by is_older answers) (2 ^ 64 - 1)
