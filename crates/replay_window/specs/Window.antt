-- The windows that a list of taken numbers leaves.
use Rattle.std.specs.Prelude.{◌≡◌, ℕ, ◌+◌, ◌<◌, ◌≤◌, Bool, List}
use Rattle.replay_window.specs.Marks.{is_marked}
use Rattle.replay_window.specs.Taken.{greatest, is_taken, seen}
use Rattle.replay_window.specs.declared.seen.Seen.TheVariants.{Fresh}
use Rattle.replay_window.specs.declared.window.Window.{Window}

-- the greatest of the numbers that the window took, or 0 of none
abbrev pub high_of : Window → ℕ
high_of window = window.high

-- whether the window's bit of a number is set
abbrev pub holds : Window → ℕ → Bool
holds window number = is_marked window.words number

-- the window after these numbers were taken, the latest first: its high is the greatest, and its
-- bits say of each number less than 1,024 below it whether it was taken
pub record IsWindowOf (taken : List ℕ) (window : Window) : Type 0 where
  pub high_is : high_of window ≡ greatest taken
  pub marks : (number : ℕ) → number ≤ greatest taken → greatest taken < number + 1024 →
      holds window number ≡ is_taken taken number

-- each list that leaves the window finds the number fresh
abbrev pub IsFresh : Window → ℕ → Type 0
IsFresh window number = (taken : List ℕ) → IsWindowOf taken window → seen taken number ≡ Fresh
