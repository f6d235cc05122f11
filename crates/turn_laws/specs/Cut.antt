-- What the beginning of a log tells of versions.
use Rattle.std.specs.Prelude.{◌≡◌, ℕ, List, take, Some}
use Rattle.pubsub_model.specs.Answers.{version_of}

-- a version that the log's beginning has at a number of 16 bits the whole log has at it
abbrev pub TellsAsWhole : ℕ → List (ℕ × ℕ) → Type 0
TellsAsWhole most log = (number version : ℕ) → version_of (take most log) number ≡ Some version → version_of log number ≡ Some version
