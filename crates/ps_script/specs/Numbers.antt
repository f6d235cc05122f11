-- Numbers in lines: decimal, without a leading zero.
use Rattle.std.specs.Prelude.{ℕ, Bool, List, nat_le, Option, Some, None, is_some, unwrap_or, option_and_then, if◌then◌else◌}
use Rattle.config_tables.specs.Texts.{number_spelled}

abbrev pub at_least : ℕ → ℕ → Option ℕ
at_least least n = if nat_le least n then Some n else None

-- the number that a word spells, where it is in the range
unfoldable pub number_within : ℕ → ℕ → List ℕ → Option ℕ
number_within least most word = option_and_then (at_least least) (number_spelled most word)

abbrev pub is_number : ℕ → ℕ → List ℕ → Bool
is_number least most word = is_some (number_within least most word)

-- the number, where the word spells one
abbrev pub number_at : ℕ → ℕ → List ℕ → ℕ
number_at least most word = unwrap_or (number_within least most word) 0
