-- The number of a load.
use Rattle.std.specs.Prelude.{ℕ, List, Option}
use Rattle.ps_script.specs.Numbers.{number_within}

-- the number that the word spells in decimal digits, without a leading zero, where it is one of 1 to 1024
abbrev pub load_number : List ℕ → Option ℕ
load_number word = number_within 1 1024 word
