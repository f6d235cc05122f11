-- What generated work ends with, whatever order its threads write in.
use Rattle.std.specs.Prelude.{ℕ, ◌+◌, ◌*◌, List, [], ◌∷◌, ◌++◌, codes}
use Rattle.std.specs.Fmt.{decimal}
use Rattle.ua_values.specs.declared.value.Value.TheVariants.{UInt32}
use Rattle.dataset_meta.specs.DataValues.{DataValue}

-- what a thread wrote last: its 8n-th value
abbrev pub newest_value : ℕ → ℕ → DataValue
newest_value n thread = record { value = UInt32 (100000 * thread + 8 * n); status = 0 }

-- the row of the last version: threads 0 to 3 write a field each
unfoldable pub newest_row : ℕ → List DataValue
newest_row n = newest_value n 0 ∷ newest_value n 1 ∷ newest_value n 2 ∷ newest_value n 3 ∷ []

-- the summary of a session whose reader holds the last version
unfoldable pub newest_text : ℕ → List ℕ
newest_text n =
    codes "load " ++ decimal n ++ codes " history " ++ decimal (32 * n) ++ codes " ticks " ++ decimal (4 * n) ++ codes "\n"
    ++ (codes "reader r1 a=" ++ decimal (8 * n) ++ codes " b=" ++ decimal (100000 + 8 * n) ++ codes " c=" ++ decimal (200000 + 8 * n)
    ++ codes " d=" ++ decimal (300000 + 8 * n) ++ codes "\n")
    ++ codes "end\n"
