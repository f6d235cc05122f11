-- What the words of the command line ask a key service for.
use Rattle.std.specs.Prelude.{ℕ, ◌^◌, List, [], ◌∷◌, codes, ◌&&◌, if◌then◌else◌, Option, Some, None, option_map}
use Rattle.std.specs.Str.{bytes_eq}
use Rattle.dataset_meta.specs.Names.{is_name}
use Rattle.config_tables.specs.Texts.{number_spelled}
use Rattle.cmd_base.specs.Words.{is_file_name}
use Rattle.cmd_keys.specs.declared.words.Asked.{Asked}

-- the name that a word is, if it is one
abbrev pub name_spelled : List ℕ → Option (List ℕ)
name_spelled word = if is_name word then Some word else None

-- the three numbers are there, or nothing is asked
abbrev pub asked_of : Option (List ℕ) → Option ℕ → Option ℕ → Option ℕ → Option Asked
asked_of group (Some start) (Some count) (Some moment) =
    Some (record { group = group; start = start; count = count; moment = moment })
asked_of group _ _ _ = None

-- `GROUP START COUNT MS`: any word, two numbers of 32 bits, and one of at most 2^40, decimal without a leading zero
abbrev pub asked_in : List ℕ → List ℕ → List ℕ → List ℕ → Option Asked
asked_in group start count moment =
    asked_of (name_spelled group) (number_spelled 4294967295 start) (number_spelled 4294967295 count)
    (number_spelled (2 ^ 40) moment)

-- the file and what is asked of it, by `keys FILE GROUP START COUNT MS`, and by no other words
abbrev pub keys_of : List (List ℕ) → Option (List ℕ × Asked)
keys_of (command ∷ file ∷ group ∷ start ∷ count ∷ moment ∷ []) =
    if bytes_eq command (codes "keys") && is_file_name file
    then option_map (λ asked. (file, asked)) (asked_in group start count moment)
    else None
keys_of _ = None
