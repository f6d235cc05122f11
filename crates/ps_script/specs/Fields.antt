-- Field words: `F=V`, or `F!S=V` with a status.
use Rattle.std.specs.Prelude.{ℕ, ◌==◌, Bool, true, false, ◌||◌, List, [], ◌∷◌, position, slice_get, Option, Some, None, option_map, option_and_then, unwrap_or, if◌then◌else◌}
use Rattle.std.specs.List.{list_any}
use Rattle.std.specs.Str.{bytes_eq}
use Rattle.ua_values.specs.declared.kind.Kind.TheVariants.{StatusCode}
use Rattle.ua_values.specs.declared.value.Value.{Value}
use Rattle.ua_values.specs.declared.value.Value.TheVariants as value
use Rattle.dataset_meta.specs.declared.field.Field.{Field}
use Rattle.dataset_meta.specs.DataValues.{DataValue}
use Rattle.dataset_meta.specs.Rows.{put_in}
use Rattle.ps_script.specs.Texts.{until, behind}
use Rattle.ps_script.specs.Values.{ValueReader}

abbrev pub has_byte : ℕ → List ℕ → Bool
has_byte mark bytes = list_any (λ byte. byte == mark) bytes

-- a field word has a `=`; its first parts it, and the first `!` in front of that
abbrev pub is_field_word : List ℕ → Bool
is_field_word word = has_byte 61 word

abbrev pub field_name : List ℕ → List ℕ
field_name word = until 33 (until 61 word)

abbrev pub value_text : List ℕ → List ℕ
value_text word = behind 61 word

abbrev pub status_text : List ℕ → Option (List ℕ)
status_text word = if has_byte 33 (until 61 word) then Some (behind 33 (until 61 word)) else None

abbrev pub field_named : List Field → List ℕ → Option ℕ
field_named fields name = position (λ field. bytes_eq field.name name) fields

-- the number of a StatusCode
abbrev pub code_of : Value → Option ℕ
code_of (value.StatusCode code) = Some code
code_of _ = None

-- a data set without quality has no status but 0, which is Good
abbrev pub if_allowed : Bool → ℕ → Option ℕ
if_allowed quality status = if quality || status == 0 then Some status else None

abbrev pub status_spelled : ValueReader → Bool → List ℕ → Option ℕ
status_spelled reader quality text =
    option_and_then (if_allowed quality) (option_and_then code_of (reader.read StatusCode 0 text))

-- a field word without a status gives 0
abbrev pub status_by : ValueReader → Bool → Option (List ℕ) → Option ℕ
status_by reader quality None = Some 0
status_by reader quality (Some text) = status_spelled reader quality text

abbrev pub value_for : ValueReader → List ℕ → Field → Option Value
value_for reader word field = reader.read field.kind field.cap (value_text word)

abbrev pub data_value : Value → ℕ → DataValue
data_value value status = record { value = value; status = status }

-- what a field word gives the field at this index
abbrev pub given_at : ValueReader → Bool → List Field → List ℕ → ℕ → Option (ℕ × DataValue)
given_at reader quality fields word index =
    option_and_then
    (λ value. option_map (λ status. (index, data_value value status)) (status_by reader quality (status_text word)))
    (option_and_then (value_for reader word) (slice_get fields index))

-- the field of a field word, with the value and the status that the word gives it
unfoldable pub change_of : ValueReader → Bool → List Field → List ℕ → Option (ℕ × DataValue)
change_of reader quality fields word = option_and_then (given_at reader quality fields word) (field_named fields (field_name word))

-- a field that isn't there, or one of these
abbrev pub is_bad_index : List ℕ → Option ℕ → Bool
is_bad_index taken None = true
is_bad_index taken (Some index) = list_any (λ other. other == index) taken

-- a field word whose field isn't there, or is that of an earlier word; these are the fields of the words before
abbrev pub has_bad_field : List Field → List ℕ → List (List ℕ) → Bool
has_bad_field fields taken [] = false
has_bad_field fields taken (word ∷ words) =
    is_bad_index taken (field_named fields (field_name word))
    || has_bad_field fields (unwrap_or (field_named fields (field_name word)) 0 ∷ taken) words

abbrev pub with_change : List (ℕ × DataValue) → Option (ℕ × DataValue) → List (ℕ × DataValue)
with_change patch None = patch
with_change patch (Some change) = put_in patch change.0 change.1

-- the patch with what these words give their fields
abbrev pub patch_with : ValueReader → Bool → List Field → List (ℕ × DataValue) → List (List ℕ) → List (ℕ × DataValue)
patch_with reader quality fields patch [] = patch
patch_with reader quality fields patch (word ∷ words) =
    patch_with reader quality fields (with_change patch (change_of reader quality fields word)) words
