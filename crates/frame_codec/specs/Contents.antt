-- How the fields of a DataSetMessage are read, from left to right (OPC 10000-14 7.2.4.5, Data Key Frame and Data Delta Frame).
use Rattle.std.specs.Prelude.{ℕ, zero, suc, ◌-◌, ◌==◌, ◌&&◌, ◌||◌, Bool, false, nat_lt, nat_le, List, [], ◌∷◌, length, slice_get, Option, Some, None, Result, Ok, Err, if◌then◌else◌}
use Rattle.std.specs.Int.{w16}
use Rattle.ua_values.specs.declared.value.Value.{Value}
use Rattle.ua_values.specs.Values.{kind_of, size_of}
use Rattle.ua_binary.specs.declared.data_value.Measured.{Measured}
use Rattle.ua_binary.specs.declared.fault.ValueFault.{ValueFault}
use Rattle.ua_binary.specs.declared.fault.ValueFault.TheVariants as values
use Rattle.ua_binary.specs.Reading.{◌>>=◌, number_at}
use Rattle.ua_binary.specs.ReadingValues.{variant_at, data_value_at}
use Rattle.ua_binary.specs.Types.{type_of}
use Rattle.dataset_meta.specs.declared.field.Field.{Field}
use Rattle.dataset_meta.specs.DataValues.{DataValue}
use Rattle.dataset_meta.specs.Metas.{MetaData}
use Rattle.dataset_meta.specs.Rows.{put_in}
use Rattle.frame_codec.specs.declared.fault.FrameFault.{FrameFault}
use Rattle.frame_codec.specs.declared.fault.FrameFault.TheVariants.{Short, KindOut, BadValue, BadIndex, WrongCount}
use Rattle.frame_codec.specs.Frames.{Content, Whole, Change, Alive}

-- a value's fault, as the frame's
abbrev pub fault_of : ValueFault → FrameFault
fault_of values.Short = Short
fault_of values.KindOut = KindOut
fault_of values.BadUtf8 = BadValue
fault_of values.BadLength = BadValue

abbrev pub in_frame : {A : Type 0} → Result A ValueFault → Result A FrameFault
in_frame (Ok x) = Ok x
in_frame (Err fault) = Err (fault_of fault)

-- a value as a Variant, whose status is Good
abbrev pub good : Value → Measured
good value = record { value = Some value; status = 0 }

-- a Variant, or a DataValue, which may have no value
abbrev pub value_at : ℕ → List ℕ → Result (Measured × List ℕ) FrameFault
value_at encoding bytes =
    if encoding == 0
    then (in_frame (variant_at bytes) >>= λ value. Ok (good value.0, value.1))
    else in_frame (data_value_at bytes)

-- the value is of the field's kind, and a text or a blob has at most `cap` bytes
abbrev pub suits : Field → Value → Bool
suits field value =
    type_of (kind_of value) == type_of field.kind && nat_le (size_of value) field.cap

-- a data set without statuses drops them
abbrev pub kept : Bool → Value → ℕ → DataValue
kept quality value status = record { value = value; status = if quality then status else 0 }

-- what a field is given, if that suits it
abbrev pub given : Bool → Field → Option Value → ℕ → Result DataValue FrameFault
given quality field None status = Err BadValue
given quality field (Some value) status =
    if suits field value then Ok (kept quality value status) else Err BadValue

-- the value of a field; it is judged once it is read
unfoldable pub field_at : Bool → ℕ → Field → List ℕ → Result (DataValue × List ℕ) FrameFault
field_at quality encoding field bytes = do
  x ← value_at encoding bytes
  value ← given quality field x.0.value x.0.status
  Ok (value, x.1)

abbrev pub present : Option Value → Result (Unit {0}) FrameFault
present None = Err BadValue
present (Some value) = Ok tt

-- the value of a field that the data set doesn't have, which is judged by its own bytes and dropped
unfoldable pub surplus_at : ℕ → List ℕ → Result (Unit {0} × List ℕ) FrameFault
surplus_at encoding bytes = do
  x ← value_at encoding bytes
  done ← present x.0.value
  Ok (done, x.1)

-- one value for each field
abbrev pub row_at : Bool → ℕ → List Field → List ℕ → Result (List DataValue × List ℕ) FrameFault
row_at quality encoding [] bytes = Ok ([], bytes)
row_at quality encoding (field ∷ fields) bytes = do
  value ← field_at quality encoding field bytes
  row ← row_at quality encoding fields value.1
  Ok (value.0 ∷ row.0, row.1)

-- so many surplus values
abbrev pub surpluses_at : ℕ → ℕ → List ℕ → Result (Unit {0} × List ℕ) FrameFault
surpluses_at encoding zero bytes = Ok (tt, bytes)
surpluses_at encoding (suc count) bytes = do
  value ← surplus_at encoding bytes
  surpluses_at encoding count value.1

-- the sender's data set has grown: the frame carries a minor version greater than the meta's
abbrev pub is_newer : MetaData → Option ℕ → Bool
is_newer meta None = false
is_newer meta (Some minor) = nat_lt meta.minor minor

-- as many values as there are fields; a data set that has grown may send more
abbrev pub is_count : Bool → ℕ → ℕ → Bool
is_count newer fields count = count == fields || (newer && nat_lt fields count)

-- the values of the fields, and then the surplus ones
abbrev pub counted_at : Bool → ℕ → List Field → ℕ → List ℕ
    → Result (List DataValue × List ℕ) FrameFault
counted_at quality encoding fields count bytes = do
  row ← row_at quality encoding fields bytes
  rest ← surpluses_at encoding (count - length fields) row.1
  Ok (row.0, rest.1)

-- a key frame: a count, and so many values
unfoldable pub whole_at : MetaData → Bool → ℕ → List ℕ → Result (List DataValue × List ℕ) FrameFault
whole_at meta newer encoding bytes = do
  count ← number_at Short w16 bytes
  if is_count newer (length meta.fields) count.0
      then counted_at meta.quality encoding meta.fields count.0 count.1
      else Err (WrongCount count.0)

-- the patch with the value of this field too; of two values of one field the later counts
abbrev pub put_at : Bool → Bool → ℕ → List (ℕ × DataValue) → ℕ → Option Field → List ℕ
    → Result (List (ℕ × DataValue) × List ℕ) FrameFault
put_at quality newer encoding patch index (Some field) bytes =
    field_at quality encoding field bytes >>= λ value. Ok (put_in patch index value.0, value.1)
put_at quality newer encoding patch index None bytes =
    if newer then (surplus_at encoding bytes >>= λ value. Ok (patch, value.1))
    else Err (BadIndex index)

-- an index and a value
unfoldable pub change_at : MetaData → Bool → ℕ → List (ℕ × DataValue) → List ℕ
    → Result (List (ℕ × DataValue) × List ℕ) FrameFault
change_at meta newer encoding patch bytes = do
  index ← number_at Short w16 bytes
  put_at meta.quality newer encoding patch index.0 (slice_get meta.fields index.0) index.1

abbrev pub changes_at : MetaData → Bool → ℕ → ℕ → List (ℕ × DataValue) → List ℕ
    → Result (List (ℕ × DataValue) × List ℕ) FrameFault
changes_at meta newer encoding zero patch bytes = Ok (patch, bytes)
changes_at meta newer encoding (suc count) patch bytes = do
  change ← change_at meta newer encoding patch bytes
  changes_at meta newer encoding count change.0 change.1

-- a delta frame: a count, and so many indexes with their values
unfoldable pub patch_at : MetaData → Bool → ℕ → List ℕ
    → Result (List (ℕ × DataValue) × List ℕ) FrameFault
patch_at meta newer encoding bytes = do
  count ← number_at Short w16 bytes
  changes_at meta newer encoding count.0 [] count.1

-- by the kind of message: 0 is a key frame, 1 a delta frame, and 3, which alone is left, a keep-alive
unfoldable pub content_at : MetaData → Bool → ℕ → ℕ → List ℕ → Result (Content × List ℕ) FrameFault
content_at meta newer encoding zero bytes =
    whole_at meta newer encoding bytes >>= λ row. Ok (Whole row.0, row.1)
content_at meta newer encoding (suc zero) bytes =
    patch_at meta newer encoding bytes >>= λ patch. Ok (Change patch.0, patch.1)
content_at meta newer encoding (suc (suc kind)) bytes = Ok (Alive, bytes)
