-- Which value of a DataSetMessage can't be read: the message is read as `frame_at` reads it, from left to right, and a value's fault names its field (OPC 10000-14 7.2.4.5, Data Key Frame and Data Delta Frame).
use Rattle.std.specs.Prelude.{ℕ, zero, suc, ◌+◌, ◌-◌, ◌==◌, Bool, false, not, ◌&&◌, ◌||◌, nat_lt, ⊤, List, [], ◌∷◌, length, slice_get, Option, Some, None, Result, Ok, Err, if◌then◌else◌}
use Rattle.std.specs.Int.{w16}
use Rattle.ua_binary.specs.Reading.{◌>>=◌, number_at, skipped}
use Rattle.ua_binary.specs.ReadingValues.{has}
use Rattle.dataset_meta.specs.declared.field.Field.{Field}
use Rattle.dataset_meta.specs.Metas.{MetaData}
use Rattle.frame_codec.specs.declared.fault.FrameFault.{FrameFault}
use Rattle.frame_codec.specs.declared.fault.FrameFault.TheVariants as faults
use Rattle.frame_codec.specs.declared.faulty.FieldFault.{FieldFault}
use Rattle.frame_codec.specs.Fronts.{front_at}
use Rattle.frame_codec.specs.Contents.{field_at, surplus_at, is_newer, is_count}

-- the type byte behind the mask of a DataValue, which has no value where bit 0 isn't set, and is none where bit 6 or 7 is
abbrev pub type_behind_mask : List ℕ → Option ℕ
type_behind_mask [] = None
type_behind_mask (mask ∷ rest) =
    if has mask 0x01 && not (has mask 0xc0) then slice_get rest 0 else None

-- the type byte of a Variant, or of the value of a DataValue
abbrev pub type_byte_at : ℕ → List ℕ → Option ℕ
type_byte_at encoding bytes = if encoding == 0 then slice_get bytes 0 else type_behind_mask bytes

-- what is told of a field whose value begins with these bytes
abbrev pub fault_at : ℕ → ℕ → List ℕ → FieldFault
fault_at encoding index bytes = record { index = index; type_byte = type_byte_at encoding bytes }

-- a fault that names this field, or none, in place of the frame's
abbrev pub naming : {A : Type 0} → Option FieldFault → Result A FrameFault
    → Result A (Option FieldFault)
naming field (Ok x) = Ok x
naming field (Err fault) = Err field

-- the value of a field, or one that is no field's
abbrev pub judged_at : Bool → ℕ → Option Field → List ℕ → Result (Unit {0} × List ℕ) FrameFault
judged_at quality encoding (Some field) bytes = skipped (field_at quality encoding field) bytes
judged_at quality encoding None bytes = surplus_at encoding bytes

-- the same, whose fault names this index
abbrev pub value_past : Bool → ℕ → ℕ → Option Field → List ℕ
    → Result (Unit {0} × List ℕ) (Option FieldFault)
value_past quality encoding index field bytes =
    naming (Some (fault_at encoding index bytes)) (judged_at quality encoding field bytes)

-- one value for each field; the first has this index
abbrev pub values_past : Bool → ℕ → ℕ → List Field → List ℕ
    → Result (Unit {0} × List ℕ) (Option FieldFault)
values_past quality encoding index [] bytes = Ok (tt, bytes)
values_past quality encoding index (field ∷ fields) bytes = do
  value ← value_past quality encoding index (Some field) bytes
  values_past quality encoding (index + 1) fields value.1

-- so many surplus values; the first has this index
abbrev pub surpluses_past : Bool → ℕ → ℕ → ℕ → List ℕ
    → Result (Unit {0} × List ℕ) (Option FieldFault)
surpluses_past quality encoding index zero bytes = Ok (tt, bytes)
surpluses_past quality encoding index (suc count) bytes = do
  value ← value_past quality encoding index None bytes
  surpluses_past quality encoding (index + 1) count value.1

-- the values of the fields, and then the surplus ones
abbrev pub counted_past : MetaData → ℕ → ℕ → List ℕ
    → Result (Unit {0} × List ℕ) (Option FieldFault)
counted_past meta encoding count bytes = do
  row ← values_past meta.quality encoding 0 meta.fields bytes
  surpluses_past meta.quality encoding (length meta.fields) (count - length meta.fields) row.1

-- a key frame: a count, whose fault names no field, and so many values
unfoldable pub whole_past : MetaData → Bool → ℕ → List ℕ
    → Result (Unit {0} × List ℕ) (Option FieldFault)
whole_past meta newer encoding bytes = do
  count ← number_at None w16 bytes
  if is_count newer (length meta.fields) count.0
      then counted_past meta encoding count.0 count.1
      else Err None

-- an index, whose fault names no field, and a value
unfoldable pub change_past : MetaData → Bool → ℕ → List ℕ
    → Result (Unit {0} × List ℕ) (Option FieldFault)
change_past meta newer encoding bytes = do
  index ← number_at None w16 bytes
  if newer || nat_lt index.0 (length meta.fields)
      then value_past meta.quality encoding index.0 (slice_get meta.fields index.0) index.1
      else Err None

abbrev pub changes_past : MetaData → Bool → ℕ → ℕ → List ℕ
    → Result (Unit {0} × List ℕ) (Option FieldFault)
changes_past meta newer encoding zero bytes = Ok (tt, bytes)
changes_past meta newer encoding (suc count) bytes = do
  change ← change_past meta newer encoding bytes
  changes_past meta newer encoding count change.1

-- a delta frame: a count, and so many indexes with their values
unfoldable pub patch_past : MetaData → Bool → ℕ → List ℕ
    → Result (Unit {0} × List ℕ) (Option FieldFault)
patch_past meta newer encoding bytes = do
  count ← number_at None w16 bytes
  changes_past meta newer encoding count.0 count.1

-- by the kind of message; a keep-alive has no fields
unfoldable pub content_past : MetaData → Bool → ℕ → ℕ → List ℕ
    → Result (Unit {0} × List ℕ) (Option FieldFault)
content_past meta newer encoding zero bytes = whole_past meta newer encoding bytes
content_past meta newer encoding (suc zero) bytes = patch_past meta newer encoding bytes
content_past meta newer encoding (suc (suc kind)) bytes = Ok (tt, bytes)

-- the front, whose fault names no field, and the content
unfoldable pub message_past : MetaData → List ℕ → Result (Unit {0} × List ℕ) (Option FieldFault)
message_past meta bytes = do
  front ← naming None (front_at false bytes)
  content_past meta (is_newer meta front.0.minor) front.0.encoding front.0.kind front.1

abbrev pub named : {A : Type 0} → Result A (Option FieldFault) → Option FieldFault
named (Ok x) = None
named (Err field) = field

-- the first field whose value can't be read
unfoldable pub field_fault : MetaData → List ℕ → Option FieldFault
field_fault meta bytes = named (message_past meta bytes)

-- the faults that a value can have
abbrev pub IsOfValue : FrameFault → Type 0
IsOfValue faults.Short = ⊤
IsOfValue faults.KindOut = ⊤
IsOfValue faults.BadValue = ⊤
IsOfValue _ = ⊥

-- the faults that only a value can have
abbrev pub IsOfValueAlone : FrameFault → Type 0
IsOfValueAlone faults.KindOut = ⊤
IsOfValueAlone faults.BadValue = ⊤
IsOfValueAlone _ = ⊥
