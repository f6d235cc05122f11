-- What is set in a row once it is read.
use Rattle.std.proofs.Common.{◌≡◌, ℕ, ◌<◌, List, length, get_or, Ok, Err, sym, ap, ◌∙◌}
use Rattle.std.specs.Prelude.{slice_set}
use Rattle.std.proofs.lemmas.List.{get_or_default}
use Rattle.ua_values.specs.declared.value.Value.{Value}
use Rattle.ua_binary.specs.declared.cursor.Cursor.{Cursor}
use Rattle.ua_binary.specs.Reading.{HasRead, rest_of}
use Rattle.dataset_meta.specs.declared.field.Field.{Field}
use Rattle.dataset_meta.specs.DataValues.{DataValue}
use Rattle.fixed_layout.specs.declared.fault.RawFault.{RawFault}
use Rattle.fixed_layout.specs.Calls.{set_at}
use Rattle.fixed_layout.specs.Reading.{raw_value_at}
use Rattle.fixed_layout.specs.Spelling.{good}
use Rattle.fixed_layout.proofs.RowReading.{value_set, value_refused}

here : (fields : List Field) (index : ℕ) (field : Field) → index < length fields → field ≡ get_or fields index field → (d : Field) → get_or fields index d ≡ field
here fields index field within at d = get_or_default fields index d field within ∙ sym at

pub read-set : (fields : List Field) (index : ℕ) (field : Field) (row new : List DataValue) (value : Value) (old now : Cursor) → index < length fields → field ≡ get_or fields index field
    → HasRead value old now (raw_value_at field.kind field.cap) → new ≡ slice_set row index (good value) → (d : Field) → HasRead new old now (set_at (get_or fields index d) index row)
read-set fields index field row new value old now within at read is d = record {
  answer = ap (λ (f : Field). set_at f index row (rest_of old)) (here fields index field within at d) ∙ value_set field index row value (rest_of old) (rest_of now) read.answer
      ∙ ap (λ (r : List DataValue). Ok (r, rest_of now)) (sym is);
  same_bytes = read.same_bytes;
}

pub read-refused : (fields : List Field) (index : ℕ) (field : Field) (row : List DataValue) (bytes : List ℕ) (fault : RawFault) → index < length fields → field ≡ get_or fields index field
    → raw_value_at field.kind field.cap bytes ≡ Err fault → (d : Field) → set_at (get_or fields index d) index row bytes ≡ Err fault
read-refused fields index field row bytes fault within at read d =
    ap (λ (f : Field). set_at f index row bytes) (here fields index field within at d) ∙ value_refused field index row bytes fault read
