-- How many bytes values and rows take.
use Rattle.std.proofs.Common.{◌≡◌, ℕ, ◌+◌, ◌-◌, ◌*◌, ◌≤◌, Bool, List, [], ◌∷◌, ◌++◌, length, refl, subst, arith, length-append}
use Rattle.std.specs.Prelude.{replicate}
use Rattle.std.specs.Int.{w32, to_le_bytes}
use Rattle.std.proofs.lemmas.List.{length-replicate}
use Rattle.std.proofs.lemmas.List.Sums.{sum_by_from}
use Rattle.ua_values.specs.declared.kind.Kind.{Kind}
use Rattle.ua_values.specs.declared.kind.Kind.TheVariants as kinds
use Rattle.ua_values.specs.declared.value.Value.{Value}
use Rattle.ua_values.specs.declared.value.Value.TheVariants as values
use Rattle.ua_values.specs.Values.{kind_of, size_of, IsValue}
use Rattle.dataset_meta.specs.declared.field.Field.{Field}
use Rattle.dataset_meta.specs.DataValues.{DataValue, FitsField}
use Rattle.dataset_meta.specs.Fields.{width, width_of}
use Rattle.dataset_meta.specs.Metas.{value_words, IsMeta}
use Rattle.dataset_meta.specs.Rows.{IsRowOf}
use Rattle.fixed_layout.specs.Spelling.{raw_width, raw_width_of, raw_size, raw_value, raw_row}

pub raw_size-cons : (field : Field) (fields : List Field) → raw_size (field ∷ fields) ≡ raw_width_of field + raw_size fields
raw_size-cons field fields = omega (arith, sum_by_from raw_width_of (0 + raw_width_of field) fields)

value_words-cons : (field : Field) (fields : List Field) → value_words (field ∷ fields) ≡ width_of field + value_words fields
value_words-cons field fields = omega (arith, sum_by_from width_of (0 + width_of field) fields)

-- a value takes no more bytes than its words have
in_words : (kind : Kind) (cap : ℕ) → raw_width kind cap ≤ 8 * width kind cap
in_words kinds.String cap = omega arith
in_words kinds.ByteString cap = omega arith
in_words kind cap = omega arith

size_in_words : (fields : List Field) → raw_size fields ≤ 8 * value_words fields
size_in_words [] = omega arith
size_in_words (field ∷ fields) = omega (arith, raw_size-cons field fields, value_words-cons field fields, in_words field.kind field.cap, size_in_words fields)

pub small_size : (fields : List Field) → IsMeta fields → raw_size fields ≤ 1000
small_size fields meta = omega (arith, size_in_words fields, meta.narrow)

length_filled : (cap : ℕ) (bytes : List ℕ) → length bytes ≤ cap → length ((to_le_bytes w32 (length bytes) ++ bytes) ++ replicate (cap - length bytes) 0) ≡ 4 + cap
length_filled cap bytes within =
    omega (
      arith,
      length-append (to_le_bytes w32 (length bytes) ++ bytes) (replicate (cap - length bytes) 0),
      length-append (to_le_bytes w32 (length bytes)) bytes,
      length-replicate {A = ℕ} (cap - length bytes) 0,
      within,
    )

pub length-raw_value : (cap : ℕ) (value : Value) → IsValue value → size_of value ≤ cap → length (raw_value cap value) ≡ raw_width (kind_of value) cap
length-raw_value cap (values.String text) is within = length_filled cap text within
length-raw_value cap (values.ByteString bytes) is within = length_filled cap bytes within
length-raw_value cap (values.Guid bytes) is within = omega (arith, length-append bytes [], is.0)
length-raw_value cap value is within = refl

pub length_in_field : (quality : Bool) (field : Field) (x : DataValue) → FitsField quality field x → length (raw_value field.cap x.value) ≡ raw_width_of field
length_in_field quality field x is =
    subst (λ (kind : Kind). length (raw_value field.cap x.value) ≡ raw_width kind field.cap) is.fits.same_kind (length-raw_value field.cap x.value is.is_value is.fits.within)

pub length-raw_row : (quality : Bool) (fields : List Field) (row : List DataValue) → IsRowOf quality fields row → length (raw_row fields row) ≡ raw_size fields
length-raw_row quality [] [] is = refl
length-raw_row quality [] (x ∷ row) is = absurd is
length-raw_row quality (field ∷ fields) [] is = absurd is
length-raw_row quality (field ∷ fields) (x ∷ row) is =
    omega (
      arith,
      length-append (raw_value field.cap x.value) (raw_row fields row),
      length_in_field quality field x is.0,
      length-raw_row quality fields row is.1,
      raw_size-cons field fields,
    )
