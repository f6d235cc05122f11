-- A written value is read as itself.
use Rattle.std.proofs.Common.{◌≡◌, ℕ, ℤ, pos, negsuc, Bool, true, false, Some, cond, refl, arith}
use Rattle.std.specs.Prelude.{◌==◌, codes}
use Rattle.std.proofs.lemmas.Bool.Decides.{nat_tests}
use Rattle.serde_json.specs.Data.{object, number, unsigned, member, no_members}
use Rattle.serde_json.specs.Find.{of_integer}
use Rattle.ua_values.specs.declared.value.Value.{Value}
use Rattle.ua_values.specs.declared.value.Value.TheVariants as values
use Rattle.dataset_meta.specs.declared.field.Field.{Field}
use Rattle.dataset_meta.specs.DataValues.{DataValue, IsStatus, FitsField}
use Rattle.json_values.specs.Numbers.{integer_in}
use Rattle.json_values.specs.Spelled.{json_of, field_json}
use Rattle.json_values.specs.Reading.{StandsFor, HasQuality, HasFieldJson, ReadsField}

integer_of : (z : ℤ) → integer_in (number (of_integer z)) ≡ Some z
integer_of (pos n) = refl
integer_of (negsuc n) = refl

-- what is written of a value stands for it
pub stands : (value : Value) → StandsFor (json_of value) value
stands (values.Boolean b) = refl
stands (values.SByte n) = integer_of n
stands (values.Byte n) = refl
stands (values.Int16 n) = integer_of n
stands (values.UInt16 n) = refl
stands (values.Int32 n) = integer_of n
stands (values.UInt32 n) = refl
stands (values.Int64 n) = refl
stands (values.UInt64 n) = refl
stands (values.Float bits) = refl
stands (values.Double bits) = refl
stands (values.String text) = refl
stands (values.DateTime steps) = refl
stands (values.Guid bytes) = refl
stands (values.ByteString bytes) = refl
stands (values.StatusCode code) = refl

by_status : (x : DataValue) (b : Bool) → (b ≡ true → x.status ≡ 0)
    → HasQuality (object (cond b (member (codes "Value") (json_of x.value) no_members) (member (codes "StatusCode") (number (unsigned x.status)) (member (codes "Value") (json_of x.value) no_members)))) x
by_status x true zero = record { inner = json_of x.value; here = refl; value = stands x.value; status = zero refl }
by_status x false zero = record { inner = json_of x.value; here = refl; value = stands x.value; status = refl }

is_zero : (n : ℕ) → (n == 0) ≡ true → n ≡ 0
is_zero n h = grind (arith, nat_tests)

has_field : (quality : Bool) (x : DataValue) → IsStatus quality x.status → HasFieldJson quality (field_json quality x) x
has_field false x is = (stands x.value, is)
has_field true x is = by_status x (x.status == 0) (is_zero x.status)

pub written_is_read : (quality : Bool) (field : Field) (x : DataValue) → FitsField quality field x → ReadsField quality field (field_json quality x) x
written_is_read quality field x fits = record { fits = fits; stands = has_field quality x fits.is_status }
