-- A value of a kind, by its number, its bytes or its truth.
use Rattle.std.proofs.Common.{◌≡◌, ℕ, Bool, List, ℤ, refl}
use Rattle.ua_values.specs.declared.kind.Kind.TheVariants as kinds
use Rattle.ua_values.specs.declared.value.Value.{Value}
use Rattle.ua_values.specs.declared.value.Value.TheVariants as values
use Rattle.ua_values.specs.Values.{kind_of}

pub of_boolean : (value : Value) → kind_of value ≡ kinds.Boolean → (b : Bool) × (value ≡ values.Boolean b)
of_boolean (values.Boolean b) same = (b, refl)
of_boolean _ same = absurd (cc)

pub of_sbyte : (value : Value) → kind_of value ≡ kinds.SByte → (n : ℤ) × (value ≡ values.SByte n)
of_sbyte (values.SByte n) same = (n, refl)
of_sbyte _ same = absurd (cc)

pub of_byte : (value : Value) → kind_of value ≡ kinds.Byte → (n : ℕ) × (value ≡ values.Byte n)
of_byte (values.Byte n) same = (n, refl)
of_byte _ same = absurd (cc)

pub of_int16 : (value : Value) → kind_of value ≡ kinds.Int16 → (n : ℤ) × (value ≡ values.Int16 n)
of_int16 (values.Int16 n) same = (n, refl)
of_int16 _ same = absurd (cc)

pub of_uint16 : (value : Value) → kind_of value ≡ kinds.UInt16 → (n : ℕ) × (value ≡ values.UInt16 n)
of_uint16 (values.UInt16 n) same = (n, refl)
of_uint16 _ same = absurd (cc)

pub of_int32 : (value : Value) → kind_of value ≡ kinds.Int32 → (n : ℤ) × (value ≡ values.Int32 n)
of_int32 (values.Int32 n) same = (n, refl)
of_int32 _ same = absurd (cc)

pub of_uint32 : (value : Value) → kind_of value ≡ kinds.UInt32 → (n : ℕ) × (value ≡ values.UInt32 n)
of_uint32 (values.UInt32 n) same = (n, refl)
of_uint32 _ same = absurd (cc)

pub of_int64 : (value : Value) → kind_of value ≡ kinds.Int64 → (n : ℤ) × (value ≡ values.Int64 n)
of_int64 (values.Int64 n) same = (n, refl)
of_int64 _ same = absurd (cc)

pub of_uint64 : (value : Value) → kind_of value ≡ kinds.UInt64 → (n : ℕ) × (value ≡ values.UInt64 n)
of_uint64 (values.UInt64 n) same = (n, refl)
of_uint64 _ same = absurd (cc)

pub of_float : (value : Value) → kind_of value ≡ kinds.Float → (bits : ℕ) × (value ≡ values.Float bits)
of_float (values.Float bits) same = (bits, refl)
of_float _ same = absurd (cc)

pub of_double : (value : Value) → kind_of value ≡ kinds.Double → (bits : ℕ) × (value ≡ values.Double bits)
of_double (values.Double bits) same = (bits, refl)
of_double _ same = absurd (cc)

pub of_string : (value : Value) → kind_of value ≡ kinds.String → (text : List ℕ) × (value ≡ values.String text)
of_string (values.String text) same = (text, refl)
of_string _ same = absurd (cc)

pub of_date_time : (value : Value) → kind_of value ≡ kinds.DateTime → (steps : ℤ) × (value ≡ values.DateTime steps)
of_date_time (values.DateTime steps) same = (steps, refl)
of_date_time _ same = absurd (cc)

pub of_guid : (value : Value) → kind_of value ≡ kinds.Guid → (bytes : List ℕ) × (value ≡ values.Guid bytes)
of_guid (values.Guid bytes) same = (bytes, refl)
of_guid _ same = absurd (cc)

pub of_byte_string : (value : Value) → kind_of value ≡ kinds.ByteString → (bytes : List ℕ) × (value ≡ values.ByteString bytes)
of_byte_string (values.ByteString bytes) same = (bytes, refl)
of_byte_string _ same = absurd (cc)

pub of_status_code : (value : Value) → kind_of value ≡ kinds.StatusCode → (code : ℕ) × (value ≡ values.StatusCode code)
of_status_code (values.StatusCode code) same = (code, refl)
of_status_code _ same = absurd (cc)
