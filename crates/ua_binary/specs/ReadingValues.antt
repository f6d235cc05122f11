-- How values are read (OPC 10000-6 sections 5.2.2.1 to 5.2.2.17): a value and the bytes after it, or the first fault from left to right.
use Rattle.std.specs.Prelude.{ℕ, zero, suc, ℤ, pos, negsuc, Bool, not, ◌==◌, nat_lt, List, Option, Some, None, unwrap_or, Result, Ok, Err, if◌then◌else◌, bit_and}
use Rattle.std.specs.Int.{w16, w32, w64, w8, cast_signed}
use Rattle.std.specs.Str.{is_utf8}
use Rattle.ua_values.specs.declared.kind.Kind.{Kind}
use Rattle.ua_values.specs.declared.kind.Kind.TheVariants as kinds
use Rattle.ua_values.specs.declared.value.Value.{Value}
use Rattle.ua_values.specs.declared.value.Value.TheVariants.{Boolean, SByte, Byte, Int16, UInt16, Int32, UInt32, Int64, UInt64, Float, Double, String, DateTime, Guid, ByteString, StatusCode}
use Rattle.ua_binary.specs.declared.fault.ValueFault.{ValueFault}
use Rattle.ua_binary.specs.declared.fault.ValueFault.TheVariants.{Short, KindOut, BadUtf8, BadLength}
use Rattle.ua_binary.specs.declared.data_value.Measured.{Measured}
use Rattle.ua_binary.specs.Reading.{◌>>=◌, skipped, part_at, byte_at, bytes_at, number_at}
use Rattle.ua_binary.specs.Types.{kind_with}

-- a length field: -1 is the null text or blob, which is empty here
abbrev pub length_of : ℤ → Result ℕ ValueFault
length_of (pos n) = if nat_lt 256 n then Err BadLength else Ok n
length_of (negsuc zero) = Ok 0
length_of (negsuc (suc n)) = Err BadLength

-- an Int32 length and that many bytes: a String (section 5.2.2.4) or a ByteString (section 5.2.2.7)
unfoldable pub block_at : List ℕ → Result (List ℕ × List ℕ) ValueFault
block_at bytes = do
  field ← number_at Short w32 bytes
  len ← length_of (cast_signed w32 field.0)
  bytes_at Short len field.1

unfoldable pub text_at : List ℕ → Result (List ℕ × List ℕ) ValueFault
text_at bytes = do
  text ← block_at bytes
  if is_utf8 text.0 then Ok text else Err BadUtf8

-- what was read, as a value
abbrev pub as_value : {X : Type 0} → (X → Value) → Result (X × List ℕ) ValueFault
    → Result (Value × List ℕ) ValueFault
as_value value read = read >>= λ x. Ok (value x.0, x.1)

-- a value of this kind
abbrev pub plain_at : Kind → List ℕ → Result (Value × List ℕ) ValueFault
plain_at kinds.Boolean bytes = as_value (λ n. Boolean (not (n == 0))) (byte_at Short bytes)
plain_at kinds.SByte bytes = as_value (λ n. SByte (cast_signed w8 n)) (byte_at Short bytes)
plain_at kinds.Byte bytes = as_value Byte (byte_at Short bytes)
plain_at kinds.Int16 bytes = as_value (λ n. Int16 (cast_signed w16 n)) (number_at Short w16 bytes)
plain_at kinds.UInt16 bytes = as_value UInt16 (number_at Short w16 bytes)
plain_at kinds.Int32 bytes = as_value (λ n. Int32 (cast_signed w32 n)) (number_at Short w32 bytes)
plain_at kinds.UInt32 bytes = as_value UInt32 (number_at Short w32 bytes)
plain_at kinds.Int64 bytes = as_value (λ n. Int64 (cast_signed w64 n)) (number_at Short w64 bytes)
plain_at kinds.UInt64 bytes = as_value UInt64 (number_at Short w64 bytes)
plain_at kinds.Float bytes = as_value Float (number_at Short w32 bytes)
plain_at kinds.Double bytes = as_value Double (number_at Short w64 bytes)
plain_at kinds.String bytes = as_value String (text_at bytes)
plain_at kinds.DateTime bytes =
    as_value (λ n. DateTime (cast_signed w64 n)) (number_at Short w64 bytes)
plain_at kinds.Guid bytes = as_value Guid (bytes_at Short 16 bytes)
plain_at kinds.ByteString bytes = as_value ByteString (block_at bytes)
plain_at kinds.StatusCode bytes = as_value StatusCode (number_at Short w32 bytes)

-- a type byte of one of the kinds, and a value of that kind
unfoldable pub kind_at : List ℕ → Result (Kind × List ℕ) ValueFault
kind_at bytes = do
  number ← byte_at Short bytes
  known (kind_with number.0) number.1
  where
    known : Option Kind → List ℕ → Result (Kind × List ℕ) ValueFault
    known None rest = Err KindOut
    known (Some kind) rest = Ok (kind, rest)

unfoldable pub variant_at : List ℕ → Result (Value × List ℕ) ValueFault
variant_at bytes = do
  kind ← kind_at bytes
  plain_at kind.0 kind.1

-- whether a mask has this bit
abbrev pub has : ℕ → ℕ → Bool
has mask bit = not (bit_and mask bit == 0)

-- the source time, its picoseconds, the server time, its picoseconds: DateTimes of 8 bytes and UInt16s
unfoldable pub times_past : ℕ → List ℕ → Result (Unit {0} × List ℕ) ValueFault
times_past mask bytes = do
  source ← skipped (part_at (has mask 0x04) (bytes_at Short 8)) bytes
  source_picoseconds ← skipped (part_at (has mask 0x10) (bytes_at Short 2)) source.1
  server ← skipped (part_at (has mask 0x08) (bytes_at Short 8)) source_picoseconds.1
  skipped (part_at (has mask 0x20) (bytes_at Short 2)) server.1

-- the parts that the mask tells of
unfoldable pub parts_at : ℕ → List ℕ → Result (Measured × List ℕ) ValueFault
parts_at mask bytes = do
  value ← part_at (has mask 0x01) variant_at bytes
  status ← part_at (has mask 0x02) (number_at Short w32) value.1
  times ← times_past mask status.1
  Ok (record { value = value.0; status = unwrap_or status.0 0 }, times.1)

-- a mask byte and its parts; a mask with bit 6 or 7 is no DataValue's
unfoldable pub data_value_at : List ℕ → Result (Measured × List ℕ) ValueFault
data_value_at bytes = do
  mask ← byte_at Short bytes
  if has mask.0 0xc0 then Err KindOut else parts_at mask.0 mask.1
