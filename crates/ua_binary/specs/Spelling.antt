-- How values are written (OPC 10000-6 sections 5.2.2.1 to 5.2.2.17). Numbers are little-endian, signed ones in two's complement.
use Rattle.std.specs.Prelude.{ℕ, List, [], ◌∷◌, ◌++◌, length, Option, Some, None, if◌then◌else◌}
use Rattle.std.specs.Int.{w8, w16, w32, w64, cast_unsigned, to_le_bytes}
use Rattle.ua_values.specs.declared.value.Value.{Value}
use Rattle.ua_values.specs.declared.value.Value.TheVariants.{Boolean, SByte, Byte, Int16, UInt16, Int32, UInt32, Int64, UInt64, Float, Double, String, DateTime, Guid, ByteString, StatusCode}
use Rattle.ua_values.specs.Values.{kind_of}
use Rattle.ua_binary.specs.Types.{type_of}

-- an Int32 length and that many bytes: a String (section 5.2.2.4) or a ByteString (section 5.2.2.7)
abbrev pub block : List ℕ → List ℕ
block bytes = to_le_bytes w32 (length bytes) ++ bytes

-- a value's bytes, without its type
abbrev pub plain : Value → List ℕ
plain (Boolean flag) = (if flag then 1 else 0) ∷ []
plain (SByte n) = cast_unsigned w8 n ∷ []
plain (Byte n) = n ∷ []
plain (Int16 n) = to_le_bytes w16 (cast_unsigned w16 n)
plain (UInt16 n) = to_le_bytes w16 n
plain (Int32 n) = to_le_bytes w32 (cast_unsigned w32 n)
plain (UInt32 n) = to_le_bytes w32 n
plain (Int64 n) = to_le_bytes w64 (cast_unsigned w64 n)
plain (UInt64 n) = to_le_bytes w64 n
plain (Float bits) = to_le_bytes w32 bits
plain (Double bits) = to_le_bytes w64 bits
plain (String text) = block text
plain (DateTime steps) = to_le_bytes w64 (cast_unsigned w64 steps)
plain (Guid bytes) = bytes
plain (ByteString bytes) = block bytes
plain (StatusCode code) = to_le_bytes w32 code

-- a type byte and the value
abbrev pub variant : Value → List ℕ
variant value = type_of (kind_of value) ∷ plain value

-- a mask byte, the value, and the status where one is given
abbrev pub data_value : Value → Option ℕ → List ℕ
data_value value None = 1 ∷ variant value
data_value value (Some status) = 3 ∷ variant value ++ to_le_bytes w32 status
