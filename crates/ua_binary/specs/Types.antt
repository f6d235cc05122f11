-- The numbers of the built-in types (OPC 10000-6 section 5.1.2), of which a Variant's type byte has one (section 5.2.2.16).
use Rattle.std.specs.Prelude.{ℕ, ◌==◌, List, [], ◌∷◌, Option, find}
use Rattle.ua_values.specs.declared.kind.Kind.{Kind}
use Rattle.ua_values.specs.declared.kind.Kind.TheVariants.{Boolean, SByte, Byte, Int16, UInt16, Int32, UInt32, Int64, UInt64, Float, Double, String, DateTime, Guid, ByteString, StatusCode}

abbrev pub type_of : Kind → ℕ
type_of Boolean = 1
type_of SByte = 2
type_of Byte = 3
type_of Int16 = 4
type_of UInt16 = 5
type_of Int32 = 6
type_of UInt32 = 7
type_of Int64 = 8
type_of UInt64 = 9
type_of Float = 10
type_of Double = 11
type_of String = 12
type_of DateTime = 13
type_of Guid = 14
type_of ByteString = 15
type_of StatusCode = 19

abbrev pub all_kinds : List Kind
all_kinds =
    Boolean ∷ SByte ∷ Byte ∷ Int16 ∷ UInt16 ∷ Int32 ∷ UInt32 ∷ Int64 ∷ UInt64 ∷ Float ∷ Double
    ∷ String ∷ DateTime ∷ Guid ∷ ByteString ∷ StatusCode ∷ []

-- the kind whose number it is
abbrev pub kind_with : ℕ → Option Kind
kind_with number = find (λ kind. type_of kind == number) all_kinds
