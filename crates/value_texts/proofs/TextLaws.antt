-- Texts of two values of one kind are equal only where the values are.
use Rattle.std.proofs.Common.{◌≡◌, ◌≢◌, ℕ, ◌^◌, ◌<◌, Bool, true, false, List, [], length, get_or, Option, Some, unwrap_or, refl, sym, ap, ◌∙◌, subst, inl, inr, arith}
use Rattle.std.specs.Prelude.{codes}
use Rattle.std.specs.Int.{w8, w16, w32, w64, to_be_bytes, from_be_bytes}
use Rattle.std.specs.Int.RustNames.{FitsSigned}
use Rattle.std.specs.List.{All}
use Rattle.std.proofs.lemmas.Bool.{cases_lt}
use Rattle.std.proofs.lemmas.Fmt.{decimal_injective, signed_decimal_injective}
use Rattle.std.proofs.lemmas.List.{append_cancel_left, get_or_past}
use Rattle.std.proofs.lemmas.List.Elements.{All-from_recursion}
use Rattle.std.proofs.lemmas.Nat.{from_be_bytes-to_be_bytes_4, from_be_bytes-to_be_bytes_8}
use Rattle.hex.specs.Hex.{IsBytes, encode_lower, decode_of}
use Rattle.hex.proofs.HexLemmas.{decode_of-encode_lower, decode_of-same}
use Rattle.uuid.specs.Parts.{swap_fields}
use Rattle.uuid.specs.Text.{lower, parsed}
use Rattle.uuid.proofs.RoundTrips.{parses_hyphenated, swap_twice}
use Rattle.ua_values.specs.declared.kind.Kind.{Kind}
use Rattle.ua_values.specs.declared.kind.Kind.TheVariants as kinds
use Rattle.ua_values.specs.declared.value.Value.{Value}
use Rattle.ua_values.specs.declared.value.Value.TheVariants as values
use Rattle.ua_values.specs.Values.{kind_of, IsValue}
use lib.Signed.{mag}
use Rattle.value_texts.specs.Texts.{truth_text, hex_text, hex_text_32, hex_text_64, guid_text, value_text_of}
use Rattle.value_texts.specs.Spelling.{IsTextOf}
use Rattle.value_texts.proofs.OfKinds.{of_boolean, of_sbyte, of_byte, of_int16, of_uint16, of_int32, of_uint32, of_int64, of_uint64, of_float, of_double, of_string, of_date_time, of_guid, of_byte_string, of_status_code}
use Rattle.value_texts.proofs.Spellings.{spells_once, printed_spells}

-- what is printed of a value is a text of it
pub printed_is_text : (value : Value) → IsValue value → IsTextOf (value_text_of value) value
unfolding value_text_of
printed_is_text (values.String text) valid = printed_spells text valid.short.in_range
printed_is_text _ valid = refl

pub truth_once : (a b : Bool) → truth_text a ≡ truth_text b → a ≡ b
truth_once true true same = refl
truth_once false false same = refl
truth_once true false same = absurd (let e : 116 ≡ 102 = ap (λ (l : List ℕ). get_or l 0 0) same in omega arith)
truth_once false true same = absurd (let e : 102 ≡ 116 = ap (λ (l : List ℕ). get_or l 0 0) same in omega arith)

-- every element of a list of bytes is one, and so is what is read past its end
pub bytes_from_All : (bytes : List ℕ) → All (λ byte. byte < 256) bytes → IsBytes bytes
bytes_from_All bytes all i =
    elim (cases_lt i (length bytes)) [
      | inl inside ↦ all i 0 inside
      | inr past ↦ rw (get_or_past bytes i 0 past) (omega arith)
    ]

pub hex_once : (a b : List ℕ) → All (λ byte. byte < 256) a → All (λ byte. byte < 256) b → hex_text a ≡ hex_text b → a ≡ b
hex_once a b in_a in_b same =
    let digits : encode_lower a ≡ encode_lower b = append_cancel_left (codes "0x") (encode_lower a) (encode_lower b) same in
    decode_of-same (encode_lower a) a b (decode_of-encode_lower a (bytes_from_All a in_a))
    (ap decode_of digits ∙ decode_of-encode_lower b (bytes_from_All b in_b))

pub small_32 : (n : ℕ) → All (λ byte. byte < 256) (to_be_bytes w32 n)
small_32 n = All-from_recursion (λ byte. byte < 256) (to_be_bytes w32 n) (omega arith, (omega arith, (omega arith, (omega arith, tt))))

pub small_64 : (n : ℕ) → All (λ byte. byte < 256) (to_be_bytes w64 n)
small_64 n =
    All-from_recursion (λ byte. byte < 256) (to_be_bytes w64 n)
    (omega arith, (omega arith, (omega arith, (omega arith, (omega arith, (omega arith, (omega arith, (omega arith, tt))))))))

pub hex_32_once : (a b : ℕ) → a < 2 ^ 32 → b < 2 ^ 32 → hex_text_32 a ≡ hex_text_32 b → a ≡ b
hex_32_once a b low small same =
    sym (from_be_bytes-to_be_bytes_4 a low)
    ∙ ap (from_be_bytes w32) (hex_once (to_be_bytes w32 a) (to_be_bytes w32 b) (small_32 a) (small_32 b) same)
    ∙ from_be_bytes-to_be_bytes_4 b small

pub hex_64_once : (a b : ℕ) → a < 2 ^ 64 → b < 2 ^ 64 → hex_text_64 a ≡ hex_text_64 b → a ≡ b
hex_64_once a b low small same =
    sym (from_be_bytes-to_be_bytes_8 a low)
    ∙ ap (from_be_bytes w64) (hex_once (to_be_bytes w64 a) (to_be_bytes w64 b) (small_64 a) (small_64 b) same)
    ∙ from_be_bytes-to_be_bytes_8 b small

pub swapped_small : (bytes : List ℕ) → All (λ byte. byte < 256) bytes → All (λ byte. byte < 256) (swap_fields bytes)
swapped_small bytes all =
    let b = bytes_from_All bytes all in
    All-from_recursion (λ byte. byte < 256) (swap_fields bytes)
    (b 3, (b 2, (b 1, (b 0, (b 5, (b 4, (b 7, (b 6, (b 8, (b 9, (b 10, (b 11, (b 12, (b 13, (b 14, (b 15, tt))))))))))))))))

-- what a Guid's text parses to
pub guid_parses : (bytes : List ℕ) → All (λ byte. byte < 256) bytes → Some (swap_fields bytes) ≡ parsed (guid_text bytes)
guid_parses bytes all = parses_hyphenated lower (swap_fields bytes) (inl refl) refl (swapped_small bytes all)

pub guid_once : (a b : List ℕ) → length a ≡ 16 → length b ≡ 16 → All (λ byte. byte < 256) a → All (λ byte. byte < 256) b → guid_text a ≡ guid_text b → a ≡ b
guid_once a b len_a len_b in_a in_b same =
    let ids : Some (swap_fields a) ≡ Some (swap_fields b) = guid_parses a in_a ∙ ap parsed same ∙ sym (guid_parses b in_b) in
    let fields : swap_fields a ≡ swap_fields b = ap (λ (o : Option (List ℕ)). unwrap_or o []) ids in
    sym (swap_twice a len_a) ∙ ap swap_fields fields ∙ swap_twice b len_b

-- a word is a text of one value of a kind
pub text_once : (word : List ℕ) (one other : Value) → IsValue one → IsValue other → kind_of one ≡ kind_of other → IsTextOf word one → IsTextOf word other → one ≡ other
unfolding value_text_of
text_once word (values.Boolean a) other valid right same is so =
    let o = of_boolean other (sym same) in
    let t : IsTextOf word (values.Boolean o.0) = subst (IsTextOf word) o.1 so in
    ap values.Boolean (truth_once a o.0 (sym is ∙ t)) ∙ sym o.1
text_once word (values.SByte a) other valid right same is so =
    let o = of_sbyte other (sym same) in
    let v : FitsSigned w8 o.0 = subst IsValue o.1 right in
    let low : mag a < 2 ^ 7 = valid.sfits in
    let small : mag o.0 < 2 ^ 7 = v.sfits in
    let t : IsTextOf word (values.SByte o.0) = subst (IsTextOf word) o.1 so in
    ap values.SByte (signed_decimal_injective a o.0 (omega arith) (omega arith) (sym is ∙ t)) ∙ sym o.1
text_once word (values.Byte a) other valid right same is so =
    let o = of_byte other (sym same) in
    let v : o.0 < 2 ^ 8 = subst IsValue o.1 right in
    let low : a < 2 ^ 8 = valid in
    let t : IsTextOf word (values.Byte o.0) = subst (IsTextOf word) o.1 so in
    ap values.Byte (decimal_injective a o.0 (omega arith) (omega arith) (sym is ∙ t)) ∙ sym o.1
text_once word (values.Int16 a) other valid right same is so =
    let o = of_int16 other (sym same) in
    let v : FitsSigned w16 o.0 = subst IsValue o.1 right in
    let low : mag a < 2 ^ 15 = valid.sfits in
    let small : mag o.0 < 2 ^ 15 = v.sfits in
    let t : IsTextOf word (values.Int16 o.0) = subst (IsTextOf word) o.1 so in
    ap values.Int16 (signed_decimal_injective a o.0 (omega arith) (omega arith) (sym is ∙ t)) ∙ sym o.1
text_once word (values.UInt16 a) other valid right same is so =
    let o = of_uint16 other (sym same) in
    let v : o.0 < 2 ^ 16 = subst IsValue o.1 right in
    let low : a < 2 ^ 16 = valid in
    let t : IsTextOf word (values.UInt16 o.0) = subst (IsTextOf word) o.1 so in
    ap values.UInt16 (decimal_injective a o.0 (omega arith) (omega arith) (sym is ∙ t)) ∙ sym o.1
text_once word (values.Int32 a) other valid right same is so =
    let o = of_int32 other (sym same) in
    let v : FitsSigned w32 o.0 = subst IsValue o.1 right in
    let low : mag a < 2 ^ 31 = valid.sfits in
    let small : mag o.0 < 2 ^ 31 = v.sfits in
    let t : IsTextOf word (values.Int32 o.0) = subst (IsTextOf word) o.1 so in
    ap values.Int32 (signed_decimal_injective a o.0 (omega arith) (omega arith) (sym is ∙ t)) ∙ sym o.1
text_once word (values.UInt32 a) other valid right same is so =
    let o = of_uint32 other (sym same) in
    let v : o.0 < 2 ^ 32 = subst IsValue o.1 right in
    let low : a < 2 ^ 32 = valid in
    let t : IsTextOf word (values.UInt32 o.0) = subst (IsTextOf word) o.1 so in
    ap values.UInt32 (decimal_injective a o.0 (omega arith) (omega arith) (sym is ∙ t)) ∙ sym o.1
text_once word (values.Int64 a) other valid right same is so =
    let o = of_int64 other (sym same) in
    let v : FitsSigned w64 o.0 = subst IsValue o.1 right in
    let t : IsTextOf word (values.Int64 o.0) = subst (IsTextOf word) o.1 so in
    ap values.Int64 (signed_decimal_injective a o.0 valid.sfits v.sfits (sym is ∙ t)) ∙ sym o.1
text_once word (values.UInt64 a) other valid right same is so =
    let o = of_uint64 other (sym same) in
    let v : o.0 < 2 ^ 64 = subst IsValue o.1 right in
    let t : IsTextOf word (values.UInt64 o.0) = subst (IsTextOf word) o.1 so in
    ap values.UInt64 (decimal_injective a o.0 valid v (sym is ∙ t)) ∙ sym o.1
text_once word (values.Float a) other valid right same is so =
    let o = of_float other (sym same) in
    let v : o.0 < 2 ^ 32 = subst IsValue o.1 right in
    let t : IsTextOf word (values.Float o.0) = subst (IsTextOf word) o.1 so in
    ap values.Float (hex_32_once a o.0 valid v (sym is ∙ t)) ∙ sym o.1
text_once word (values.Double a) other valid right same is so =
    let o = of_double other (sym same) in
    let v : o.0 < 2 ^ 64 = subst IsValue o.1 right in
    let t : IsTextOf word (values.Double o.0) = subst (IsTextOf word) o.1 so in
    ap values.Double (hex_64_once a o.0 valid v (sym is ∙ t)) ∙ sym o.1
text_once word (values.String a) other valid right same is so =
    let o = of_string other (sym same) in
    let t : IsTextOf word (values.String o.0) = subst (IsTextOf word) o.1 so in
    ap values.String (spells_once word a o.0 is t) ∙ sym o.1
text_once word (values.DateTime a) other valid right same is so =
    let o = of_date_time other (sym same) in
    let v : FitsSigned w64 o.0 = subst IsValue o.1 right in
    let t : IsTextOf word (values.DateTime o.0) = subst (IsTextOf word) o.1 so in
    ap values.DateTime (signed_decimal_injective a o.0 valid.sfits v.sfits (sym is ∙ t)) ∙ sym o.1
text_once word (values.Guid a) other valid right same is so =
    let o = of_guid other (sym same) in
    let v : IsValue (values.Guid o.0) = subst IsValue o.1 right in
    let t : IsTextOf word (values.Guid o.0) = subst (IsTextOf word) o.1 so in
    ap values.Guid (guid_once a o.0 valid.0 v.0 valid.1 v.1 (sym is ∙ t)) ∙ sym o.1
text_once word (values.ByteString a) other valid right same is so =
    let o = of_byte_string other (sym same) in
    let v : IsValue (values.ByteString o.0) = subst IsValue o.1 right in
    let t : IsTextOf word (values.ByteString o.0) = subst (IsTextOf word) o.1 so in
    ap values.ByteString (hex_once a o.0 valid.in_range v.in_range (sym is ∙ t)) ∙ sym o.1
text_once word (values.StatusCode a) other valid right same is so =
    let o = of_status_code other (sym same) in
    let v : o.0 < 2 ^ 32 = subst IsValue o.1 right in
    let t : IsTextOf word (values.StatusCode o.0) = subst (IsTextOf word) o.1 so in
    ap values.StatusCode (hex_32_once a o.0 valid v (sym is ∙ t)) ∙ sym o.1

-- the word that is a text of another value than a String's is the printed one
pub text_is_printed : (word : List ℕ) (value : Value) (kind : Kind) → kind_of value ≡ kind → kind ≢ kinds.String → IsTextOf word value → word ≡ value_text_of value
text_is_printed word (values.String text) kind same other is = absurd (other (sym same))
text_is_printed word _ kind same other is = is
