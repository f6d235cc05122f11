-- Values and the words in which they stand.
use Rattle.std.proofs.Common.{◌≡◌, ◌≢◌, ℕ, suc, ◌+◌, ◌-◌, ◌*◌, ◌^◌, ◌<◌, ◌≤◌, true, false, List, [], ◌∷◌, ◌++◌, length, take, refl, sym, ap, ◌∙◌, subst, arith, lit<, set, nat_lt, Ok}
use Rattle.std.specs.Prelude.{replicate, slice_index, ℤ, FitsSigned}
use Rattle.std.specs.Int.{w8, w16, w32, w64, cast_unsigned}
use Rattle.std.specs.List.{All}
use Rattle.std.proofs.lemmas.Int.{to_z-of_z, ints}
use Rattle.std.proofs.lemmas.Bool.Decides.{nat_tests}
use Rattle.std.proofs.lemmas.Str.{is_utf8-from_IsUtf8}
use Rattle.std.proofs.lemmas.List.{take_at, append-nil}
use Rattle.ua_values.specs.declared.kind.Kind.{Kind}
use Rattle.ua_values.specs.declared.kind.Kind.TheVariants as kinds
use Rattle.ua_values.specs.declared.value.Value.{Value}
use Rattle.ua_values.specs.declared.value.Value.TheVariants as values
use Rattle.ua_values.specs.Values.{kind_of, size_of, opening, IsValue}
use Rattle.ua_values.specs.Texts.{IsText, text_of}
use Rattle.ua_values.specs.Blobs.{blob_of}
use Rattle.dataset_meta.specs.Fields.{width, words_for}
use Rattle.row_words.specs.Words.{is_scalar, scalar_word, packed, unpacked, spelled_value, bytes_in, value_in, IsWordOf, HasBytes}
use Rattle.row_words.proofs.DigitLaws.{length-grouped, digits_in-grouped, grouped-nil}

pub length-packed : (count : ℕ) (bytes : List ℕ) → length (packed count bytes) ≡ count
unfolding packed
length-packed count bytes = length-grouped 256 8 count bytes

pub unpacked-packed : (count : ℕ) (bytes : List ℕ) → All (λ byte. byte < 256) bytes → length bytes ≤ 8 * count
    → unpacked (packed count bytes) ≡ bytes ++ replicate (8 * count - length bytes) 0
unfolding packed unpacked
unpacked-packed count bytes all few = digits_in-grouped 256 8 count bytes all few

-- the bytes that were packed come back
pub bytes_back : (count : ℕ) (bytes : List ℕ) → All (λ byte. byte < 256) bytes → length bytes ≤ 8 * count → take (length bytes) (unpacked (packed count bytes)) ≡ bytes
bytes_back count bytes all few =
    ap (take (length bytes)) (unpacked-packed count bytes all few) ∙ take_at bytes (replicate (8 * count - length bytes) 0) (length bytes) refl

-- a cap's words have room for as many bytes
room_for : (size cap : ℕ) → size ≤ cap → size ≤ 8 * words_for cap
room_for size cap within = omega arith

guid_back : (bytes : List ℕ) → length bytes ≡ 16 → All (λ byte. byte < 256) bytes → unpacked (packed 2 bytes) ≡ bytes
guid_back bytes long all =
    let none : 8 * 2 - length bytes ≡ 0 = omega (arith, long) in
    unpacked-packed 2 bytes all (omega (arith, long)) ∙ ap (λ (n : ℕ). bytes ++ replicate n 0) none ∙ append-nil bytes

pub length-spelled_value : (cap : ℕ) (value : Value) → length (spelled_value cap value) ≡ width (kind_of value) cap
length-spelled_value cap (values.String text) = omega (arith, length-packed (words_for cap) text)
length-spelled_value cap (values.ByteString bytes) = omega (arith, length-packed (words_for cap) bytes)
length-spelled_value cap (values.Guid bytes) = length-packed 2 bytes
length-spelled_value cap _ = refl

-- a value is read back out of its words
pub value_in-spelled_value : (cap : ℕ) (value : Value) → IsValue value → size_of value ≤ cap → value_in (kind_of value) (spelled_value cap value) ≡ value
value_in-spelled_value cap (values.Boolean true) is within = refl
value_in-spelled_value cap (values.Boolean false) is within = refl
value_in-spelled_value cap (values.SByte n) is within = ap values.SByte (to_z-of_z w8 n is)
value_in-spelled_value cap (values.Int16 n) is within = ap values.Int16 (to_z-of_z w16 n is)
value_in-spelled_value cap (values.Int32 n) is within = ap values.Int32 (to_z-of_z w32 n is)
value_in-spelled_value cap (values.Int64 n) is within = ap values.Int64 (to_z-of_z w64 n is)
value_in-spelled_value cap (values.DateTime n) is within = ap values.DateTime (to_z-of_z w64 n is)
value_in-spelled_value cap (values.String text) is within = ap values.String (bytes_back (words_for cap) text is.short.in_range (room_for (length text) cap within))
value_in-spelled_value cap (values.ByteString bytes) is within = ap values.ByteString (bytes_back (words_for cap) bytes is.in_range (room_for (length bytes) cap within))
value_in-spelled_value cap (values.Guid bytes) is within = ap values.Guid (guid_back bytes is.0 is.1)
value_in-spelled_value cap _ is within = refl

-- two's complement of a width
low8 : (n : ℤ) → FitsSigned w8 n → cast_unsigned w8 n < 2 ^ 8
low8 n fits = omega (arith, ints)

low16 : (n : ℤ) → FitsSigned w16 n → cast_unsigned w16 n < 2 ^ 16
low16 n fits = omega (arith, ints)

low32 : (n : ℤ) → FitsSigned w32 n → cast_unsigned w32 n < 2 ^ 32
low32 n fits = omega (arith, ints)

low64 : (n : ℤ) → FitsSigned w64 n → cast_unsigned w64 n < 2 ^ 64
low64 n fits = omega (arith, ints)

-- the word of a scalar is one that its kind makes use of
pub word_of_scalar : (cap : ℕ) (value : Value) → IsValue value → kind_of value ≢ kinds.String → kind_of value ≢ kinds.ByteString → kind_of value ≢ kinds.Guid
    → IsWordOf (kind_of value) (slice_index (spelled_value cap value) 0)
word_of_scalar cap (values.Boolean true) is s b g = lit< tt
word_of_scalar cap (values.Boolean false) is s b g = lit< tt
word_of_scalar cap (values.SByte n) is s b g = low8 n is
word_of_scalar cap (values.Int16 n) is s b g = low16 n is
word_of_scalar cap (values.Int32 n) is s b g = low32 n is
word_of_scalar cap (values.Int64 n) is s b g = low64 n is
word_of_scalar cap (values.DateTime n) is s b g = low64 n is
word_of_scalar cap (values.String text) is s b g = absurd (s refl)
word_of_scalar cap (values.ByteString bytes) is s b g = absurd (b refl)
word_of_scalar cap (values.Guid bytes) is s b g = absurd (g refl)
word_of_scalar cap (values.Byte n) is s b g = is
word_of_scalar cap (values.UInt16 n) is s b g = is
word_of_scalar cap (values.UInt32 n) is s b g = is
word_of_scalar cap (values.UInt64 n) is s b g = is
word_of_scalar cap (values.Float n) is s b g = is
word_of_scalar cap (values.Double n) is s b g = is
word_of_scalar cap (values.StatusCode n) is s b g = is

-- a length that fits the cap, and as many words as the cap has
has_bytes : (size cap : ℕ) (bytes : List ℕ) → size ≤ cap → cap ≤ 256 → HasBytes (size ∷ packed (words_for cap) bytes)
has_bytes size cap bytes within small = record {
  some = omega arith;
  few = omega (arith, length-packed (words_for cap) bytes);
  within = omega (arith, length-packed (words_for cap) bytes, room_for size cap within);
}

pub text_spelled : (cap : ℕ) (value : Value) → cap ≤ 256 → IsValue value → size_of value ≤ cap → kind_of value ≡ kinds.String
    → HasBytes (spelled_value cap value) × IsText (bytes_in (spelled_value cap value))
text_spelled cap (values.String text) small is within kind = (
  has_bytes (length text) cap text within small,
  subst IsText (sym (bytes_back (words_for cap) text is.short.in_range (room_for (length text) cap within))) is,
)
text_spelled cap _ small is within kind = absurd (cc)

pub blob_spelled : (cap : ℕ) (value : Value) → cap ≤ 256 → size_of value ≤ cap → kind_of value ≡ kinds.ByteString → HasBytes (spelled_value cap value)
blob_spelled cap (values.ByteString bytes) small within kind = has_bytes (length bytes) cap bytes within small
blob_spelled cap _ small within kind = absurd (cc)

pub guid_spelled : (cap : ℕ) (value : Value) → kind_of value ≡ kinds.Guid → length (spelled_value cap value) ≡ 2
guid_spelled cap value kind = length-spelled_value cap value ∙ ap (λ (k : Kind). width k cap) kind

packed-nil : (count : ℕ) → packed count [] ≡ replicate count 0
unfolding packed
packed-nil count = grouped-nil 256 8 count

one_more : (n : ℕ) → suc n ≡ 1 + n
one_more n = omega arith

-- what stands before the first write is zero
pub spelled_value-opening : (cap : ℕ) (kind : Kind) → spelled_value cap (opening kind) ≡ replicate (width kind cap) 0
unfolding packed
spelled_value-opening cap kinds.String = ap (λ (words : List ℕ). 0 ∷ words) (packed-nil (words_for cap)) ∙ ap (λ (n : ℕ). replicate n 0) (one_more (words_for cap))
spelled_value-opening cap kinds.ByteString = ap (λ (words : List ℕ). 0 ∷ words) (packed-nil (words_for cap)) ∙ ap (λ (n : ℕ). replicate n 0) (one_more (words_for cap))
spelled_value-opening cap _ = refl

pub scalar_value : (value : Value) → ((x : List ℕ) → value ≢ values.String x) → ((x : List ℕ) → value ≢ values.ByteString x) → ((x : List ℕ) → value ≢ values.Guid x)
    → is_scalar (kind_of value) ≡ true
scalar_value (values.String x) s b g = absurd (s x refl)
scalar_value (values.ByteString x) s b g = absurd (b x refl)
scalar_value (values.Guid x) s b g = absurd (g x refl)
scalar_value _ s b g = refl

-- a scalar's word is all that it takes
one_word : (words : List ℕ) (word : ℕ) → length words ≡ 1 → set words 0 word ≡ word ∷ []
one_word [] word one = absurd (omega arith)
one_word (old ∷ []) word one = refl
one_word (old ∷ other ∷ words) word one = absurd (omega arith)

pub scalar_written : (cap : ℕ) (value : Value) (words : List ℕ) (word : ℕ) → is_scalar (kind_of value) ≡ true → length words ≡ width (kind_of value) cap → word ≡ scalar_word value
    → set words 0 word ≡ spelled_value cap value
scalar_written cap (values.String text) words word scalar one is = absurd (cc)
scalar_written cap (values.ByteString bytes) words word scalar one is = absurd (cc)
scalar_written cap (values.Guid bytes) words word scalar one is = absurd (cc)
scalar_written cap _ words word scalar one is = one_word words word one ∙ ap (λ (w : ℕ). w ∷ []) is

pub text_of-text : (bytes : List ℕ) → IsText bytes → text_of bytes ≡ Ok bytes
text_of-text bytes is =
    let short : nat_lt 256 (length bytes) ≡ false = grind (arith, nat_tests, is.short.at_most_256) in
    rw (short, is_utf8-from_IsUtf8 bytes is.utf8) refl

pub blob_of-blob : (bytes : List ℕ) → length bytes ≤ 256 → blob_of bytes ≡ Ok bytes
blob_of-blob bytes few =
    let short : nat_lt 256 (length bytes) ≡ false = grind (arith, nat_tests) in
    rw short refl
