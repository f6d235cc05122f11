-- There is a reader of values, and only one.
use Rattle.std.proofs.Common.{◌≡◌, ℕ, suc, ◌+◌, ◌*◌, ◌/◌, ◌%◌, ◌^◌, ◌<◌, ◌≤◌, ◌==◌, Bool, true, false, true≢false, cond, nat_lt, nat_le, List, [], ◌∷◌, ◌++◌, length, take, drop, get_or, ℤ, pos, negsuc, neg_ℤ, Option, Some, None, IfSome, Decides, unwrap_or, refl, sym, ap, ◌∙◌, subst, inl, inr, arith, eqb-true, eq-eqb, ltb-true, lt-ltb, leb-true, le-leb, IsTrue, ◌&&◌}
use Rattle.std.specs.Prelude.{codes}
use Rattle.std.specs.Char.{digit_value}
use Rattle.std.specs.Fmt.{decimal, signed_decimal, digit_glyph}
use Rattle.std.specs.Int.{w32, w64, to_be_bytes, from_be_bytes}
use Rattle.std.specs.List.{All}
use Rattle.std.specs.Str.{IsUtf8, is_utf8, bytes_eq}
use Rattle.std.specs.Str.Parse.{AllDigits, digits_value}
use Rattle.std.proofs.lemmas.Bool.Decides.{nat_tests, Decides-like, Decides-and, Decides-by_and}
use Rattle.std.proofs.lemmas.Fmt.{decimal_is_IsNumeral}
use Rattle.std.proofs.lemmas.Nat.{from_be_bytes-to_be_bytes_4, from_be_bytes-to_be_bytes_8}
use Rattle.std.proofs.lemmas.Slice.Eq.{bytes_eq-Decides}
use Rattle.std.proofs.lemmas.Str.{IsUtf8-from_is_utf8, is_utf8-from_IsUtf8}
use Rattle.std.proofs.Common.{take-append-drop}
use Rattle.hex.proofs.HexLemmas.{decode_of-encode_lower}
use Rattle.uuid.specs.Parts.{swap_fields}
use Rattle.uuid.specs.Text.{parsed}
use Rattle.uuid.proofs.RoundTrips.{swap_twice}
use Rattle.ua_values.specs.declared.kind.Kind.{Kind}
use Rattle.ua_values.specs.declared.kind.Kind.TheVariants as kinds
use Rattle.ua_values.specs.declared.value.Value.{Value}
use Rattle.ua_values.specs.declared.value.Value.TheVariants as values
use Rattle.ua_values.specs.InPlace.{IsShort}
use Rattle.ua_values.specs.Values.{kind_of, size_of, IsValue}
use lib.Signed.{mag}
use Rattle.value_texts.specs.Texts.{is_plain, escape, truth_text, hex_text, guid_text, value_text_of}
use Rattle.value_texts.specs.Spelling.{BeginsWith, Spells, IsTextOf}
use Rattle.value_texts.proofs.TextLaws.{bytes_from_All, small_32, small_64, guid_parses}
use Rattle.ps_script.specs.Values.{IsValueIn, ValueReader}
use Rattle.ps_script.specs.Spelled.{signed_number, decoded_or_none, bytes_behind, escaped_byte, is_escaped, text_after, candidate, are_bytes, is_short, is_below, is_value, spells, is_text_of, may_be_said, value_spelled}

-- the candidate of a text of a value is the value

truth_read : (b : Bool) → bytes_eq (truth_text b) (codes "true") ≡ b
truth_read true = refl
truth_read false = refl

unsigned_read : (n : ℕ) → n < 2 ^ 64 → digits_value 10 (decimal n) ≡ n
unsigned_read n low = (decimal_is_IsNumeral n low).1

no_minus : (ds : List ℕ) → AllDigits 10 ds → get_or ds 0 0 ≡ 45 → ⊥
no_minus [] all is = omega arith
no_minus (d ∷ ds) all is = let e : digit_value d < 10 = all.0 in let f : digit_value d ≡ 36 = ap digit_value is in omega arith

unsigned_first : (word : List ℕ) → (get_or word 0 0 ≡ 45 → ⊥) → signed_number word ≡ pos (digits_value 10 word)
unsigned_first word other = go (get_or word 0 0 == 45) refl
  where
    go : (t : Bool) → (get_or word 0 0 == 45) ≡ t
        → cond t (neg_ℤ (pos (digits_value 10 (drop 1 word)))) (pos (digits_value 10 word)) ≡ pos (digits_value 10 word)
    go true is = absurd (other (eqb-true _ _ is))
    go false is = refl

signed_read : (z : ℤ) → mag z < 2 ^ 63 → signed_number (signed_decimal z) ≡ z
signed_read (pos n) low =
    let k = decimal_is_IsNumeral n (omega arith) in
    unsigned_first (decimal n) (no_minus (decimal n) k.0.1) ∙ ap pos k.1
signed_read (negsuc n) low = ap (λ m. neg_ℤ (pos m)) (decimal_is_IsNumeral (suc n) (omega arith)).1

behind : (bytes : List ℕ) → All (λ byte. byte < 256) bytes → bytes_behind (hex_text bytes) ≡ bytes
behind bytes all = ap decoded_or_none (decode_of-encode_lower bytes (bytes_from_All bytes all))

bits_32 : (word : List ℕ) (bits : ℕ) → bits < 2 ^ 32 → word ≡ hex_text (to_be_bytes w32 bits) → from_be_bytes w32 (bytes_behind word) ≡ bits
bits_32 word bits low is =
    ap (λ (l : List ℕ). from_be_bytes w32 (bytes_behind l)) is
    ∙ ap (from_be_bytes w32) (behind (to_be_bytes w32 bits) (small_32 bits))
    ∙ from_be_bytes-to_be_bytes_4 bits low

bits_64 : (word : List ℕ) (bits : ℕ) → bits < 2 ^ 64 → word ≡ hex_text (to_be_bytes w64 bits) → from_be_bytes w64 (bytes_behind word) ≡ bits
bits_64 word bits low is =
    ap (λ (l : List ℕ). from_be_bytes w64 (bytes_behind l)) is
    ∙ ap (from_be_bytes w64) (behind (to_be_bytes w64 bits) (small_64 bits))
    ∙ from_be_bytes-to_be_bytes_8 bits low

guid_read : (word bytes : List ℕ) → length bytes ≡ 16 → All (λ byte. byte < 256) bytes → word ≡ guid_text bytes
    → swap_fields (unwrap_or (parsed word) []) ≡ bytes
guid_read word bytes long all is =
    ap (λ (l : List ℕ). swap_fields (unwrap_or (parsed l) [])) is
    ∙ ap (λ (o : Option (List ℕ)). swap_fields (unwrap_or o [])) (sym (guid_parses bytes all))
    ∙ swap_twice bytes long

glyph_read : (d : ℕ) → d < 16 → digit_value (digit_glyph true d) ≡ d
glyph_read d low = grind (arith, nat_tests)

escape_read : (byte : ℕ) (rest : List ℕ) → byte < 256 → text_after 0 (escape byte ++ rest) ≡ byte ∷ text_after 0 rest
escape_read byte rest low =
    let high : digit_value (digit_glyph true (byte / 16)) ≡ byte / 16 = glyph_read (byte / 16) (omega arith) in
    let less : digit_value (digit_glyph true (byte % 16)) ≡ byte % 16 = glyph_read (byte % 16) (omega arith) in
    let e : digit_value (digit_glyph true (byte / 16)) * 16 + digit_value (digit_glyph true (byte % 16)) ≡ byte = rw (high, less) (omega arith) in
    ap (λ (n : ℕ). n ∷ text_after 0 rest) e

no_escape : (byte : ℕ) → is_plain byte ≡ true → is_escaped byte ≡ true → ⊥
no_escape byte plain is = true≢false (sym (subst (λ (n : ℕ). is_plain n ≡ true) (eqb-true byte 37 is) plain))

plain_read : (byte : ℕ) (rest : List ℕ) → is_plain byte ≡ true → text_after 0 (byte ∷ rest) ≡ byte ∷ text_after 0 rest
plain_read byte rest plain = go (is_escaped byte) refl
  where
    go : (t : Bool) → is_escaped byte ≡ t → cond t (escaped_byte rest) byte ∷ text_after (cond t 2 0) rest ≡ byte ∷ text_after 0 rest
    go true is = absurd (no_escape byte plain is)
    go false is = refl

begin_read : (word : List ℕ) (byte : ℕ) (rest : List ℕ) → BeginsWith word byte rest → text_after 0 word ≡ byte ∷ text_after 0 rest
begin_read word byte rest (inl h) = ap (text_after 0) h.1 ∙ plain_read byte rest h.0
begin_read word byte rest (inr h) = ap (text_after 0) h.1 ∙ escape_read byte rest h.0

text_read : (word text : List ℕ) → Spells word text → text_after 0 word ≡ text
text_read word [] h = ap (text_after 0) h
text_read word (byte ∷ text) h = begin_read word byte h.0 h.1.0 ∙ ap (λ (l : List ℕ). byte ∷ l) (text_read h.0 text h.1.1)

candidate_is : (word : List ℕ) (value : Value) → IsValue value → IsTextOf word value → candidate (kind_of value) word ≡ value
unfolding value_text_of
candidate_is word (values.Boolean b) valid is = ap values.Boolean (ap (λ (l : List ℕ). bytes_eq l (codes "true")) is ∙ truth_read b)
candidate_is word (values.SByte n) valid is =
    let low : mag n < 2 ^ 7 = valid.sfits in ap values.SByte (ap signed_number is ∙ signed_read n (omega arith))
candidate_is word (values.Byte n) valid is =
    let low : n < 2 ^ 8 = valid in ap values.Byte (ap (digits_value 10) is ∙ unsigned_read n (omega arith))
candidate_is word (values.Int16 n) valid is =
    let low : mag n < 2 ^ 15 = valid.sfits in ap values.Int16 (ap signed_number is ∙ signed_read n (omega arith))
candidate_is word (values.UInt16 n) valid is =
    let low : n < 2 ^ 16 = valid in ap values.UInt16 (ap (digits_value 10) is ∙ unsigned_read n (omega arith))
candidate_is word (values.Int32 n) valid is =
    let low : mag n < 2 ^ 31 = valid.sfits in ap values.Int32 (ap signed_number is ∙ signed_read n (omega arith))
candidate_is word (values.UInt32 n) valid is =
    let low : n < 2 ^ 32 = valid in ap values.UInt32 (ap (digits_value 10) is ∙ unsigned_read n (omega arith))
candidate_is word (values.Int64 n) valid is = ap values.Int64 (ap signed_number is ∙ signed_read n valid.sfits)
candidate_is word (values.UInt64 n) valid is = ap values.UInt64 (ap (digits_value 10) is ∙ unsigned_read n valid)
candidate_is word (values.Float bits) valid is = ap values.Float (bits_32 word bits valid is)
candidate_is word (values.Double bits) valid is = ap values.Double (bits_64 word bits valid is)
candidate_is word (values.String text) valid is = ap values.String (text_read word text is)
candidate_is word (values.DateTime steps) valid is = ap values.DateTime (ap signed_number is ∙ signed_read steps valid.sfits)
candidate_is word (values.Guid bytes) valid is = ap values.Guid (guid_read word bytes valid.0 valid.1 is)
candidate_is word (values.ByteString bytes) valid is = ap values.ByteString (ap bytes_behind is ∙ behind bytes valid.in_range)
candidate_is word (values.StatusCode code) valid is = ap values.StatusCode (bits_32 word code valid is)

kind_of_candidate : (kind : Kind) (word : List ℕ) → kind_of (candidate kind word) ≡ kind
kind_of_candidate kinds.Boolean word = refl
kind_of_candidate _ word = refl

-- each test tells its fact

same : (t : Bool) → Decides t (IsTrue t)
same t = (λ h. h, λ h. h)

below : (a b : ℕ) → Decides (nat_lt a b) (a < b)
below a b = (ltb-true a b, lt-ltb a b)

at_most : (a b : ℕ) → Decides (nat_le a b) (a ≤ b)
at_most a b = (leb-true a b, le-leb a b)

equal : (a b : ℕ) → Decides (a == b) (a ≡ b)
equal a b = (eqb-true a b, eq-eqb a b)

all_bytes : (bytes : List ℕ) → Decides (are_bytes bytes) (All (λ byte. byte < 256) bytes)
all_bytes bytes = Decides-by_and (λ byte. nat_lt byte 256) (λ byte. byte < 256) are_bytes (λ byte. below byte 256) refl (λ x xs. refl) bytes

short : (bytes : List ℕ) → Decides (is_short bytes) (IsShort bytes)
short bytes =
    Decides-like (is_short bytes) (λ h. record { at_most_256 = h.0; in_range = h.1 }) (λ h. (h.at_most_256, h.in_range))
    (Decides-and _ _ (at_most (length bytes) 256) (all_bytes bytes))

is_utf : (bytes : List ℕ) → Decides (is_utf8 bytes) (IsUtf8 bytes)
is_utf bytes = (IsUtf8-from_is_utf8 bytes, is_utf8-from_IsUtf8 bytes)

in_range : (limit : ℕ) (n : ℤ) → Decides (is_below limit n) (mag n < limit)
in_range limit (pos n) = below n limit
in_range limit (negsuc n) = below n limit

valid_value : (value : Value) → Decides (is_value value) (IsValue value)
valid_value (values.Boolean b) = (λ h. tt, λ h. refl)
valid_value (values.SByte n) = Decides-like _ (λ h. record { sfits = h }) (λ h. h.sfits) (in_range (2 ^ 7) n)
valid_value (values.Byte n) = below n (2 ^ 8)
valid_value (values.Int16 n) = Decides-like _ (λ h. record { sfits = h }) (λ h. h.sfits) (in_range (2 ^ 15) n)
valid_value (values.UInt16 n) = below n (2 ^ 16)
valid_value (values.Int32 n) = Decides-like _ (λ h. record { sfits = h }) (λ h. h.sfits) (in_range (2 ^ 31) n)
valid_value (values.UInt32 n) = below n (2 ^ 32)
valid_value (values.Int64 n) = Decides-like _ (λ h. record { sfits = h }) (λ h. h.sfits) (in_range (2 ^ 63) n)
valid_value (values.UInt64 n) = below n (2 ^ 64)
valid_value (values.Float bits) = below bits (2 ^ 32)
valid_value (values.Double bits) = below bits (2 ^ 64)
valid_value (values.String text) =
    Decides-like _ (λ h. record { short = h.0; utf8 = h.1 }) (λ h. (h.short, h.utf8)) (Decides-and _ _ (short text) (is_utf text))
valid_value (values.DateTime steps) = Decides-like _ (λ h. record { sfits = h }) (λ h. h.sfits) (in_range (2 ^ 63) steps)
valid_value (values.Guid bytes) = Decides-and _ _ (equal (length bytes) 16) (all_bytes bytes)
valid_value (values.ByteString bytes) = short bytes
valid_value (values.StatusCode code) = below code (2 ^ 32)

split : (n : ℕ) (word front : List ℕ) → take n word ≡ front → word ≡ front ++ drop n word
split n word front is = sym (take-append-drop n word) ∙ ap (λ (l : List ℕ). l ++ drop n word) is

-- the word spells the byte and the text, where it is told for the text
spells_more : (byte : ℕ) (text word : List ℕ) → ((rest : List ℕ) → Decides (spells rest text) (Spells rest text))
    → Decides (spells word (byte ∷ text)) (Spells word (byte ∷ text))
spells_more byte text word told = go (is_escaped (get_or word 0 0)) refl
  where
    escaped : is_escaped (get_or word 0 0) ≡ true → (rest : List ℕ) → BeginsWith word byte rest → Spells rest text
        → ((byte < 256) × (take 3 word ≡ escape byte)) × Spells (drop 3 word) text
    escaped is rest (inl h) spelled = absurd (no_escape byte h.0 (subst (λ (w : List ℕ). is_escaped (get_or w 0 0) ≡ true) h.1 is))
    escaped is rest (inr h) spelled = ((h.0, ap (take 3) h.1), subst (λ (l : List ℕ). Spells l text) (sym (ap (drop 3) h.1)) spelled)

    plain : is_escaped (get_or word 0 0) ≡ false → (rest : List ℕ) → BeginsWith word byte rest → Spells rest text
        → (IsTrue (is_plain byte) × (take 1 word ≡ byte ∷ [])) × Spells (drop 1 word) text
    plain is rest (inl h) spelled = ((h.0, ap (take 1) h.1), subst (λ (l : List ℕ). Spells l text) (sym (ap (drop 1) h.1)) spelled)
    plain is rest (inr h) spelled = absurd (true≢false (subst (λ (w : List ℕ). is_escaped (get_or w 0 0) ≡ false) h.1 is))

    go : (t : Bool) → is_escaped (get_or word 0 0) ≡ t
        → Decides (cond t (nat_lt byte 256 && bytes_eq (take 3 word) (escape byte)) (is_plain byte && bytes_eq (take 1 word) (byte ∷ [])) && spells (drop (cond t 3 1) word) text) (Spells word (byte ∷ text))
    go true is =
        Decides-like _ (λ h. (drop 3 word, (inr (h.0.0, split 3 word (escape byte) h.0.1), h.1))) (λ h. escaped is h.0 h.1.0 h.1.1)
        (Decides-and _ _ (Decides-and _ _ (below byte 256) (bytes_eq-Decides (take 3 word) (escape byte))) (told (drop 3 word)))
    go false is =
        Decides-like _ (λ h. (drop 1 word, (inl (h.0.0, split 1 word (byte ∷ []) h.0.1), h.1))) (λ h. plain is h.0 h.1.0 h.1.1)
        (Decides-and _ _ (Decides-and _ _ (same (is_plain byte)) (bytes_eq-Decides (take 1 word) (byte ∷ []))) (told (drop 1 word)))

spells_text : (word text : List ℕ) → Decides (spells word text) (Spells word text)
spells_text word [] = bytes_eq-Decides word []
spells_text word (byte ∷ text) = spells_more byte text word (λ rest. spells_text rest text)

text_of_value : (word : List ℕ) (value : Value) → Decides (is_text_of word value) (IsTextOf word value)
text_of_value word (values.String text) = spells_text word text
text_of_value word _ = bytes_eq-Decides word _

said : (cap : ℕ) (word : List ℕ) (value : Value)
    → Decides (may_be_said cap word value) ((size_of value ≤ cap) × (IsValue value × IsTextOf word value))
said cap word value =
    Decides-and _ _ (at_most (size_of value) cap) (Decides-and _ _ (valid_value value) (text_of_value word value))

-- what is spelled is said

kept : (P : Value → Type 0) (t : Bool) (value : Value) → (t ≡ true → P value) → IfSome (cond t (Some value) None) P
kept P true value h = h refl
kept P false value h = tt

pub spelled_is_said : (kind : Kind) (cap : ℕ) (word : List ℕ) → IfSome (value_spelled kind cap word) (IsValueIn kind cap word)
spelled_is_said kind cap word =
    kept (IsValueIn kind cap word) (may_be_said cap word (candidate kind word)) (candidate kind word)
    (λ passes. let facts = (said cap word (candidate kind word)).0 passes in
    record { text = facts.1.1; fits = record { same_kind = kind_of_candidate kind word; within = facts.0 }; valid = facts.1.0 })

-- and what is said is spelled

chosen : (t : Bool) (one value : Value) → one ≡ value → t ≡ true → cond t (Some one) None ≡ Some value
chosen true one value is passes = ap Some is
chosen false one value is passes = absurd (true≢false (sym passes))

pub said_is_spelled : (kind : Kind) (cap : ℕ) (word : List ℕ) (value : Value) → IsValueIn kind cap word value → value_spelled kind cap word ≡ Some value
said_is_spelled kind cap word value of =
    let is : candidate kind word ≡ value =
    subst (λ (k : Kind). candidate k word ≡ value) of.fits.same_kind (candidate_is word value of.valid of.text) in
    let passes : may_be_said cap word value ≡ true = (said cap word value).1 (of.fits.within, (of.valid, of.text)) in
    chosen (may_be_said cap word (candidate kind word)) (candidate kind word) value is
    (ap (may_be_said cap word) is ∙ passes)

pub the_reader : ValueReader
the_reader = record { read = value_spelled; found = spelled_is_said; every = said_is_spelled }

alike : (reader : ValueReader) (kind : Kind) (cap : ℕ) (word : List ℕ) (one other : Option Value) → reader.read kind cap word ≡ one → value_spelled kind cap word ≡ other → one ≡ other
alike reader kind cap word (Some value) other is so =
    let of : IsValueIn kind cap word value = subst (λ (o : Option Value). IfSome o (IsValueIn kind cap word)) is (reader.found kind cap word) in
    sym (said_is_spelled kind cap word value of) ∙ so
alike reader kind cap word None (Some value) is so =
    let of : IsValueIn kind cap word value = subst (λ (o : Option Value). IfSome o (IsValueIn kind cap word)) so (spelled_is_said kind cap word) in
    sym is ∙ reader.every kind cap word value of
alike reader kind cap word None None is so = refl

-- each reader gives what is spelled
pub each_reader : (reader : ValueReader) (kind : Kind) (cap : ℕ) (word : List ℕ) → reader.read kind cap word ≡ value_spelled kind cap word
each_reader reader kind cap word = alike reader kind cap word (reader.read kind cap word) (value_spelled kind cap word) refl refl
