-- Scalars as Variants.
use Rattle.std.proofs.Common.{◌≡◌, ℕ, suc, ◌-◌, ◌^◌, ◌<◌, Bool, true, false, List, [], ◌∷◌, ◌++◌, ◌≤◌, length, take, drop, length-take-le, sym, Some, Result, Ok, Err, refl, ap, ◌∙◌, arith}
use Rattle.std.specs.Prelude.{IfSome, nat_lt, slice_index, if◌then◌else◌}
use Rattle.std.proofs.lemmas.Bool.{ltb-false}
use Rattle.std.proofs.lemmas.List.{take-append-drop}
use Rattle.std.specs.Int.{Width, w8, w16, w32, w64, byte_len, byte_worth, sum_through, cast_signed, from_le_bytes, to_le_bytes}
use Rattle.std.proofs.lemmas.Int.{of_z-to_z}
use Rattle.ua_values.specs.declared.kind.Kind.{Kind}
use Rattle.ua_values.specs.declared.kind.Kind.TheVariants as kinds
use Rattle.ua_values.specs.declared.value.Value.{Value}
use Rattle.ua_values.specs.declared.value.Value.TheVariants as values
use Rattle.ua_binary.specs.Spelling.{plain, variant}
use Rattle.ua_binary.specs.Types.{type_of}
use Rattle.ua_binary.specs.declared.cursor.Short.{Short as NoBytes}
use Rattle.ua_binary.specs.declared.fault.ValueFault.{ValueFault}
use Rattle.ua_binary.specs.declared.fault.ValueFault.TheVariants.{Short}
use Rattle.std.specs.Result.{result_ok}
use Rattle.ua_binary.specs.declared.cursor.Cursor.{Cursor}
use Rattle.ua_binary.specs.Reading.{◌>>=◌, byte_at, bytes_at, number_at, Reads, rest_of}
use Rattle.ua_binary.specs.ReadingValues.{as_value, plain_at, variant_at, parts_at, times_past, data_value_at}
use Rattle.ua_binary.proofs.Parts.{bytes_again}
use Rattle.ua_binary.proofs.Values.{kind_read}
use Rattle.row_words.specs.Words.{IsWordOf, scalar_in, scalar_bytes}
use Rattle.row_words.proofs.ScalarLaws.{kind_of-scalar_in, boolean_word}
use Rattle.frame_codec.specs.Calls.{has_four_bytes, has_eight_bytes, EndsDataValue}

-- a scalar's bytes are those of its word
pub plain-scalar_in : (kind : Kind) (word : ℕ) → IsWordOf kind word → plain (scalar_in kind word) ≡ scalar_bytes kind word
plain-scalar_in kinds.Boolean word is = ap (λ (w : ℕ). w ∷ []) (boolean_word word is)
plain-scalar_in kinds.SByte word is = ap (λ (w : ℕ). w ∷ []) (of_z-to_z w8 word is)
plain-scalar_in kinds.Byte word is = refl
plain-scalar_in kinds.Int16 word is = ap (to_le_bytes w16) (of_z-to_z w16 word is)
plain-scalar_in kinds.UInt16 word is = refl
plain-scalar_in kinds.Int32 word is = ap (to_le_bytes w32) (of_z-to_z w32 word is)
plain-scalar_in kinds.UInt32 word is = refl
plain-scalar_in kinds.Int64 word is = ap (to_le_bytes w64) (of_z-to_z w64 word is)
plain-scalar_in kinds.UInt64 word is = refl
plain-scalar_in kinds.Float word is = refl
plain-scalar_in kinds.Double word is = refl
plain-scalar_in kinds.DateTime word is = ap (to_le_bytes w64) (of_z-to_z w64 word is)
plain-scalar_in kinds.StatusCode word is = refl
plain-scalar_in kinds.String word is = absurd is
plain-scalar_in kinds.ByteString word is = absurd is
plain-scalar_in kinds.Guid word is = absurd is

pub variant-scalar_in : (kind : Kind) (word : ℕ) → IsWordOf kind word → variant (scalar_in kind word) ≡ type_of kind ∷ scalar_bytes kind word
variant-scalar_in kind word is =
    ap (λ (k : Kind). type_of k ∷ plain (scalar_in kind word)) (kind_of-scalar_in kind word) ∙ ap (λ (bytes : List ℕ). type_of kind ∷ bytes) (plain-scalar_in kind word is)

-- what holds of each scalar of four bytes
four_case : (P : Kind → Type 0) → P kinds.Int32 → P kinds.UInt32 → P kinds.Float → P kinds.StatusCode → (kind : Kind) → has_four_bytes kind ≡ true → P kind
four_case P signed unsigned float code kinds.Int32 four = signed
four_case P signed unsigned float code kinds.UInt32 four = unsigned
four_case P signed unsigned float code kinds.Float four = float
four_case P signed unsigned float code kinds.StatusCode four = code
four_case P signed unsigned float code kinds.Boolean four = absurd (cc)
four_case P signed unsigned float code kinds.SByte four = absurd (cc)
four_case P signed unsigned float code kinds.Byte four = absurd (cc)
four_case P signed unsigned float code kinds.Int16 four = absurd (cc)
four_case P signed unsigned float code kinds.UInt16 four = absurd (cc)
four_case P signed unsigned float code kinds.Int64 four = absurd (cc)
four_case P signed unsigned float code kinds.UInt64 four = absurd (cc)
four_case P signed unsigned float code kinds.Double four = absurd (cc)
four_case P signed unsigned float code kinds.DateTime four = absurd (cc)
four_case P signed unsigned float code kinds.String four = absurd (cc)
four_case P signed unsigned float code kinds.ByteString four = absurd (cc)
four_case P signed unsigned float code kinds.Guid four = absurd (cc)

pub four_small : (kind : Kind) (word : ℕ) → has_four_bytes kind ≡ true → IsWordOf kind word → word < 2 ^ 32
four_small kind word four = four_case (λ (k : Kind). IsWordOf k word → word < 2 ^ 32) (λ is. is) (λ is. is) (λ is. is) (λ is. is) kind four

pub four_word : (kind : Kind) (word : ℕ) → has_four_bytes kind ≡ true → word < 2 ^ 32 → IsWordOf kind word
four_word kind word four = four_case (λ (k : Kind). word < 2 ^ 32 → IsWordOf k word) (λ is. is) (λ is. is) (λ is. is) (λ is. is) kind four

four_bytes : (kind : Kind) (word : ℕ) → has_four_bytes kind ≡ true → scalar_bytes kind word ≡ to_le_bytes w32 word
four_bytes kind word four = four_case (λ (k : Kind). scalar_bytes k word ≡ to_le_bytes w32 word) refl refl refl refl kind four

pub four-scalar_in : (kind : Kind) (word : ℕ) → has_four_bytes kind ≡ true → IsWordOf kind word → variant (scalar_in kind word) ≡ type_of kind ∷ to_le_bytes w32 word
four-scalar_in kind word four is = variant-scalar_in kind word is ∙ ap (λ (bytes : List ℕ). type_of kind ∷ bytes) (four_bytes kind word four)

four_plain : (kind : Kind) (word : ℕ) (bytes rest : List ℕ) → has_four_bytes kind ≡ true → number_at Short w32 bytes ≡ Ok (word, rest) → plain_at kind bytes ≡ Ok (scalar_in kind word, rest)
four_plain kind word bytes rest four read =
    four_case (λ (k : Kind). plain_at k bytes ≡ Ok (scalar_in k word, rest))
    (ap (as_value (λ (n : ℕ). values.Int32 (cast_signed w32 n))) read)
    (ap (as_value values.UInt32) read)
    (ap (as_value values.Float) read)
    (ap (as_value values.StatusCode) read)
    kind four

-- what holds of each scalar of eight bytes
eight_case : (P : Kind → Type 0) → P kinds.Int64 → P kinds.UInt64 → P kinds.Double → P kinds.DateTime → (kind : Kind) → has_eight_bytes kind ≡ true → P kind
eight_case P signed unsigned double time kinds.Int64 eight = signed
eight_case P signed unsigned double time kinds.UInt64 eight = unsigned
eight_case P signed unsigned double time kinds.Double eight = double
eight_case P signed unsigned double time kinds.DateTime eight = time
eight_case P signed unsigned double time kinds.Boolean eight = absurd (cc)
eight_case P signed unsigned double time kinds.SByte eight = absurd (cc)
eight_case P signed unsigned double time kinds.Byte eight = absurd (cc)
eight_case P signed unsigned double time kinds.Int16 eight = absurd (cc)
eight_case P signed unsigned double time kinds.UInt16 eight = absurd (cc)
eight_case P signed unsigned double time kinds.Int32 eight = absurd (cc)
eight_case P signed unsigned double time kinds.UInt32 eight = absurd (cc)
eight_case P signed unsigned double time kinds.Float eight = absurd (cc)
eight_case P signed unsigned double time kinds.StatusCode eight = absurd (cc)
eight_case P signed unsigned double time kinds.String eight = absurd (cc)
eight_case P signed unsigned double time kinds.ByteString eight = absurd (cc)
eight_case P signed unsigned double time kinds.Guid eight = absurd (cc)

eight_bytes : (kind : Kind) (word : ℕ) → has_eight_bytes kind ≡ true → scalar_bytes kind word ≡ to_le_bytes w64 word
eight_bytes kind word eight = eight_case (λ (k : Kind). scalar_bytes k word ≡ to_le_bytes w64 word) refl refl refl refl kind eight

pub eight-scalar_in : (kind : Kind) (word : ℕ) → has_eight_bytes kind ≡ true → IsWordOf kind word → variant (scalar_in kind word) ≡ type_of kind ∷ to_le_bytes w64 word
eight-scalar_in kind word eight is = variant-scalar_in kind word is ∙ ap (λ (bytes : List ℕ). type_of kind ∷ bytes) (eight_bytes kind word eight)

pub eight_word : (kind : Kind) (word : ℕ) → has_eight_bytes kind ≡ true → word < 2 ^ 64 → IsWordOf kind word
eight_word kind word eight = eight_case (λ (k : Kind). word < 2 ^ 64 → IsWordOf k word) (λ is. is) (λ is. is) (λ is. is) (λ is. is) kind eight

eight_plain : (kind : Kind) (word : ℕ) (bytes rest : List ℕ) → has_eight_bytes kind ≡ true → number_at Short w64 bytes ≡ Ok (word, rest) → plain_at kind bytes ≡ Ok (scalar_in kind word, rest)
eight_plain kind word bytes rest eight read =
    eight_case (λ (k : Kind). plain_at k bytes ≡ Ok (scalar_in k word, rest))
    (ap (as_value (λ (n : ℕ). values.Int64 (cast_signed w64 n))) read)
    (ap (as_value values.UInt64) read)
    (ap (as_value values.Double) read)
    (ap (as_value (λ (n : ℕ). values.DateTime (cast_signed w64 n))) read)
    kind eight

-- a type byte and the bytes of a number that are read at once
bytes_are : (short : NoBytes) (n : ℕ) (bytes text rest : List ℕ) → bytes_at short n bytes ≡ Ok (text, rest) → (bytes ≡ text ++ rest) × (length text ≡ n)
bytes_are short n bytes text rest read = by_length (nat_lt (length bytes) n) refl read
  where
    front_in : Result (List ℕ × List ℕ) NoBytes → List ℕ
    front_in (Ok read) = read.0
    front_in (Err short) = []

    back_in : Result (List ℕ × List ℕ) NoBytes → List ℕ
    back_in (Ok read) = read.1
    back_in (Err short) = []

    by_length : (b : Bool) → nat_lt (length bytes) n ≡ b → if◌then◌else◌ {A = Result (List ℕ × List ℕ) NoBytes} b (Err short) (Ok (take n bytes, drop n bytes)) ≡ Ok (text, rest)
        → (bytes ≡ text ++ rest) × (length text ≡ n)
    by_length true is read = absurd (cc)
    by_length false is read =
        let front : take n bytes ≡ text = ap front_in read in
        let back : drop n bytes ≡ rest = ap back_in read in
        let enough : n ≤ length bytes = ltb-false (length bytes) n is in
        (sym (take-append-drop n bytes) ∙ ap (λ (t : List ℕ). t ++ drop n bytes) front ∙ ap (λ (r : List ℕ). text ++ r) back, ap length (sym front) ∙ length-take-le n bytes enough)

-- the number behind the type byte
abbrev behind : Width → List ℕ → ℕ
behind w text = sum_through (λ i. byte_worth i (slice_index text (suc i))) (byte_len w - 1)

typed_read : (kind : Kind) (value : Value) (after rest : List ℕ) → plain_at kind after ≡ Ok (value, rest) → variant_at (type_of kind ∷ after) ≡ Ok (value, rest)
unfolding variant_at
typed_read kind value after rest read = ap (λ (r : Result (Kind × List ℕ) ValueFault). r >>= λ k. plain_at k.0 k.1) (kind_read kind after) ∙ read

number_behind : (w : Width) (kind : Kind) (text rest : List ℕ) (word : ℕ) → length text ≡ suc (byte_len w) → slice_index text 0 ≡ type_of kind → word ≡ behind w text
    → ((after : List ℕ) → number_at Short w after ≡ Ok (word, rest) → plain_at kind after ≡ Ok (scalar_in kind word, rest)) → variant_at (text ++ rest) ≡ Ok (scalar_in kind word, rest)
number_behind w kind [] rest word long typed spelled plainly = absurd (omega (arith, long))
number_behind w kind (number ∷ text) rest word long typed spelled plainly =
    let read : number_at Short w (text ++ rest) ≡ Ok (word, rest) =
    ap (λ (r : Result (List ℕ × List ℕ) ValueFault). r >>= λ n. Ok (from_le_bytes w n.0, n.1)) (bytes_again ValueFault Short (byte_len w) text rest (omega (arith, long))) ∙ ap (λ (n : ℕ). Ok (n, rest)) (sym spelled) in
    ap (λ (n : ℕ). variant_at (n ∷ text ++ rest)) typed ∙ typed_read kind (scalar_in kind word) (text ++ rest) rest (plainly (text ++ rest) read)

number_read : (short : NoBytes) (w : Width) (kind : Kind) (bytes text rest : List ℕ) (word : ℕ) → bytes_at short (suc (byte_len w)) bytes ≡ Ok (text, rest) → slice_index text 0 ≡ type_of kind → word ≡ behind w text
    → ((after : List ℕ) → number_at Short w after ≡ Ok (word, rest) → plain_at kind after ≡ Ok (scalar_in kind word, rest)) → variant_at bytes ≡ Ok (scalar_in kind word, rest)
number_read short w kind bytes text rest word read typed spelled plainly =
    let are = bytes_are short (suc (byte_len w)) bytes text rest read in
    ap variant_at are.0 ∙ number_behind w kind text rest word are.1 typed spelled plainly

pub four_read : (short : NoBytes) (kind : Kind) (bytes five rest : List ℕ) (word : ℕ) → bytes_at short 5 bytes ≡ Ok (five, rest) → slice_index five 0 ≡ type_of kind → has_four_bytes kind ≡ true
    → word ≡ behind w32 five → variant_at bytes ≡ Ok (scalar_in kind word, rest)
four_read short kind bytes five rest word read typed four spelled = number_read short w32 kind bytes five rest word read typed spelled (λ after. four_plain kind word after rest four)

pub eight_read : (short : NoBytes) (kind : Kind) (bytes nine rest : List ℕ) (word : ℕ) → bytes_at short 9 bytes ≡ Ok (nine, rest) → slice_index nine 0 ≡ type_of kind → has_eight_bytes kind ≡ true
    → word ≡ behind w64 nine → variant_at bytes ≡ Ok (scalar_in kind word, rest)
eight_read short kind bytes nine rest word read typed eight spelled = number_read short w64 kind bytes nine rest word read typed spelled (λ after. eight_plain kind word after rest eight)

pub byte_then : (short : NoBytes) (kind : Kind) (number : ℕ) (value : Value) (bytes rest after : List ℕ) → byte_at short bytes ≡ Ok (number, rest) → number ≡ type_of kind → plain_at kind rest ≡ Ok (value, after) → variant_at bytes ≡ Ok (value, after)
byte_then short kind number value [] rest after first typed read = absurd (cc)
byte_then short kind number value (byte ∷ others) rest after first typed read =
    let same : byte ≡ number = ap byte_in first in
    let left : others ≡ rest = ap rest_in first in
    ap (λ (n : ℕ). variant_at (n ∷ others)) (same ∙ typed) ∙ ap (λ (l : List ℕ). variant_at (type_of kind ∷ l)) left ∙ typed_read kind value rest after read
  where
    byte_in : Result (ℕ × List ℕ) NoBytes → ℕ
    byte_in (Ok read) = read.0
    byte_in (Err short) = 0

    rest_in : Result (ℕ × List ℕ) NoBytes → List ℕ
    rest_in (Ok read) = read.1
    rest_in (Err short) = []

-- the first byte
byte_bytes : (short : NoBytes) (number : ℕ) (bytes rest : List ℕ) → byte_at short bytes ≡ Ok (number, rest) → bytes ≡ number ∷ rest
byte_bytes short number [] rest first = absurd (cc)
byte_bytes short number (byte ∷ others) rest first =
    let pair : Path (ℕ × List ℕ) (byte, others) (number, rest) = cc in
    ap (λ (p : ℕ × List ℕ). p.0 ∷ p.1) pair

-- a number that is read, whatever fault it might have had
pub number_other : {F G : Type 0} (short : F) (other : G) (w : Width) (bytes : List ℕ) (x : ℕ × List ℕ) → number_at short w bytes ≡ Ok x → number_at other w bytes ≡ Ok x
number_other {F} {G} short other w bytes x e = by_length (nat_lt (length bytes) (byte_len w)) e
  where
    step : {H : Type 0} → H → Bool → Result (ℕ × List ℕ) H
    step {H} fault b = let read : Result (List ℕ × List ℕ) H = if b then Err fault else Ok (take (byte_len w) bytes, drop (byte_len w) bytes) in read >>= λ n. Ok (from_le_bytes w n.0, n.1)

    by_length : (b : Bool) → step short b ≡ Ok x → step other b ≡ Ok x
    by_length true e = absurd (let no : Path (Result (ℕ × List ℕ) F) (Err short) (Ok x) = e in cc)
    by_length false e = let same : Path (ℕ × List ℕ) (from_le_bytes w (take (byte_len w) bytes), drop (byte_len w) bytes) x = cc in ap Ok same

pub value_alone : (value : Value) (bytes here : List ℕ) → variant_at bytes ≡ Ok (value, here) → data_value_at (1 ∷ bytes) ≡ Ok (record { value = Some value; status = 0 }, here)
unfolding data_value_at parts_at times_past
value_alone value bytes here read = rw read refl

pub value_with_status : (short : NoBytes) (status : ℕ) (value : Value) (bytes here there : List ℕ) → number_at short w32 here ≡ Ok (status, there) → variant_at bytes ≡ Ok (value, here)
    → data_value_at (3 ∷ bytes) ≡ Ok (record { value = Some value; status = status }, there)
unfolding data_value_at parts_at times_past
value_with_status short status value bytes here there code read = rw (read, number_other short Short w32 here (status, there) code) refl

pub masked : (short : NoBytes) (mask status : ℕ) (value : Value) (bytes rest here there : List ℕ) → byte_at short bytes ≡ Ok (mask, rest) → variant_at rest ≡ Ok (value, here) → EndsDataValue mask status here there
    → data_value_at bytes ≡ Ok (record { value = Some value; status = status }, there)
masked short mask status value bytes rest here there first read ends = ap data_value_at (byte_bytes short mask bytes rest first) ∙ ends value rest read

pub status_read : (short : NoBytes) (mask : ℕ) (old new : Cursor) (r : Result ℕ NoBytes) → mask ≡ 3 → Reads r old new (number_at short w32) → IfSome (result_ok r) (λ status. EndsDataValue mask status (rest_of old) (rest_of new))
status_read short mask old new (Ok status) is read = λ value bytes before. ap (λ (m : ℕ). data_value_at (m ∷ bytes)) is ∙ value_with_status short status value bytes (rest_of old) (rest_of new) read.answer before
status_read short mask old new (Err fault) is read = tt

pub no_status : (mask : ℕ) (here : List ℕ) → mask ≡ 1 → EndsDataValue mask 0 here here
no_status mask here is = λ value bytes before. ap (λ (m : ℕ). data_value_at (m ∷ bytes)) is ∙ value_alone value bytes here before
