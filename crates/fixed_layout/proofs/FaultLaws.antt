-- Which bytes have which fault.
use Rattle.std.proofs.Common.{◌≡◌, ℕ, zero, suc, ◌-◌, ◌<◌, ◌≤◌, ◌^◌, ◌⊎◌, inl, inr, Bool, true, false, List, [], ◌∷◌, ◌++◌, length, take, drop, Result, Ok, Err, ℤ, pos, negsuc, refl, sym, ap, subst, ◌∙◌, append_assoc, arith}
use Rattle.std.specs.Prelude.{nat_lt, if◌then◌else◌, ◌<ℤ◌, FitsSigned}
use Rattle.std.specs.Int.{Width, w32, byte_len, from_le_bytes, to_le_bytes, cast_signed, cast_unsigned}
use Rattle.std.specs.Str.{is_utf8}
use Rattle.std.proofs.lemmas.Bool.{ltb-true, lt-ltb}
use Rattle.std.proofs.lemmas.List.{take_at}
use Rattle.std.proofs.lemmas.List.Elements.{All-take}
use Rattle.std.proofs.lemmas.Int.{ints, of_z-to_z, to_z-of_z}
use Rattle.std.proofs.lemmas.Str.{is_utf8-from_IsUtf8, IsUtf8-from_is_utf8, IsUtf8-nil}
use Rattle.ua_values.specs.declared.kind.Kind.{Kind}
use Rattle.ua_values.specs.declared.kind.Kind.TheVariants as kinds
use Rattle.ua_values.specs.declared.value.Value.{Value}
use Rattle.ua_values.specs.declared.value.Value.TheVariants.{String, ByteString}
use Rattle.ua_binary.specs.declared.fault.ValueFault.{ValueFault}
use Rattle.ua_binary.specs.Reading.{◌>>=◌, bytes_at, number_at}
use Rattle.ua_binary.specs.ReadingValues.{plain_at}
use Rattle.ua_binary.specs.Spelling.{block}
use Rattle.ua_binary.specs.Wire.{AreBytes}
use Rattle.ua_binary.proofs.Blocks.{null}
use Rattle.ua_binary.proofs.Grammar.{rest-bytes}
use Rattle.ua_binary.proofs.Parts.{number_grammar, coded32}
use Rattle.dataset_meta.specs.declared.field.Field.{Field}
use Rattle.dataset_meta.specs.DataValues.{DataValue}
use Rattle.dataset_meta.specs.Metas.{IsMeta}
use Rattle.fixed_layout.specs.declared.fault.RawFault.{RawFault}
use Rattle.fixed_layout.specs.declared.fault.RawFault.TheVariants.{Short, BadLength, BadUtf8}
use Rattle.fixed_layout.specs.Begins.{FailsAtValue, BeginsWithBadLength, BeginsWithBadText}
use Rattle.fixed_layout.specs.Reading.{length_within, raw_block_at, raw_text_at, filled_at, or_short, raw_value_at, raw_field_at, raw_row_at}
use Rattle.fixed_layout.specs.Spelling.{good}
use Rattle.fixed_layout.specs.Wire.{WireRaw, wire_bytes, AreWireRaws, wires_bytes}
use Rattle.fixed_layout.proofs.RawGrammar.{AreShort, field_grammar, block_grammar}
use Rattle.fixed_layout.proofs.RawLaws.{are_short}

-- the only fault is Short
abbrev OnlyShort : (X : Type 0) → Result X RawFault → Type 0
OnlyShort X read = (fault : RawFault) → read ≡ Err fault → fault ≡ Short

-- a fault of one reading after another is the first's or the second's
fault-then : (X Y : Type 0) (r : Result X RawFault) (more : X → Result Y RawFault) (fault : RawFault) → (r >>= more) ≡ Err fault → (r ≡ Err fault) ⊎ ((x : X) × (r ≡ Ok x) × (more x ≡ Err fault))
fault-then X Y (Ok x) more fault e = inr (x, refl, e)
fault-then X Y (Err first) more fault e =
    let same : first ≡ fault = the_fault first e in
    inl (ap Err same)
  where
    the_fault : (first : RawFault) → Path (Result Y RawFault) (Err first) (Err fault) → first ≡ fault
    the_fault first e = cc

only-short-bytes : (len : ℕ) (bytes : List ℕ) → OnlyShort (List ℕ × List ℕ) (bytes_at Short len bytes)
only-short-bytes len bytes fault e = by_length (nat_lt (length bytes) len) refl
  where
    by_length : (b : Bool) → nat_lt (length bytes) len ≡ b → fault ≡ Short
    by_length true is =
        let found : Path (Result (List ℕ × List ℕ) RawFault) (Err Short) (Err fault) = sym (ap (λ (b : Bool). if b then Err Short else Ok (take len bytes, drop len bytes)) is) ∙ e in
        cc
    by_length false is =
        let found : Path (Result (List ℕ × List ℕ) RawFault) (Ok (take len bytes, drop len bytes)) (Err fault) = sym (ap (λ (b : Bool). if b then Err Short else Ok (take len bytes, drop len bytes)) is) ∙ e in
        absurd cc

only-short-ok : (X : Type 0) (x : X) → OnlyShort X (Ok x)
only-short-ok X x fault e = absurd cc

only-short-then : (X Y : Type 0) (r : Result X RawFault) (more : X → Result Y RawFault) → OnlyShort X r → ((x : X) → OnlyShort Y (more x)) → OnlyShort Y (r >>= more)
only-short-then X Y r more first later fault e =
    elim (fault-then X Y r more fault e) [ inl is ↦ first fault is | inr is ↦ later is.0 fault is.2 ]

only-short-number : (w : Width) (bytes : List ℕ) → OnlyShort (ℕ × List ℕ) (number_at Short w bytes)
only-short-number w bytes =
    only-short-then (List ℕ × List ℕ) (ℕ × List ℕ) (bytes_at Short (byte_len w) bytes) (λ n. Ok (from_le_bytes w n.0, n.1)) (only-short-bytes (byte_len w) bytes) (λ n. only-short-ok (ℕ × List ℕ) (from_le_bytes w n.0, n.1))

only-short-filled : (cap : ℕ) (text : List ℕ × List ℕ) → OnlyShort (List ℕ × List ℕ) (filled_at cap text)
unfolding filled_at
only-short-filled cap text =
    only-short-then (List ℕ × List ℕ) (List ℕ × List ℕ) (bytes_at Short (cap - length text.0) text.1) (λ filling. Ok (text.0, filling.1)) (only-short-bytes (cap - length text.0) text.1)
    (λ filling. only-short-ok (List ℕ × List ℕ) (text.0, filling.1))

only-or-short : (r : Result (Value × List ℕ) ValueFault) → OnlyShort (Value × List ℕ) (or_short r)
only-or-short (Ok x) fault e = absurd (let no : Path (Result (Value × List ℕ) RawFault) (Ok x) (Err fault) = e in cc)
only-or-short (Err other) fault e = let same : Path (Result (Value × List ℕ) RawFault) (Err Short) (Err fault) = e in cc

-- the length of a text or a blob
length-fault : (cap : ℕ) (z : ℤ) (fault : RawFault) → length_within cap z ≡ Err fault → (fault ≡ BadLength) × ((z <ℤ negsuc 0) ⊎ (pos cap <ℤ z))
length-fault cap (pos n) fault e = by_size (nat_lt cap n) refl
  where
    by_size : (b : Bool) → nat_lt cap n ≡ b → (fault ≡ BadLength) × ((pos n <ℤ negsuc 0) ⊎ (pos cap <ℤ pos n))
    by_size true large =
        let found : Path (Result ℕ RawFault) (Err BadLength) (Err fault) = sym (ap (λ (b : Bool). if b then Err BadLength else Ok n) large) ∙ e in
        let over : cap < n = ltb-true cap n large in
        (cc, inr (omega (arith, ints)))
    by_size false small =
        let found : Path (Result ℕ RawFault) (Ok n) (Err fault) = sym (ap (λ (b : Bool). if b then Err BadLength else Ok n) small) ∙ e in
        absurd cc
length-fault cap (negsuc zero) fault e = absurd (let no : Path (Result ℕ RawFault) (Ok 0) (Err fault) = e in cc)
length-fault cap (negsuc (suc n)) fault e = (let found : Path (Result ℕ RawFault) (Err BadLength) (Err fault) = e in cc, inl (omega (arith, ints)))

bad-length : (cap : ℕ) (z : ℤ) → (z <ℤ negsuc 0) ⊎ (pos cap <ℤ z) → length_within cap z ≡ Err BadLength
bad-length cap (pos n) (inl low) = absurd (omega (arith, ints))
bad-length cap (pos n) (inr high) = ap (λ (b : Bool). if b then Err BadLength else Ok n) (lt-ltb cap n (omega (arith, ints)))
bad-length cap (negsuc zero) (inl low) = absurd (omega (arith, ints))
bad-length cap (negsuc zero) (inr high) = absurd (omega (arith, ints))
bad-length cap (negsuc (suc n)) bad = refl

-- a length field that counts nothing
record BadField (cap : ℕ) (rest : List ℕ) : Type 0 where
  pub len : ℤ
  pub field : FitsSigned w32 len
  pub bad : (len <ℤ negsuc 0) ⊎ (pos cap <ℤ len)
  pub after : List ℕ
  pub split : rest ≡ to_le_bytes w32 (cast_unsigned w32 len) ++ after

signed32 : (n : ℕ) → n < 2 ^ 32 → FitsSigned w32 (cast_signed w32 n)
signed32 n h = omega (arith, ints)

abbrev counted_at : ℕ → ℕ × List ℕ → Result (List ℕ × List ℕ) RawFault
counted_at cap field = length_within cap (cast_signed w32 field.0) >>= λ len. bytes_at Short len field.1

block-fault : (cap : ℕ) (rest : List ℕ) (fault : RawFault) → AreBytes rest → raw_block_at cap rest ≡ Err fault → (fault ≡ Short) ⊎ ((fault ≡ BadLength) × BadField cap rest)
unfolding raw_block_at
block-fault cap rest fault all e = by_field (fault-then (ℕ × List ℕ) (List ℕ × List ℕ) (number_at Short w32 rest) (counted_at cap) fault e)
  where
    by_length : (field : ℕ × List ℕ) → number_at Short w32 rest ≡ Ok field → (length_within cap (cast_signed w32 field.0) ≡ Err fault) ⊎ ((len : ℕ) × (length_within cap (cast_signed w32 field.0) ≡ Ok len) × (bytes_at Short len field.1 ≡ Err fault))
        → (fault ≡ Short) ⊎ ((fault ≡ BadLength) × BadField cap rest)
    by_length field read (inr is) = inl (only-short-bytes is.0 field.1 fault is.2)
    by_length field read (inl is) =
        let bad = length-fault cap (cast_signed w32 field.0) fault is in
        let one = (number_grammar RawFault Short w32 32 coded32).back rest field.1 field.0 all read in
        inr (
          bad.0,
          record {
            len = cast_signed w32 field.0;
            field = signed32 field.0 one.spells.0;
            bad = bad.1;
            after = field.1;
            split = one.split ∙ ap (λ (l : List ℕ). l ++ field.1) (one.spells.1 ∙ ap (to_le_bytes w32) (sym (of_z-to_z w32 field.0 one.spells.0)));
          },
        )

    by_field : (number_at Short w32 rest ≡ Err fault) ⊎ ((field : ℕ × List ℕ) × (number_at Short w32 rest ≡ Ok field) × (counted_at cap field ≡ Err fault)) → (fault ≡ Short) ⊎ ((fault ≡ BadLength) × BadField cap rest)
    by_field (inl is) = inl (only-short-number w32 rest fault is)
    by_field (inr is) = by_length is.0 is.1 (fault-then ℕ (List ℕ × List ℕ) (length_within cap (cast_signed w32 is.0.0)) (λ len. bytes_at Short len is.0.1) fault is.2)

-- a text that isn't UTF-8
record BadText (cap : ℕ) (rest : List ℕ) : Type 0 where
  pub text : List ℕ
  pub after : List ℕ
  pub read : raw_block_at cap rest ≡ Ok (text, after)
  pub not_utf8 : is_utf8 text ≡ false

-- a text is refused as its bytes are, or for them
text-fault : (cap : ℕ) (rest : List ℕ) (fault : RawFault) → raw_text_at cap rest ≡ Err fault → (raw_block_at cap rest ≡ Err fault) ⊎ ((fault ≡ BadUtf8) × BadText cap rest)
unfolding raw_text_at
text-fault cap rest fault e = by_block (fault-then (List ℕ × List ℕ) (List ℕ × List ℕ) (raw_block_at cap rest) (λ text. if is_utf8 text.0 then Ok text else Err BadUtf8) fault e)
  where
    by_test : (text : List ℕ × List ℕ) → raw_block_at cap rest ≡ Ok text → (if is_utf8 text.0 then Ok text else Err BadUtf8) ≡ Err fault → (b : Bool) → is_utf8 text.0 ≡ b → (fault ≡ BadUtf8) × BadText cap rest
    by_test text read judged true is =
        let no : Path (Result (List ℕ × List ℕ) RawFault) (Ok text) (Err fault) = sym (ap (λ (b : Bool). if b then Ok text else Err BadUtf8) is) ∙ judged in
        absurd cc
    by_test text read judged false is =
        let found : Path (Result (List ℕ × List ℕ) RawFault) (Err BadUtf8) (Err fault) = sym (ap (λ (b : Bool). if b then Ok text else Err BadUtf8) is) ∙ judged in
        (cc, record { text = text.0; after = text.1; read = read; not_utf8 = is })

    by_block : (raw_block_at cap rest ≡ Err fault) ⊎ ((text : List ℕ × List ℕ) × (raw_block_at cap rest ≡ Ok text) × ((if is_utf8 text.0 then Ok text else Err BadUtf8) ≡ Err fault)) → (raw_block_at cap rest ≡ Err fault) ⊎ ((fault ≡ BadUtf8) × BadText cap rest)
    by_block (inl is) = inl is
    by_block (inr is) = inr (by_test is.0 is.1 is.2 (is_utf8 is.0.0) refl)

-- why a value of this kind is refused
abbrev Cause : Kind → ℕ → List ℕ → RawFault → Type 0
Cause kind cap bytes Short = Unit {0}
Cause kind cap bytes BadLength = ((kind ≡ kinds.String) ⊎ (kind ≡ kinds.ByteString)) × BadField cap bytes
Cause kind cap bytes BadUtf8 = (kind ≡ kinds.String) × BadText cap bytes

short-cause : (kind : Kind) (cap : ℕ) (bytes : List ℕ) (fault : RawFault) → fault ≡ Short → Cause kind cap bytes fault
short-cause kind cap bytes fault e = subst (λ (f : RawFault). Cause kind cap bytes f) (sym e) tt

block-cause : (kind : Kind) (cap : ℕ) (bytes : List ℕ) (fault : RawFault) → (kind ≡ kinds.String) ⊎ (kind ≡ kinds.ByteString) → AreBytes bytes → raw_block_at cap bytes ≡ Err fault → Cause kind cap bytes fault
block-cause kind cap bytes fault counted all e =
    elim (block-fault cap bytes fault all e) [ inl is ↦ short-cause kind cap bytes fault is | inr is ↦ subst (λ (f : RawFault). Cause kind cap bytes f) (sym is.0) (counted, is.1) ]

text-cause : (cap : ℕ) (bytes : List ℕ) (fault : RawFault) → AreBytes bytes → raw_text_at cap bytes ≡ Err fault → Cause kinds.String cap bytes fault
text-cause cap bytes fault all e =
    elim (text-fault cap bytes fault e) [ inl is ↦ block-cause kinds.String cap bytes fault (inl refl) all is | inr is ↦ subst (λ (f : RawFault). Cause kinds.String cap bytes f) (sym is.0) (refl, is.1) ]

-- what is made of a reading has its faults
abbrev made : (X Y : Type 0) → (X → Y) → Result (X × List ℕ) RawFault → Result (Y × List ℕ) RawFault
made X Y make read = read >>= λ x. Ok (make x.0, x.1)

made-fault : (X Y : Type 0) (make : X → Y) (read : Result (X × List ℕ) RawFault) (fault : RawFault) → made X Y make read ≡ Err fault → read ≡ Err fault
made-fault X Y make (Ok x) fault e = absurd (let no : Path (Result (Y × List ℕ) RawFault) (Ok (make x.0, x.1)) (Err fault) = e in cc)
made-fault X Y make (Err first) fault e = let same : first ≡ fault = the_fault first e in ap Err same
  where
    the_fault : (first : RawFault) → Path (Result (Y × List ℕ) RawFault) (Err first) (Err fault) → first ≡ fault
    the_fault first e = cc

value-cause : (kind : Kind) (cap : ℕ) (bytes : List ℕ) (fault : RawFault) → AreBytes bytes → raw_value_at kind cap bytes ≡ Err fault → Cause kind cap bytes fault
value-cause kinds.String cap bytes fault all e =
    let read = made-fault (List ℕ) Value String (raw_text_at cap bytes >>= filled_at cap) fault e in
    elim (fault-then (List ℕ × List ℕ) (List ℕ × List ℕ) (raw_text_at cap bytes) (filled_at cap) fault read) [ inl is ↦ text-cause cap bytes fault all is | inr is ↦ short-cause kinds.String cap bytes fault (only-short-filled cap is.0 fault is.2) ]
value-cause kinds.ByteString cap bytes fault all e =
    let read = made-fault (List ℕ) Value ByteString (raw_block_at cap bytes >>= filled_at cap) fault e in
    elim (fault-then (List ℕ × List ℕ) (List ℕ × List ℕ) (raw_block_at cap bytes) (filled_at cap) fault read)
    [ inl is ↦ block-cause kinds.ByteString cap bytes fault (inr refl) all is | inr is ↦ short-cause kinds.ByteString cap bytes fault (only-short-filled cap is.0 fault is.2) ]
value-cause kind cap bytes fault all e = short-cause kind cap bytes fault (only-or-short (plain_at kind bytes) fault e)

field-cause : (field : Field) (bytes : List ℕ) (fault : RawFault) → AreBytes bytes → raw_field_at field bytes ≡ Err fault → Cause field.kind field.cap bytes fault
unfolding raw_field_at
field-cause field bytes fault all e = value-cause field.kind field.cap bytes fault all (made-fault Value DataValue good (raw_value_at field.kind field.cap bytes) fault e)

pub length-refused : (field : Field) (bytes : List ℕ) → AreBytes bytes → raw_field_at field bytes ≡ Err BadLength → BeginsWithBadLength field bytes
length-refused field bytes all e =
    let cause = field-cause field bytes BadLength all e in
    record { counted = cause.0; len = cause.1.len; in_range = cause.1.field; bad = cause.1.bad; rest = cause.1.after; split = cause.1.split }

pub text-refused : (field : Field) (bytes : List ℕ) → field.cap ≤ 256 → AreBytes bytes → raw_field_at field bytes ≡ Err BadUtf8 → BeginsWithBadText field bytes
text-refused field bytes small all e =
    let cause = field-cause field bytes BadUtf8 all e in
    let b = cause.1 in
    let one = (block_grammar field.cap small).back bytes b.after b.text all b.read in
    record {
      is_text = cause.0;
      text = b.text;
      within = one.spells.within;
      not_utf8 = λ is. not_both b.text b.not_utf8 (is_utf8-from_IsUtf8 b.text is);
      rest = b.after;
      split = one.split ∙ ap (λ (l : List ℕ). l ++ b.after) (is_block one.text b.text b.not_utf8 one.spells.spelled);
    }
  where
    not_both : (text : List ℕ) → is_utf8 text ≡ false → is_utf8 text ≡ true → ⊥
    not_both text bad is = let both : Path Bool true false = sym is ∙ bad in cc

    is_block : (found text : List ℕ) → is_utf8 text ≡ false → (found ≡ block text) ⊎ ((text ≡ []) × (found ≡ null)) → found ≡ block text
    is_block found text bad (inl e) = e
    is_block found text bad (inr e) = absurd (not_both text bad (ap is_utf8 e.0 ∙ is_utf8-from_IsUtf8 [] IsUtf8-nil))

-- and each cause is refused so
bad-block : (cap : ℕ) (len : ℤ) (rest : List ℕ) → FitsSigned w32 len → (len <ℤ negsuc 0) ⊎ (pos cap <ℤ len) → raw_block_at cap (to_le_bytes w32 (cast_unsigned w32 len) ++ rest) ≡ Err BadLength
unfolding raw_block_at
bad-block cap len rest field bad =
    let small : cast_unsigned w32 len < 2 ^ 32 = omega (arith, ints) in
    let read = (number_grammar RawFault Short w32 32 coded32).again (cast_unsigned w32 len) (to_le_bytes w32 (cast_unsigned w32 len)) rest (small, refl) in
    ap (λ (r : Result (ℕ × List ℕ) RawFault). r >>= counted_at cap) read ∙ ap (λ (z : ℤ). length_within cap z >>= λ n. bytes_at Short n rest) (to_z-of_z w32 len field)
    ∙ ap (λ (r : Result ℕ RawFault). r >>= λ n. bytes_at Short n rest) (bad-length cap len bad)

abbrev judged_at : List ℕ × List ℕ → Result (List ℕ × List ℕ) RawFault
judged_at text = if is_utf8 text.0 then Ok text else Err BadUtf8

text-stops : (cap : ℕ) (bytes : List ℕ) (fault : RawFault) → raw_block_at cap bytes ≡ Err fault → raw_text_at cap bytes ≡ Err fault
unfolding raw_text_at
text-stops cap bytes fault e = ap (λ (r : Result (List ℕ × List ℕ) RawFault). r >>= judged_at) e

abbrev texted : ℕ → Result (List ℕ × List ℕ) RawFault → Result (Value × List ℕ) RawFault
texted cap read = read >>= filled_at cap >>= λ text. Ok (String text.0, text.1)

abbrev blobbed : ℕ → Result (List ℕ × List ℕ) RawFault → Result (Value × List ℕ) RawFault
blobbed cap read = read >>= filled_at cap >>= λ text. Ok (ByteString text.0, text.1)

abbrev gooded : Result (Value × List ℕ) RawFault → Result (DataValue × List ℕ) RawFault
gooded read = read >>= λ value. Ok (good value.0, value.1)

field-stops : (field : Field) (bytes : List ℕ) (fault : RawFault) (kind : Kind) → field.kind ≡ kind → raw_value_at kind field.cap bytes ≡ Err fault → raw_field_at field bytes ≡ Err fault
unfolding raw_field_at
field-stops field bytes fault kind is e = ap (λ (k : Kind). gooded (raw_value_at k field.cap bytes)) is ∙ ap gooded e

pub bad-length-read : (field : Field) (bytes : List ℕ) → BeginsWithBadLength field bytes → raw_field_at field bytes ≡ Err BadLength
bad-length-read field bytes b = ap (raw_field_at field) b.split ∙ by_kind b.counted
  where
    by_kind : (field.kind ≡ kinds.String) ⊎ (field.kind ≡ kinds.ByteString) → raw_field_at field (to_le_bytes w32 (cast_unsigned w32 b.len) ++ b.rest) ≡ Err BadLength
    by_kind (inl is) =
        field-stops field (to_le_bytes w32 (cast_unsigned w32 b.len) ++ b.rest) BadLength kinds.String is
        (ap (texted field.cap) (text-stops field.cap (to_le_bytes w32 (cast_unsigned w32 b.len) ++ b.rest) BadLength (bad-block field.cap b.len b.rest b.in_range b.bad)))
    by_kind (inr is) =
        field-stops field (to_le_bytes w32 (cast_unsigned w32 b.len) ++ b.rest) BadLength kinds.ByteString is (ap (blobbed field.cap) (bad-block field.cap b.len b.rest b.in_range b.bad))

bad-text-stops : (cap : ℕ) (text bytes rest : List ℕ) → raw_block_at cap bytes ≡ Ok (text, rest) → ¬ (is_utf8 text ≡ true) → raw_text_at cap bytes ≡ Err BadUtf8
unfolding raw_text_at
bad-text-stops cap text bytes rest read bad = ap (λ (r : Result (List ℕ × List ℕ) RawFault). r >>= judged_at) read ∙ by_test (is_utf8 text) refl
  where
    by_test : (t : Bool) → is_utf8 text ≡ t → judged_at (text, rest) ≡ Err BadUtf8
    by_test true is = absurd (bad is)
    by_test false is = ap (λ (t : Bool). if t then Ok (text, rest) else Err BadUtf8) is

pub bad-text-read : (field : Field) (bytes : List ℕ) → field.cap ≤ 256 → BeginsWithBadText field bytes → AreBytes bytes → raw_field_at field bytes ≡ Err BadUtf8
bad-text-read field bytes small b all =
    let in_range : AreBytes b.text = text-bytes b.text b.rest (rest-bytes bytes (to_le_bytes w32 (length b.text)) (b.text ++ b.rest) all (b.split ∙ append_assoc (to_le_bytes w32 (length b.text)) b.text b.rest)) in
    let read : raw_block_at field.cap (block b.text ++ b.rest) ≡ Ok (b.text, b.rest) =
    (block_grammar field.cap small).again b.text (block b.text) b.rest (record { within = b.within; in_range = in_range; spelled = inl refl }) in
    ap (raw_field_at field) b.split
    ∙ field-stops field (block b.text ++ b.rest) BadUtf8 kinds.String b.is_text
    (ap (texted field.cap) (bad-text-stops field.cap b.text (block b.text ++ b.rest) b.rest read (λ is. b.not_utf8 (IsUtf8-from_is_utf8 b.text is))))
  where
    text-bytes : (text rest : List ℕ) → AreBytes (text ++ rest) → AreBytes text
    text-bytes text rest both = subst AreBytes (take_at text rest (length text) refl) (All-take (λ (byte : ℕ). byte < 256) (length text) (text ++ rest) both)

-- rows
pub row-refused : (fields : List Field) (bytes : List ℕ) (fault : RawFault) → AreShort fields → AreBytes bytes → raw_row_at fields bytes ≡ Err fault → FailsAtValue fields bytes fault
row-refused [] bytes fault are all e = absurd (let no : Path (Result (List DataValue × List ℕ) RawFault) (Ok ([], bytes)) (Err fault) = e in cc)
row-refused (field ∷ fields) bytes fault are all e =
    by_first (λ rest. row-refused fields rest fault are.1) (fault-then (DataValue × List ℕ) (List DataValue × List ℕ) (raw_field_at field bytes) (λ x. made (List DataValue) (List DataValue) (λ (row : List DataValue). x.0 ∷ row) (raw_row_at fields x.1)) fault e)
  where
    by_first : ((rest : List ℕ) → AreBytes rest → raw_row_at fields rest ≡ Err fault → FailsAtValue fields rest fault)
        → (raw_field_at field bytes ≡ Err fault) ⊎ ((x : DataValue × List ℕ) × (raw_field_at field bytes ≡ Ok x) × (made (List DataValue) (List DataValue) (λ (row : List DataValue). x.0 ∷ row) (raw_row_at fields x.1) ≡ Err fault)) → FailsAtValue (field ∷ fields) bytes fault
    by_first later_fails (inl is) = record { before = []; field = field; after = fields; split_fields = refl; raws = []; are_raws = tt; rest = bytes; split = refl; refused = is }
    by_first later_fails (inr is) =
        let one = (field_grammar field are.0).back bytes is.0.1 is.0.0 all is.1 in
        let later = later_fails is.0.1 (rest-bytes bytes one.text is.0.1 all one.split) (made-fault (List DataValue) (List DataValue) (λ (row : List DataValue). is.0.0 ∷ row) (raw_row_at fields is.0.1) fault is.2) in
        record {
          before = field ∷ later.before;
          field = later.field;
          after = later.after;
          split_fields = ap (λ (l : List Field). field ∷ l) later.split_fields;
          raws = one.spells.raw ∷ later.raws;
          are_raws = (one.spells.is_raw, later.are_raws);
          rest = later.rest;
          split = one.split ∙ ap (λ (l : List ℕ). l ++ is.0.1) one.spells.spelled ∙ ap (λ (l : List ℕ). wire_bytes one.spells.raw ++ l) later.split ∙ sym (append_assoc (wire_bytes one.spells.raw) (wires_bytes later.raws) later.rest);
          refused = later.refused;
        }

abbrev row_behind : List Field → Result (DataValue × List ℕ) RawFault → Result (List DataValue × List ℕ) RawFault
row_behind fields read = read >>= λ x. raw_row_at fields x.1 >>= λ row. Ok (x.0 ∷ row.0, row.1)

abbrev consed : DataValue → Result (List DataValue × List ℕ) RawFault → Result (List DataValue × List ℕ) RawFault
consed x read = read >>= λ row. Ok (x ∷ row.0, row.1)

stops-at : (before : List Field) (field : Field) (after : List Field) (raws : List WireRaw) (rest : List ℕ) (fault : RawFault) → AreShort (before ++ field ∷ after) → AreWireRaws before raws → raw_field_at field rest ≡ Err fault
    → raw_row_at (before ++ field ∷ after) (wires_bytes raws ++ rest) ≡ Err fault
stops-at [] field after [] rest fault short are e = ap (row_behind after) e
stops-at [] field after (raw ∷ raws) rest fault short are e = absurd are
stops-at (first ∷ before) field after [] rest fault short are e = absurd are
stops-at (first ∷ before) field after (raw ∷ raws) rest fault short are e =
    let read = (field_grammar first short.0).again (good raw.wire.value) (wire_bytes raw) (wires_bytes raws ++ rest) (record { raw = raw; is_raw = are.0; meaning = refl; spelled = refl }) in
    ap (λ (l : List ℕ). row_behind (before ++ field ∷ after) (raw_field_at first l)) (append_assoc (wire_bytes raw) (wires_bytes raws) rest)
    ∙ ap (row_behind (before ++ field ∷ after)) read
    ∙ ap (consed (good raw.wire.value)) (stops-at before field after raws rest fault short.1 are.1 e)

pub row-stops : (fields : List Field) (bytes : List ℕ) (fault : RawFault) → AreShort fields → FailsAtValue fields bytes fault → raw_row_at fields bytes ≡ Err fault
row-stops fields bytes fault short f =
    ap (λ (l : List Field). raw_row_at l bytes) f.split_fields ∙ ap (raw_row_at (f.before ++ f.field ∷ f.after)) f.split
    ∙ stops-at f.before f.field f.after f.raws f.rest fault (subst AreShort f.split_fields short) f.are_raws f.refused

pub row-fault : (fields : List Field) (bytes : List ℕ) (fault : RawFault) → IsMeta fields → AreBytes bytes → raw_row_at fields bytes ≡ Err fault → FailsAtValue fields bytes fault
row-fault fields bytes fault meta all e = row-refused fields bytes fault (are_short fields meta) all e

pub row-fault-read : (fields : List Field) (bytes : List ℕ) (fault : RawFault) → IsMeta fields → FailsAtValue fields bytes fault → raw_row_at fields bytes ≡ Err fault
row-fault-read fields bytes fault meta f = row-stops fields bytes fault (are_short fields meta) f
