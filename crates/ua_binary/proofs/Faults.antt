-- Which bytes have which fault.
use Rattle.std.proofs.Common.{◌≡◌, ◌≢◌, ℕ, zero, suc, ◌<◌, ◌≤◌, ◌^◌, ◌⊎◌, inl, inr, Bool, true, false, List, [], ◌∷◌, ◌++◌, length, take, drop, Option, Some, None, Result, Ok, Err, ℤ, pos, negsuc, refl, sym, ap, subst, ◌∙◌, append_assoc, arith}
use Rattle.std.specs.Prelude.{nat_lt, if◌then◌else◌, ◌<ℤ◌, FitsSigned, unwrap_or, ⊤}
use Rattle.std.specs.Int.{Width, w16, w32, w64, byte_len, from_le_bytes, to_le_bytes, cast_signed, cast_unsigned}
use Rattle.std.specs.Str.{is_utf8}
use Rattle.std.proofs.lemmas.Bool.{ltb-true, lt-ltb}
use Rattle.std.proofs.lemmas.Int.{ints, of_z-to_z, to_z-of_z}
use Rattle.std.proofs.lemmas.Str.{is_utf8-from_IsUtf8, IsUtf8-from_is_utf8, IsUtf8-nil}
use Rattle.ua_values.specs.declared.kind.Kind.{Kind}
use Rattle.ua_values.specs.declared.kind.Kind.TheVariants as kinds
use Rattle.ua_values.specs.declared.value.Value.{Value}
use Rattle.ua_values.specs.declared.value.Value.TheVariants.{String, ByteString}
use Rattle.ua_binary.specs.declared.data_value.Measured.{Measured}
use Rattle.ua_binary.specs.declared.fault.ValueFault.{ValueFault}
use Rattle.ua_binary.specs.declared.fault.ValueFault.TheVariants.{Short, KindOut, BadUtf8, BadLength}
use Rattle.ua_binary.specs.Begins.{BeginsWithOtherType, BeginsWithBadLength, BeginsWithBadText}
use Rattle.ua_binary.specs.Reading.{◌>>=◌, byte_at, bytes_at, number_at, part_at, skipped}
use Rattle.ua_binary.specs.ReadingValues.{has, length_of, block_at, text_at, as_value, plain_at, kind_at, variant_at, times_past, parts_at, data_value_at}
use Rattle.ua_binary.specs.Spelling.{block}
use Rattle.ua_binary.specs.Types.{type_of, kind_with}
use Rattle.ua_binary.specs.Wire.{AreBytes}
use Rattle.ua_binary.proofs.Blocks.{null, length-of, block_grammar}
use Rattle.ua_binary.proofs.Grammar.{rest-bytes}
use Rattle.ua_binary.proofs.Parts.{bytes_again, number_grammar, coded32}
use Rattle.ua_binary.proofs.Values.{type-of, kind-with, kind_read}

-- the only fault is Short
abbrev OnlyShort : (X : Type 0) → Result X ValueFault → Type 0
OnlyShort X read = (fault : ValueFault) → read ≡ Err fault → fault ≡ Short

-- a fault of one reading after another is the first's or the second's
pub fault-then : (X Y : Type 0) (r : Result X ValueFault) (more : X → Result Y ValueFault) (fault : ValueFault) → (r >>= more) ≡ Err fault → (r ≡ Err fault) ⊎ ((x : X) × (r ≡ Ok x) × (more x ≡ Err fault))
fault-then X Y (Ok x) more fault e = inr (x, refl, e)
fault-then X Y (Err first) more fault e =
    let same : first ≡ fault = the_fault first e in
    inl (ap Err same)
  where
    the_fault : (first : ValueFault) → Path (Result Y ValueFault) (Err first) (Err fault) → first ≡ fault
    the_fault first e = cc

pub only-short-byte : (bytes : List ℕ) → OnlyShort (ℕ × List ℕ) (byte_at Short bytes)
only-short-byte [] fault e = cc
only-short-byte (byte ∷ rest) fault e = absurd cc

pub only-short-bytes : (len : ℕ) (bytes : List ℕ) → OnlyShort (List ℕ × List ℕ) (bytes_at Short len bytes)
only-short-bytes len bytes fault e = by_length (nat_lt (length bytes) len) refl
  where
    by_length : (b : Bool) → nat_lt (length bytes) len ≡ b → fault ≡ Short
    by_length true is =
        let found : Path (Result (List ℕ × List ℕ) ValueFault) (Err Short) (Err fault) = sym (ap (λ (b : Bool). if b then Err Short else Ok (take len bytes, drop len bytes)) is) ∙ e in
        cc
    by_length false is =
        let found : Path (Result (List ℕ × List ℕ) ValueFault) (Ok (take len bytes, drop len bytes)) (Err fault) = sym (ap (λ (b : Bool). if b then Err Short else Ok (take len bytes, drop len bytes)) is) ∙ e in
        absurd cc

only-short-then : (X Y : Type 0) (r : Result X ValueFault) (more : X → Result Y ValueFault) → OnlyShort X r → ((x : X) → OnlyShort Y (more x)) → OnlyShort Y (r >>= more)
only-short-then X Y r more first later fault e =
    elim (fault-then X Y r more fault e) [ inl is ↦ first fault is | inr is ↦ later is.0 fault is.2 ]

only-short-ok : (X : Type 0) (x : X) → OnlyShort X (Ok x)
only-short-ok X x fault e = absurd cc

only-short-number : (w : Width) (bytes : List ℕ) → OnlyShort (ℕ × List ℕ) (number_at Short w bytes)
only-short-number w bytes = only-short-then (List ℕ × List ℕ) (ℕ × List ℕ) (bytes_at Short (byte_len w) bytes) (λ n. Ok (from_le_bytes w n.0, n.1)) (only-short-bytes (byte_len w) bytes) (λ n. only-short-ok (ℕ × List ℕ) (from_le_bytes w n.0, n.1))

only-short-part : (X : Type 0) (flag : Bool) (read : List ℕ → Result (X × List ℕ) ValueFault) (bytes : List ℕ) → OnlyShort (X × List ℕ) (read bytes) → OnlyShort (Option X × List ℕ) (part_at flag read bytes)
only-short-part X true read bytes is = only-short-then (X × List ℕ) (Option X × List ℕ) (read bytes) (λ part. Ok (Some part.0, part.1)) is (λ part. only-short-ok (Option X × List ℕ) (Some part.0, part.1))
only-short-part X false read bytes is = only-short-ok (Option X × List ℕ) (None, bytes)

only-short-past : (mask bit len : ℕ) (bytes : List ℕ) → OnlyShort (Unit {0} × List ℕ) (skipped (part_at (has mask bit) (bytes_at Short len)) bytes)
only-short-past mask bit len bytes =
    only-short-then (Option (List ℕ) × List ℕ) (Unit {0} × List ℕ) (part_at (has mask bit) (bytes_at Short len) bytes) (λ part. Ok (tt, part.1))
    (only-short-part (List ℕ) (has mask bit) (bytes_at Short len) bytes (only-short-bytes len bytes)) (λ part. only-short-ok (Unit {0} × List ℕ) (tt, part.1))

abbrev past : ℕ → ℕ → ℕ → List ℕ → Result (Unit {0} × List ℕ) ValueFault
past mask bit len = skipped (part_at (has mask bit) (bytes_at Short len))

only-short-times : (mask : ℕ) (bytes : List ℕ) → OnlyShort (Unit {0} × List ℕ) (times_past mask bytes)
unfolding times_past
only-short-times mask bytes =
    only-short-then (Unit {0} × List ℕ) (Unit {0} × List ℕ) (past mask 0x04 8 bytes) (λ x. past mask 0x10 2 x.1 >>= λ y. past mask 0x08 8 y.1 >>= λ z. past mask 0x20 2 z.1) (only-short-past mask 0x04 8 bytes)
    (λ x. only-short-then (Unit {0} × List ℕ) (Unit {0} × List ℕ) (past mask 0x10 2 x.1) (λ y. past mask 0x08 8 y.1 >>= λ z. past mask 0x20 2 z.1) (only-short-past mask 0x10 2 x.1)
    (λ y. only-short-then (Unit {0} × List ℕ) (Unit {0} × List ℕ) (past mask 0x08 8 y.1) (λ z. past mask 0x20 2 z.1) (only-short-past mask 0x08 8 y.1) (λ z. only-short-past mask 0x20 2 z.1)))

-- the type byte
kind-fault : (bytes : List ℕ) (fault : ValueFault) → kind_at bytes ≡ Err fault → (fault ≡ Short) ⊎ ((fault ≡ KindOut) × BeginsWithOtherType bytes)
unfolding kind_at
kind-fault [] fault e = inl (let same : Path (Result (Kind × List ℕ) ValueFault) (Err Short) (Err fault) = e in cc)
kind-fault (number ∷ rest) fault e = by_kind (kind_with number) refl
  where
    by_kind : (found : Option Kind) → kind_with number ≡ found → (fault ≡ Short) ⊎ ((fault ≡ KindOut) × BeginsWithOtherType (number ∷ rest))
    by_kind None is =
        let out : Path (Result (Kind × List ℕ) ValueFault) (Err KindOut) (Err fault) = rw is at e in
        inr (cc, record { number = number; rest = rest; other = λ kind same. no_kind kind same; split = refl })
      where
        no_kind : (kind : Kind) → type_of kind ≡ number → ⊥
        no_kind kind same = let both : Path (Option Kind) (Some kind) None = sym (kind-with kind) ∙ ap kind_with same ∙ is in cc
    by_kind (Some kind) is =
        let read : Path (Result (Kind × List ℕ) ValueFault) (Ok (kind, rest)) (Err fault) = rw is at e in
        absurd cc

kind-split : (bytes rest : List ℕ) (kind : Kind) → kind_at bytes ≡ Ok (kind, rest) → bytes ≡ type_of kind ∷ rest
unfolding kind_at
kind-split [] rest kind e = absurd cc
kind-split (number ∷ more) rest kind e = by_kind (kind_with number) refl
  where
    by_kind : (found : Option Kind) → kind_with number ≡ found → number ∷ more ≡ type_of kind ∷ rest
    by_kind None is = absurd (let no : Path (Result (Kind × List ℕ) ValueFault) (Err KindOut) (Ok (kind, rest)) = rw is at e in cc)
    by_kind (Some found) is =
        let read : Path (Result (Kind × List ℕ) ValueFault) (Ok (found, more)) (Ok (kind, rest)) = rw is at e in
        let pair : Path (Kind × List ℕ) (found, more) (kind, rest) = cc in
        let same : found ≡ kind = ap (λ (p : Kind × List ℕ). p.0) pair in
        let left : more ≡ rest = ap (λ (p : Kind × List ℕ). p.1) pair in
        ap (λ (k : ℕ). k ∷ more) (sym (type-of number found is) ∙ ap type_of same) ∙ ap (λ (l : List ℕ). type_of kind ∷ l) left

-- the length of a text or a blob
length-fault : (z : ℤ) (fault : ValueFault) → length_of z ≡ Err fault → (fault ≡ BadLength) × ((z <ℤ negsuc 0) ⊎ (pos 256 <ℤ z))
length-fault (pos n) fault e = by_size (nat_lt 256 n) refl
  where
    by_size : (b : Bool) → nat_lt 256 n ≡ b → (fault ≡ BadLength) × ((pos n <ℤ negsuc 0) ⊎ (pos 256 <ℤ pos n))
    by_size true large =
        let found : Path (Result ℕ ValueFault) (Err BadLength) (Err fault) = sym (ap (λ (b : Bool). if b then Err BadLength else Ok n) large) ∙ e in
        let over : 256 < n = ltb-true 256 n large in
        (cc, inr (omega (arith, ints)))
    by_size false small =
        let found : Path (Result ℕ ValueFault) (Ok n) (Err fault) = sym (ap (λ (b : Bool). if b then Err BadLength else Ok n) small) ∙ e in
        absurd cc
length-fault (negsuc zero) fault e = absurd (let no : Path (Result ℕ ValueFault) (Ok 0) (Err fault) = e in cc)
length-fault (negsuc (suc n)) fault e = (let found : Path (Result ℕ ValueFault) (Err BadLength) (Err fault) = e in cc, inl (omega (arith, ints)))

bad-length : (z : ℤ) → (z <ℤ negsuc 0) ⊎ (pos 256 <ℤ z) → length_of z ≡ Err BadLength
bad-length (pos n) (inl low) = absurd (omega (arith, ints))
bad-length (pos n) (inr high) = ap (λ (b : Bool). if b then Err BadLength else Ok n) (lt-ltb 256 n (omega (arith, ints)))
bad-length (negsuc zero) (inl low) = absurd (omega (arith, ints))
bad-length (negsuc zero) (inr high) = absurd (omega (arith, ints))
bad-length (negsuc (suc n)) bad = refl

-- a length field that counts nothing
record BadField (rest : List ℕ) : Type 0 where
  pub len : ℤ
  pub field : FitsSigned w32 len
  pub bad : (len <ℤ negsuc 0) ⊎ (pos 256 <ℤ len)
  pub after : List ℕ
  pub split : rest ≡ to_le_bytes w32 (cast_unsigned w32 len) ++ after

signed32 : (n : ℕ) → n < 2 ^ 32 → FitsSigned w32 (cast_signed w32 n)
signed32 n h = omega (arith, ints)

abbrev counted_at : ℕ × List ℕ → Result (List ℕ × List ℕ) ValueFault
counted_at field = length_of (cast_signed w32 field.0) >>= λ len. bytes_at Short len field.1

block-fault : (rest : List ℕ) (fault : ValueFault) → block_at rest ≡ Err fault → (fault ≡ Short) ⊎ ((fault ≡ BadLength) × (AreBytes rest → BadField rest))
unfolding block_at
block-fault rest fault e = by_field (fault-then (ℕ × List ℕ) (List ℕ × List ℕ) (number_at Short w32 rest) counted_at fault e)
  where
    by_length : (field : ℕ × List ℕ) → number_at Short w32 rest ≡ Ok field → (length_of (cast_signed w32 field.0) ≡ Err fault) ⊎ ((len : ℕ) × (length_of (cast_signed w32 field.0) ≡ Ok len) × (bytes_at Short len field.1 ≡ Err fault)) → (fault ≡ Short) ⊎ ((fault ≡ BadLength) × (AreBytes rest → BadField rest))
    by_length field read (inr is) = inl (only-short-bytes is.0 field.1 fault is.2)
    by_length field read (inl is) =
        let bad = length-fault (cast_signed w32 field.0) fault is in
        inr (
          bad.0,
          λ all. let one = (number_grammar ValueFault Short w32 32 coded32).back rest field.1 field.0 all read in record {
            len = cast_signed w32 field.0;
            field = signed32 field.0 one.spells.0;
            bad = bad.1;
            after = field.1;
            split = one.split ∙ ap (λ (l : List ℕ). l ++ field.1) (one.spells.1 ∙ ap (to_le_bytes w32) (sym (of_z-to_z w32 field.0 one.spells.0)));
          },
        )

    by_field : (number_at Short w32 rest ≡ Err fault) ⊎ ((field : ℕ × List ℕ) × (number_at Short w32 rest ≡ Ok field) × (counted_at field ≡ Err fault)) → (fault ≡ Short) ⊎ ((fault ≡ BadLength) × (AreBytes rest → BadField rest))
    by_field (inl is) = inl (only-short-number w32 rest fault is)
    by_field (inr is) = by_length is.0 is.1 (fault-then ℕ (List ℕ × List ℕ) (length_of (cast_signed w32 is.0.0)) (λ len. bytes_at Short len is.0.1) fault is.2)

-- a text that isn't UTF-8
record BadText (rest : List ℕ) : Type 0 where
  pub text : List ℕ
  pub after : List ℕ
  pub read : block_at rest ≡ Ok (text, after)
  pub not_utf8 : is_utf8 text ≡ false

-- a text is refused as its bytes are, or for them
text-fault : (rest : List ℕ) (fault : ValueFault) → text_at rest ≡ Err fault → (block_at rest ≡ Err fault) ⊎ ((fault ≡ BadUtf8) × BadText rest)
unfolding text_at
text-fault rest fault e = by_block (fault-then (List ℕ × List ℕ) (List ℕ × List ℕ) (block_at rest) (λ text. if is_utf8 text.0 then Ok text else Err BadUtf8) fault e)
  where
    by_test : (text : List ℕ × List ℕ) → block_at rest ≡ Ok text → (if is_utf8 text.0 then Ok text else Err BadUtf8) ≡ Err fault → (b : Bool) → is_utf8 text.0 ≡ b → (fault ≡ BadUtf8) × BadText rest
    by_test text read judged true is =
        let no : Path (Result (List ℕ × List ℕ) ValueFault) (Ok text) (Err fault) = sym (ap (λ (b : Bool). if b then Ok text else Err BadUtf8) is) ∙ judged in
        absurd cc
    by_test text read judged false is =
        let found : Path (Result (List ℕ × List ℕ) ValueFault) (Err BadUtf8) (Err fault) = sym (ap (λ (b : Bool). if b then Ok text else Err BadUtf8) is) ∙ judged in
        (cc, record { text = text.0; after = text.1; read = read; not_utf8 = is })

    by_block : (block_at rest ≡ Err fault) ⊎ ((text : List ℕ × List ℕ) × (block_at rest ≡ Ok text) × ((if is_utf8 text.0 then Ok text else Err BadUtf8) ≡ Err fault)) → (block_at rest ≡ Err fault) ⊎ ((fault ≡ BadUtf8) × BadText rest)
    by_block (inl is) = inl is
    by_block (inr is) = inr (by_test is.0 is.1 is.2 (is_utf8 is.0.0) refl)

-- why a value of this kind is refused
abbrev PlainCause : Kind → List ℕ → ValueFault → Type 0
PlainCause kind rest Short = ⊤
PlainCause kind rest KindOut = ⊥
PlainCause kind rest BadUtf8 = (kind ≡ kinds.String) × BadText rest
PlainCause kind rest BadLength = ((kind ≡ kinds.String) ⊎ (kind ≡ kinds.ByteString)) × (AreBytes rest → BadField rest)

short-cause : (kind : Kind) (rest : List ℕ) (fault : ValueFault) → fault ≡ Short → PlainCause kind rest fault
short-cause kind rest fault e = subst (λ (f : ValueFault). PlainCause kind rest f) (sym e) tt

block-cause : (kind : Kind) (rest : List ℕ) (fault : ValueFault) → (kind ≡ kinds.String) ⊎ (kind ≡ kinds.ByteString) → block_at rest ≡ Err fault → PlainCause kind rest fault
block-cause kind rest fault counted e = elim (block-fault rest fault e) [ inl is ↦ short-cause kind rest fault is | inr is ↦ subst (λ (f : ValueFault). PlainCause kind rest f) (sym is.0) (counted, is.1) ]

text-cause : (rest : List ℕ) (fault : ValueFault) → text_at rest ≡ Err fault → PlainCause kinds.String rest fault
text-cause rest fault e = elim (text-fault rest fault e) [ inl is ↦ block-cause kinds.String rest fault (inl refl) is | inr is ↦ subst (λ (f : ValueFault). PlainCause kinds.String rest f) (sym is.0) (refl, is.1) ]

made-fault : (X : Type 0) (make : X → Value) (read : Result (X × List ℕ) ValueFault) (fault : ValueFault) → as_value make read ≡ Err fault → read ≡ Err fault
made-fault X make (Ok x) fault e = absurd cc
made-fault X make (Err first) fault e = let same : first ≡ fault = the_fault first e in ap Err same
  where
    the_fault : (first : ValueFault) → Path (Result (Value × List ℕ) ValueFault) (Err first) (Err fault) → first ≡ fault
    the_fault first e = cc

byte-cause : (kind : Kind) (make : ℕ → Value) (rest : List ℕ) (fault : ValueFault) → as_value make (byte_at Short rest) ≡ Err fault → PlainCause kind rest fault
byte-cause kind make rest fault e = short-cause kind rest fault (only-short-byte rest fault (made-fault ℕ make (byte_at Short rest) fault e))

number-cause : (kind : Kind) (w : Width) (make : ℕ → Value) (rest : List ℕ) (fault : ValueFault) → as_value make (number_at Short w rest) ≡ Err fault → PlainCause kind rest fault
number-cause kind w make rest fault e = short-cause kind rest fault (only-short-number w rest fault (made-fault ℕ make (number_at Short w rest) fault e))

plain-cause : (kind : Kind) (rest : List ℕ) (fault : ValueFault) → plain_at kind rest ≡ Err fault → PlainCause kind rest fault
plain-cause kinds.Boolean = byte-cause kinds.Boolean _
plain-cause kinds.SByte = byte-cause kinds.SByte _
plain-cause kinds.Byte = byte-cause kinds.Byte _
plain-cause kinds.Int16 = number-cause kinds.Int16 w16 _
plain-cause kinds.UInt16 = number-cause kinds.UInt16 w16 _
plain-cause kinds.Int32 = number-cause kinds.Int32 w32 _
plain-cause kinds.UInt32 = number-cause kinds.UInt32 w32 _
plain-cause kinds.Int64 = number-cause kinds.Int64 w64 _
plain-cause kinds.UInt64 = number-cause kinds.UInt64 w64 _
plain-cause kinds.Float = number-cause kinds.Float w32 _
plain-cause kinds.Double = number-cause kinds.Double w64 _
plain-cause kinds.String = λ rest fault e. text-cause rest fault (made-fault (List ℕ) _ (text_at rest) fault e)
plain-cause kinds.DateTime = number-cause kinds.DateTime w64 _
plain-cause kinds.Guid = λ rest fault e. short-cause kinds.Guid rest fault (only-short-bytes 16 rest fault (made-fault (List ℕ) _ (bytes_at Short 16 rest) fault e))
plain-cause kinds.ByteString = λ rest fault e. block-cause kinds.ByteString rest fault (inr refl) (made-fault (List ℕ) _ (block_at rest) fault e)
plain-cause kinds.StatusCode = number-cause kinds.StatusCode w32 _

-- why a Variant is refused
abbrev pub Cause : List ℕ → ValueFault → Type 0
Cause bytes Short = ⊤
Cause bytes KindOut = BeginsWithOtherType bytes
Cause bytes BadUtf8 = AreBytes bytes → BeginsWithBadText bytes
Cause bytes BadLength = AreBytes bytes → BeginsWithBadLength bytes

bad-text : (rest : List ℕ) → AreBytes rest → (b : BadText rest) → BeginsWithBadText (type_of kinds.String ∷ rest)
bad-text rest all b =
    let one = block_grammar.back rest b.after b.text all b.read in
    record {
      text = b.text;
      short = one.spells.short.at_most_256;
      not_utf8 = λ is. not_both (is_utf8-from_IsUtf8 b.text is);
      rest = b.after;
      split = ap (λ (l : List ℕ). type_of kinds.String ∷ l) (one.split ∙ ap (λ (l : List ℕ). l ++ b.after) (is_block one.text one.spells.spelled));
    }
  where
    not_both : is_utf8 b.text ≡ true → ⊥
    not_both is = let both : Path Bool true false = sym is ∙ b.not_utf8 in cc

    is_block : (text : List ℕ) → (text ≡ block b.text) ⊎ ((b.text ≡ []) × (text ≡ null)) → text ≡ block b.text
    is_block text (inl e) = e
    is_block text (inr e) = absurd (not_both (ap is_utf8 e.0 ∙ is_utf8-from_IsUtf8 [] IsUtf8-nil))

behind-type : (bytes rest : List ℕ) (kind : Kind) → bytes ≡ type_of kind ∷ rest → (fault : ValueFault) → PlainCause kind rest fault → Cause bytes fault
behind-type bytes rest kind e Short cause = tt
behind-type bytes rest kind e KindOut cause = absurd cause
behind-type bytes rest kind e BadUtf8 cause = λ all.
    let whole : bytes ≡ type_of kinds.String ∷ rest = e ∙ ap (λ (k : Kind). type_of k ∷ rest) cause.0 in
    subst BeginsWithBadText (sym whole) (bad-text rest (rest-bytes bytes (type_of kind ∷ []) rest all e) cause.1)
behind-type bytes rest kind e BadLength cause = λ all.
    let field = cause.1 (rest-bytes bytes (type_of kind ∷ []) rest all e) in
    record { kind = kind; counted = cause.0; len = field.len; field = field.field; bad = field.bad; rest = field.after; split = e ∙ ap (λ (l : List ℕ). type_of kind ∷ l) field.split }

pub variant-cause : (bytes : List ℕ) (fault : ValueFault) → variant_at bytes ≡ Err fault → Cause bytes fault
unfolding variant_at
variant-cause bytes fault e = by_kind (fault-then (Kind × List ℕ) (Value × List ℕ) (kind_at bytes) (λ kind. plain_at kind.0 kind.1) fault e)
  where
    by_type : (fault ≡ Short) ⊎ ((fault ≡ KindOut) × BeginsWithOtherType bytes) → Cause bytes fault
    by_type (inl is) = subst (Cause bytes) (sym is) tt
    by_type (inr is) = subst (Cause bytes) (sym is.0) is.1

    by_kind : (kind_at bytes ≡ Err fault) ⊎ ((kind : Kind × List ℕ) × (kind_at bytes ≡ Ok kind) × (plain_at kind.0 kind.1 ≡ Err fault)) → Cause bytes fault
    by_kind (inl is) = by_type (kind-fault bytes fault is)
    by_kind (inr is) = behind-type bytes is.0.1 is.0.0 (kind-split bytes is.0.1 is.0.0 is.1) fault (plain-cause is.0.0 is.0.1 fault is.2)

-- and each cause is refused so
pub other-type : (bytes : List ℕ) → BeginsWithOtherType bytes → variant_at bytes ≡ Err KindOut
unfolding variant_at kind_at
other-type bytes b = by_kind (kind_with b.number) refl
  where
    by_kind : (found : Option Kind) → kind_with b.number ≡ found → variant_at bytes ≡ Err KindOut
    by_kind None is = rw (b.split, is) refl
    by_kind (Some kind) is = absurd (b.other kind (type-of b.number kind is))

of-kind : (kind : Kind) (rest : List ℕ) (fault : ValueFault) → plain_at kind rest ≡ Err fault → variant_at (type_of kind ∷ rest) ≡ Err fault
unfolding variant_at
of-kind kind rest fault e = ap (λ (r : Result (Kind × List ℕ) ValueFault). r >>= λ k. plain_at k.0 k.1) (kind_read kind rest) ∙ e

bad-block : (len : ℤ) (rest : List ℕ) → FitsSigned w32 len → (len <ℤ negsuc 0) ⊎ (pos 256 <ℤ len) → block_at (to_le_bytes w32 (cast_unsigned w32 len) ++ rest) ≡ Err BadLength
unfolding block_at
bad-block len rest field bad =
    let small : cast_unsigned w32 len < 2 ^ 32 = omega (arith, ints) in
    let read = (number_grammar ValueFault Short w32 32 coded32).again (cast_unsigned w32 len) (to_le_bytes w32 (cast_unsigned w32 len)) rest (small, refl) in
    ap (λ (r : Result (ℕ × List ℕ) ValueFault). r >>= counted_at) read ∙ ap (λ (z : ℤ). length_of z >>= λ n. bytes_at Short n rest) (to_z-of_z w32 len field)
    ∙ ap (λ (r : Result ℕ ValueFault). r >>= λ n. bytes_at Short n rest) (bad-length len bad)

pub bad-length-read : (bytes : List ℕ) → BeginsWithBadLength bytes → variant_at bytes ≡ Err BadLength
unfolding text_at
bad-length-read bytes b = ap variant_at b.split ∙ by_kind b.counted
  where
    rest : List ℕ
    rest = to_le_bytes w32 (cast_unsigned w32 b.len) ++ b.rest

    refused : block_at rest ≡ Err BadLength
    refused = bad-block b.len b.rest b.field b.bad

    text_refused : text_at rest ≡ Err BadLength
    text_refused = ap (λ (r : Result (List ℕ × List ℕ) ValueFault). r >>= λ text. if is_utf8 text.0 then Ok text else Err BadUtf8) refused

    by_kind : (b.kind ≡ kinds.String) ⊎ (b.kind ≡ kinds.ByteString) → variant_at (type_of b.kind ∷ rest) ≡ Err BadLength
    by_kind (inl is) = of-kind b.kind rest BadLength (ap (λ (k : Kind). plain_at k rest) is ∙ ap (as_value String) text_refused)
    by_kind (inr is) = of-kind b.kind rest BadLength (ap (λ (k : Kind). plain_at k rest) is ∙ ap (as_value ByteString) refused)

block-read : (text rest : List ℕ) → length text ≤ 256 → block_at (block text ++ rest) ≡ Ok (text, rest)
unfolding block_at
block-read text rest short =
    let read = (number_grammar ValueFault Short w32 32 coded32).again (length text) (to_le_bytes w32 (length text)) (text ++ rest) (omega arith, refl) in
    ap (λ (r : Result (ℕ × List ℕ) ValueFault). r >>= counted_at) (ap (number_at Short w32) (append_assoc (to_le_bytes w32 (length text)) text rest) ∙ read)
    ∙ ap (λ (r : Result ℕ ValueFault). r >>= λ n. bytes_at Short n (text ++ rest)) (length-of (length text) short) ∙ bytes_again ValueFault Short (length text) text rest refl

pub bad-text-read : (bytes : List ℕ) → BeginsWithBadText bytes → variant_at bytes ≡ Err BadUtf8
unfolding text_at
bad-text-read bytes b = ap variant_at b.split ∙ of-kind kinds.String (block b.text ++ b.rest) BadUtf8 (ap (as_value String) (by_test (is_utf8 b.text) refl))
  where
    by_test : (t : Bool) → is_utf8 b.text ≡ t → text_at (block b.text ++ b.rest) ≡ Err BadUtf8
    by_test true is = absurd (b.not_utf8 (IsUtf8-from_is_utf8 b.text is))
    by_test false is =
        ap (λ (r : Result (List ℕ × List ℕ) ValueFault). r >>= λ text. if is_utf8 text.0 then Ok text else Err BadUtf8) (block-read b.text b.rest b.short)
        ∙ ap (λ (t : Bool). if t then Ok (b.text, b.rest) else Err BadUtf8) is

-- DataValues
pub reserved-refused : (mask : ℕ) (rest : List ℕ) → has mask 0xc0 ≡ true → data_value_at (mask ∷ rest) ≡ Err KindOut
unfolding data_value_at
reserved-refused mask rest e = ap (λ (b : Bool). if b then Err KindOut else parts_at mask rest) e

abbrev parts_after : ℕ → Option Value × List ℕ → Result (Measured × List ℕ) ValueFault
parts_after mask value =
    part_at (has mask 0x02) (number_at Short w32) value.1 >>= λ status. times_past mask status.1 >>= λ times. Ok (record { value = value.0; status = unwrap_or status.0 0 }, times.1)

only-short-after : (mask : ℕ) (value : Option Value × List ℕ) → OnlyShort (Measured × List ℕ) (parts_after mask value)
only-short-after mask value =
    only-short-then (Option ℕ × List ℕ) (Measured × List ℕ) (part_at (has mask 0x02) (number_at Short w32) value.1) (λ status. times_past mask status.1 >>= λ times. Ok (record { value = value.0; status = unwrap_or status.0 0 }, times.1))
    (only-short-part ℕ (has mask 0x02) (number_at Short w32) value.1 (only-short-number w32 value.1))
    (λ status. only-short-then (Unit {0} × List ℕ) (Measured × List ℕ) (times_past mask status.1) (λ times. Ok (record { value = value.0; status = unwrap_or status.0 0 }, times.1)) (only-short-times mask status.1)
    (λ times. only-short-ok (Measured × List ℕ) (record { value = value.0; status = unwrap_or status.0 0 }, times.1)))

value-part-fault : (flag : Bool) (rest : List ℕ) (fault : ValueFault) → part_at flag variant_at rest ≡ Err fault → (flag ≡ true) × (variant_at rest ≡ Err fault)
value-part-fault true rest fault e = (refl, by_value (variant_at rest) refl)
  where
    by_value : (r : Result (Value × List ℕ) ValueFault) → variant_at rest ≡ r → variant_at rest ≡ Err fault
    by_value (Ok value) is =
        let no : Path (Result (Option Value × List ℕ) ValueFault) (Ok (Some value.0, value.1)) (Err fault) = sym (ap (λ (r : Result (Value × List ℕ) ValueFault). r >>= λ part. Ok (Some part.0, part.1)) is) ∙ e in
        absurd cc
    by_value (Err first) is =
        let same : Path (Result (Option Value × List ℕ) ValueFault) (Err first) (Err fault) = sym (ap (λ (r : Result (Value × List ℕ) ValueFault). r >>= λ part. Ok (Some part.0, part.1)) is) ∙ e in
        let fault_is : first ≡ fault = cc in
        is ∙ ap Err fault_is
value-part-fault false rest fault e = absurd (let no : Path (Result (Option Value × List ℕ) ValueFault) (Ok (None, rest)) (Err fault) = e in cc)

pub data-value-fault : (mask : ℕ) (rest : List ℕ) (fault : ValueFault) → has mask 0xc0 ≡ false → fault ≢ Short → data_value_at (mask ∷ rest) ≡ Err fault → (has mask 0x01 ≡ true) × (variant_at rest ≡ Err fault)
unfolding data_value_at parts_at
data-value-fault mask rest fault clear other e =
    let parts : parts_at mask rest ≡ Err fault = sym (ap (λ (b : Bool). if b then Err KindOut else parts_at mask rest) clear) ∙ e in
    elim (fault-then (Option Value × List ℕ) (Measured × List ℕ) (part_at (has mask 0x01) variant_at rest) (parts_after mask) fault parts) [ inl is ↦ value-part-fault (has mask 0x01) rest fault is | inr is ↦ absurd (other (only-short-after mask is.0 fault is.2)) ]

pub data-value-refused : (mask : ℕ) (rest : List ℕ) (fault : ValueFault) → has mask 0xc0 ≡ false → has mask 0x01 ≡ true → variant_at rest ≡ Err fault → data_value_at (mask ∷ rest) ≡ Err fault
unfolding data_value_at parts_at
data-value-refused mask rest fault clear there e =
    ap (λ (b : Bool). if b then Err KindOut else parts_at mask rest) clear
    ∙ ap (λ (b : Bool). part_at b variant_at rest >>= parts_after mask) there
    ∙ ap (λ (r : Result (Value × List ℕ) ValueFault). (r >>= λ part. Ok (Some part.0, part.1)) >>= parts_after mask) e
