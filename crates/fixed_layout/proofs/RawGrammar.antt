-- Rows of RawData are read of exactly what spells them.
use Rattle.std.proofs.Common.{◌≡◌, ℕ, zero, suc, ◌-◌, ◌<◌, ◌≤◌, ◌^◌, ◌⊎◌, inl, inr, Bool, true, false, cond, List, [], ◌∷◌, ◌++◌, length, take, drop, Some, Option, Result, Ok, Err, ℤ, pos, negsuc, refl, sym, ap, subst, ◌∙◌, append-nil, arith}
use Rattle.std.specs.Prelude.{nat_lt, get_or, if◌then◌else◌}
use Rattle.std.specs.Int.{w32, to_le_bytes, cast_signed, cast_unsigned}
use Rattle.std.specs.Str.{is_utf8, IsUtf8}
use Rattle.std.proofs.lemmas.Bool.{le-ltb, ltb-false}
use Rattle.std.proofs.lemmas.Int.{ints, to_z_pos, of_z-to_z}
use Rattle.std.proofs.lemmas.List.{nil_from_length}
use Rattle.std.proofs.lemmas.List.Elements.{All-cons}
use Rattle.std.proofs.lemmas.Str.{IsUtf8-from_is_utf8, is_utf8-from_IsUtf8}
use Rattle.ua_values.specs.declared.kind.Kind.{Kind}
use Rattle.ua_values.specs.declared.kind.Kind.TheVariants as kinds
use Rattle.ua_values.specs.declared.value.Value.{Value}
use Rattle.ua_values.specs.declared.value.Value.TheVariants as values
use Rattle.ua_values.specs.InPlace.{IsShort}
use Rattle.ua_values.specs.Values.{kind_of, size_of, IsValue}
use Rattle.ua_binary.specs.declared.fault.ValueFault.{ValueFault}
use Rattle.ua_binary.specs.Reading.{◌>>=◌, bytes_at, number_at}
use Rattle.ua_binary.specs.ReadingValues.{plain_at, variant_at}
use Rattle.ua_binary.specs.Spelling.{block}
use Rattle.ua_binary.specs.Types.{type_of, kind_with}
use Rattle.ua_binary.specs.Wire.{AreBytes, IsPart, Form, written, true_as, null, HasForm, WireValue, IsWireValue, plain_as, variant_as}
use Rattle.ua_binary.proofs.Blocks.{null as null_length}
use Rattle.ua_binary.proofs.Grammar.{IsGrammar, Joined, then_grammar, alone, Done, done_grammar, refused_grammar, same_grammar, Made, made_grammar}
use Rattle.ua_binary.proofs.Parts.{IsPartOf, bytes_grammar, IsNumber, number_grammar, coded32}
use Rattle.ua_binary.proofs.Values.{kind-with, kind_read, SpellsPlain, SpellsVariant, variant_grammar}
use Rattle.dataset_meta.specs.declared.field.Field.{Field}
use Rattle.dataset_meta.specs.DataValues.{DataValue}
use Rattle.dataset_meta.specs.Fields.{is_sized}
use Rattle.fixed_layout.specs.declared.fault.RawFault.{RawFault}
use Rattle.fixed_layout.specs.declared.fault.RawFault.TheVariants.{Short, BadLength, BadUtf8}
use Rattle.fixed_layout.specs.Reading.{length_within, raw_block_at, raw_text_at, filled_at, or_short, raw_value_at, raw_field_at, raw_row_at}
use Rattle.fixed_layout.specs.Spelling.{filling, good}
use Rattle.fixed_layout.specs.Wire.{WireRaw, IsWireRaw, wire_bytes, AreWireRaws, wires_bytes, row_read}

-- scalars and Guids are read as in Variants
typed : (kind : Kind) (bytes : List ℕ) → variant_at (type_of kind ∷ bytes) ≡ plain_at kind bytes
unfolding variant_at
typed kind bytes = ap (λ (r : Result (Kind × List ℕ) ValueFault). r >>= λ k. plain_at k.0 k.1) (kind_read kind bytes)

some_once : {A : Type 0} {x y : A} → Path (Option A) (Some x) (Some y) → x ≡ y
some_once e = cc

same_type : (one other : Kind) → type_of one ≡ type_of other → one ≡ other
same_type one other e = some_once (sym (kind-with one) ∙ ap kind_with e ∙ kind-with other)

type_small : (kind : Kind) → type_of kind < 256
type_small kinds.Boolean = omega arith
type_small kind = omega arith

as_variant : (kind : Kind) (value : Value) (text : List ℕ) → SpellsPlain kind value text → SpellsVariant value (type_of kind ∷ text)
as_variant kind value text s = record {
  wire = record { value = value; form = s.form };
  is_wire = s.is_wire;
  meaning = refl;
  spelled = ap (λ (k : Kind). type_of k ∷ text) (sym s.same_kind) ∙ ap (λ (l : List ℕ). type_of (kind_of value) ∷ l) s.spelled;
}

-- of a spelling behind its type
record BehindType (kind : Kind) (bytes : List ℕ) (value : Value) (rest : List ℕ) : Type 0 where
  pub form : Form
  pub is_wire : IsWireValue (record { value = value; form = form })
  pub same_kind : kind_of value ≡ kind
  pub split : bytes ≡ plain_as form value ++ rest

behind_type : (kind : Kind) (bytes rest : List ℕ) (wire : WireValue) (value : Value) → IsWireValue wire → wire.value ≡ value → type_of kind ∷ bytes ≡ variant_as wire ++ rest → BehindType kind bytes value rest
behind_type kind bytes rest wire value is meaning split =
    subst (λ (v : Value). BehindType kind bytes v rest) meaning (record {
      form = wire.form;
      is_wire = is;
      same_kind = sym (same_type kind (kind_of wire.value) (ap (λ (l : List ℕ). get_or l 0 0) split));
      split = ap (drop 1) split;
    })

or_short_ok : (r : Result (Value × List ℕ) ValueFault) (x : Value × List ℕ) → or_short r ≡ Ok x → r ≡ Ok x
or_short_ok (Ok y) x e = cc
or_short_ok (Err fault) x e = absurd (let no : Path (Result (Value × List ℕ) RawFault) (Err Short) (Ok x) = e in cc)

plain_grammar : (kind : Kind) → IsGrammar Value RawFault Short (SpellsPlain kind) (λ bytes. or_short (plain_at kind bytes))
plain_grammar kind = record {
  again = λ value text rest s. ap (λ (r : Result (Value × List ℕ) ValueFault). or_short r) (sym (typed kind (text ++ rest)) ∙ variant_grammar.again value (type_of kind ∷ text) rest (as_variant kind value text s));
  back = λ bytes rest value all e.
      let read = typed kind bytes ∙ or_short_ok (plain_at kind bytes) (value, rest) e in
      let one = variant_grammar.back (type_of kind ∷ bytes) rest value (All-cons (λ (b : ℕ). b < 256) (type_of kind) bytes (type_small kind) all) read in
      let b = behind_type kind bytes rest one.spells.wire value one.spells.is_wire one.spells.meaning (one.split ∙ ap (λ (l : List ℕ). l ++ rest) one.spells.spelled) in
      record { text = plain_as b.form value; spells = record { form = b.form; is_wire = b.is_wire; same_kind = b.same_kind; spelled = refl }; split = b.split };
  fewer = λ value text n s below.
      ap (λ (r : Result (Value × List ℕ) ValueFault). or_short r) (sym (typed kind (take n text)) ∙ variant_grammar.fewer value (type_of kind ∷ text) (suc n) (as_variant kind value text s) (omega (arith, below)));
}

-- a text or a blob of at most `cap` bytes behind its length
pub record SpellsBlock (cap : ℕ) (bytes text : List ℕ) : Type 0 where
  pub within : length bytes ≤ cap
  pub in_range : AreBytes bytes
  pub spelled : (text ≡ block bytes) ⊎ ((bytes ≡ []) × (text ≡ null_length))

record Counted (cap field : ℕ) (part text : List ℕ) : Type 0 where
  pub len : ℕ
  pub is_len : length_within cap (cast_signed w32 field) ≡ Ok len
  pub spells : IsPartOf len part text

counted_grammar : (cap field : ℕ) → IsGrammar (List ℕ) RawFault Short (Counted cap field) (λ bytes. length_within cap (cast_signed w32 field) >>= λ len. bytes_at Short len bytes)
counted_grammar cap field = by_length (length_within cap (cast_signed w32 field)) refl
  where
    by_length : (r : Result ℕ RawFault) → length_within cap (cast_signed w32 field) ≡ r → IsGrammar (List ℕ) RawFault Short (Counted cap field) (λ bytes. length_within cap (cast_signed w32 field) >>= λ len. bytes_at Short len bytes)
    by_length (Ok len) is =
        subst (λ (r : Result ℕ RawFault). IsGrammar (List ℕ) RawFault Short (Counted cap field) (λ bytes. r >>= λ n. bytes_at Short n bytes)) (sym is)
        (same_grammar (List ℕ) RawFault Short (IsPartOf len) (Counted cap field) (bytes_at Short len) (λ part text spells. record { len = len; is_len = is; spells = spells })
        (λ part text c. subst (λ (n : ℕ). IsPartOf n part text) (same_len c.len (sym c.is_len ∙ is)) c.spells) (bytes_grammar RawFault Short len))
      where
        same_len : (n : ℕ) → Path (Result ℕ RawFault) (Ok n) (Ok len) → n ≡ len
        same_len n e = cc
    by_length (Err fault) is =
        subst (λ (r : Result ℕ RawFault). IsGrammar (List ℕ) RawFault Short (Counted cap field) (λ bytes. r >>= λ n. bytes_at Short n bytes)) (sym is)
        (same_grammar (List ℕ) RawFault Short (λ part text. ⊥) (Counted cap field) (λ bytes. Err fault) (λ part text never. absurd never)
        (λ part text c. absurd (no c.len (sym c.is_len ∙ is))) (refused_grammar (List ℕ) RawFault Short fault))
      where
        no : (n : ℕ) → Path (Result ℕ RawFault) (Ok n) (Err fault) → ⊥
        no n e = cc

-- what a length that is taken says of its field
field-of : (cap field len : ℕ) → field < 2 ^ 32 → (z : ℤ) → cast_signed w32 field ≡ z → length_within cap z ≡ Ok len → ((field ≡ len) × (len ≤ cap)) ⊎ ((len ≡ 0) × (field ≡ 4294967295))
field-of cap field len below (pos n) is e = by_size (nat_lt cap n) refl
  where
    by_size : (b : Bool) → nat_lt cap n ≡ b → ((field ≡ len) × (len ≤ cap)) ⊎ ((len ≡ 0) × (field ≡ 4294967295))
    by_size true large =
        let no : Path (Result ℕ RawFault) (Err BadLength) (Ok len) = sym (ap (λ (b : Bool). if b then Err BadLength else Ok n) large) ∙ e in
        absurd cc
    by_size false small =
        let found : Path (Result ℕ RawFault) (Ok n) (Ok len) = sym (ap (λ (b : Bool). if b then Err BadLength else Ok n) small) ∙ e in
        let same : n ≡ len = cc in
        let at_most : n ≤ cap = ltb-false cap n small in
        let back : cast_unsigned w32 (pos n) ≡ field = ap (cast_unsigned w32) (sym is) ∙ of_z-to_z w32 field below in
        let small_field : pos n ≡ cast_signed w32 field = sym is in
        inl (omega (arith, ints), omega arith)
field-of cap field len below (negsuc zero) is e =
    let found : Path (Result ℕ RawFault) (Ok 0) (Ok len) = e in
    let same : 0 ≡ len = cc in
    let back : cast_unsigned w32 (negsuc 0) ≡ field = ap (cast_unsigned w32) (sym is) ∙ of_z-to_z w32 field below in
    inr (sym same, omega (arith, ints))
field-of cap field len below (negsuc (suc n)) is e = let no : Path (Result ℕ RawFault) (Err BadLength) (Ok len) = e in absurd cc

-- and the length that a field within the cap says
pub length-of : (cap n : ℕ) → cap ≤ 256 → n ≤ cap → length_within cap (cast_signed w32 n) ≡ Ok n
length-of cap n small short =
    let signed : cast_signed w32 n ≡ pos n = to_z_pos w32 n (omega arith) in
    ap (length_within cap) signed ∙ ap (λ b. cond b (Err BadLength) (Ok n)) (le-ltb cap n short)

pub block_grammar : (cap : ℕ) → cap ≤ 256 → IsGrammar (List ℕ) RawFault Short (SpellsBlock cap) (raw_block_at cap)
unfolding raw_block_at
block_grammar cap small =
    same_grammar (List ℕ) RawFault Short (Joined ℕ (List ℕ) (IsNumber w32 32) (Counted cap)) (SpellsBlock cap) (λ bytes. number_at Short w32 bytes >>= λ field. length_within cap (cast_signed w32 field.0) >>= λ len. bytes_at Short len field.1) there here
    (then_grammar ℕ (List ℕ) RawFault Short (IsNumber w32 32) (Counted cap) (number_at Short w32) (λ field bytes. length_within cap (cast_signed w32 field) >>= λ len. bytes_at Short len bytes) (number_grammar RawFault Short w32 32 coded32) (λ field text _. counted_grammar cap field))
  where
    there : (part text : List ℕ) → Joined ℕ (List ℕ) (IsNumber w32 32) (Counted cap) part text → SpellsBlock cap part text
    there part text j = by_field (field-of cap j.first j.spells.len j.spells_first.0 (cast_signed w32 j.first) refl j.spells.is_len)
      where
        whole : text ≡ to_le_bytes w32 j.first ++ part
        whole = j.split ∙ ap (λ (l : List ℕ). l ++ j.back) j.spells_first.1 ∙ ap (λ (l : List ℕ). to_le_bytes w32 j.first ++ l) j.spells.spells.1

        len_is : length part ≡ j.spells.len
        len_is = j.spells.spells.0.0

        by_field : ((j.first ≡ j.spells.len) × (j.spells.len ≤ cap)) ⊎ ((j.spells.len ≡ 0) × (j.first ≡ 4294967295)) → SpellsBlock cap part text
        by_field (inl is) = record { within = omega (arith, len_is, is.1); in_range = j.spells.spells.0.1; spelled = inl (whole ∙ ap (λ (n : ℕ). to_le_bytes w32 n ++ part) (is.0 ∙ sym len_is)) }
        by_field (inr is) =
            let nothing : part ≡ [] = nil_from_length part (len_is ∙ is.0) in
            record {
              within = omega (arith, len_is, is.0);
              in_range = j.spells.spells.0.1;
              spelled = inr (nothing, whole ∙ ap (λ (n : ℕ). to_le_bytes w32 n ++ part) is.1 ∙ ap (λ (l : List ℕ). null_length ++ l) nothing);
            }

    here : (part text : List ℕ) → SpellsBlock cap part text → Joined ℕ (List ℕ) (IsNumber w32 32) (Counted cap) part text
    here part text s = by_form s.spelled
      where
        by_form : (text ≡ block part) ⊎ ((part ≡ []) × (text ≡ null_length)) → Joined ℕ (List ℕ) (IsNumber w32 32) (Counted cap) part text
        by_form (inl is) = record {
          first = length part;
          front = to_le_bytes w32 (length part);
          back = part;
          spells_first = (omega (arith, s.within, small), refl);
          spells = record { len = length part; is_len = length-of cap (length part) small s.within; spells = ((refl, s.in_range), refl) };
          split = is;
        }
        by_form (inr is) = record {
          first = 4294967295;
          front = null_length;
          back = [];
          spells_first = (omega arith, refl);
          spells = record { len = 0; is_len = refl; spells = ((ap length is.0, s.in_range), sym is.0) };
          split = is.1;
        }

record SpellsText (cap : ℕ) (bytes text : List ℕ) : Type 0 where
  pub spells : SpellsBlock cap bytes text
  pub utf8 : IsUtf8 bytes

-- the bytes of a text are judged when all are there
Judged : List ℕ → List ℕ → List ℕ → Type 0
Judged bytes found text = (is_utf8 bytes ≡ true) × Done bytes found text

judged_grammar : (bytes : List ℕ) → IsGrammar (List ℕ) RawFault Short (Judged bytes) (λ rest. if is_utf8 bytes then Ok (bytes, rest) else Err BadUtf8)
unfolding Judged
judged_grammar bytes = by_test (is_utf8 bytes) refl
  where
    by_test : (b : Bool) → is_utf8 bytes ≡ b → IsGrammar (List ℕ) RawFault Short (Judged bytes) (λ rest. if is_utf8 bytes then Ok (bytes, rest) else Err BadUtf8)
    by_test true is =
        subst (λ (b : Bool). IsGrammar (List ℕ) RawFault Short (Judged bytes) (λ rest. if b then Ok (bytes, rest) else Err BadUtf8)) (sym is)
        (same_grammar (List ℕ) RawFault Short (Done bytes) (Judged bytes) (λ rest. Ok (bytes, rest)) (λ found text done. (is, done)) (λ found text j. j.1) (done_grammar (List ℕ) RawFault Short bytes))
    by_test false is =
        subst (λ (b : Bool). IsGrammar (List ℕ) RawFault Short (Judged bytes) (λ rest. if b then Ok (bytes, rest) else Err BadUtf8)) (sym is)
        (same_grammar (List ℕ) RawFault Short (λ found text. ⊥) (Judged bytes) (λ rest. Err BadUtf8) (λ found text never. absurd never) (λ found text j. absurd (let no : Path Bool false true = sym is ∙ j.0 in cc)) (refused_grammar (List ℕ) RawFault Short BadUtf8))

text_grammar : (cap : ℕ) → cap ≤ 256 → IsGrammar (List ℕ) RawFault Short (SpellsText cap) (raw_text_at cap)
unfolding raw_text_at Judged
text_grammar cap small =
    same_grammar (List ℕ) RawFault Short (Joined (List ℕ) (List ℕ) (SpellsBlock cap) Judged) (SpellsText cap) (λ bytes. raw_block_at cap bytes >>= λ text. if is_utf8 text.0 then Ok text else Err BadUtf8) there here
    (then_grammar (List ℕ) (List ℕ) RawFault Short (SpellsBlock cap) Judged (raw_block_at cap) (λ text rest. if is_utf8 text then Ok (text, rest) else Err BadUtf8) (block_grammar cap small) (λ bytes text _. judged_grammar bytes))
  where
    there : (bytes text : List ℕ) → Joined (List ℕ) (List ℕ) (SpellsBlock cap) Judged bytes text → SpellsText cap bytes text
    there bytes text j =
        subst (λ (found : List ℕ). SpellsText cap found text) (sym j.spells.1.0) (record { spells = subst (SpellsBlock cap j.first) (alone j.front j.back text j.split j.spells.1.1) j.spells_first; utf8 = IsUtf8-from_is_utf8 j.first j.spells.0 })

    here : (bytes text : List ℕ) → SpellsText cap bytes text → Joined (List ℕ) (List ℕ) (SpellsBlock cap) Judged bytes text
    here bytes text s = record { first = bytes; front = text; back = []; spells_first = s.spells; spells = (is_utf8-from_IsUtf8 bytes s.utf8, (refl, refl)); split = sym (append-nil text) }

-- what fills it up to its cap
abbrev Filled : ℕ → List ℕ → List ℕ → List ℕ → Type 0
Filled cap text = Made (List ℕ) (List ℕ) (IsPartOf (cap - length text)) (λ _. text)

abbrev FilledUp : ℕ → (List ℕ → List ℕ → Type 0) → List ℕ → List ℕ → Type 0
FilledUp cap S = Joined (List ℕ) (List ℕ) S (Filled cap)

filled_grammar : (cap : ℕ) (S : List ℕ → List ℕ → Type 0) (read : List ℕ → Result (List ℕ × List ℕ) RawFault) → IsGrammar (List ℕ) RawFault Short S read → IsGrammar (List ℕ) RawFault Short (FilledUp cap S) (λ bytes. read bytes >>= filled_at cap)
unfolding filled_at
filled_grammar cap S read is =
    then_grammar (List ℕ) (List ℕ) RawFault Short S (Filled cap) read (λ text rest. bytes_at Short (cap - length text) rest >>= λ filling. Ok (text, filling.1)) is
    (λ text _ _. made_grammar (List ℕ) (List ℕ) RawFault Short (IsPartOf (cap - length text)) (λ _. text) (bytes_at Short (cap - length text)) (bytes_grammar RawFault Short (cap - length text)))

-- a value of a field in one of its forms, with what fills it up
pub record SpellsValue (field : Field) (value : Value) (text : List ℕ) : Type 0 where
  pub raw : WireRaw
  pub is_raw : IsWireRaw field raw
  pub meaning : raw.wire.value ≡ value
  pub spelled : text ≡ wire_bytes raw

-- scalars and Guids have nothing behind them
unsized : (value : Value) → is_sized (kind_of value) ≡ false → (size_of value ≡ 0)
unsized (values.String text) is = absurd (let e : Path Bool true false = is in cc)
unsized (values.ByteString bytes) is = absurd (let e : Path Bool true false = is in cc)
unsized value is = refl

unfilled : (cap : ℕ) (value : Value) → is_sized (kind_of value) ≡ false → filling cap value ≡ 0
unfilled cap (values.String text) is = absurd (let e : Path Bool true false = is in cc)
unfilled cap (values.ByteString bytes) is = absurd (let e : Path Bool true false = is in cc)
unfilled cap value is = refl

plain_case : (field : Field) → is_sized field.kind ≡ false → IsGrammar Value RawFault Short (SpellsValue field) (λ bytes. or_short (plain_at field.kind bytes))
plain_case field is = same_grammar Value RawFault Short (SpellsPlain field.kind) (SpellsValue field) (λ bytes. or_short (plain_at field.kind bytes)) there here (plain_grammar field.kind)
  where
    there : (value : Value) (text : List ℕ) → SpellsPlain field.kind value text → SpellsValue field value text
    there value text s =
        let no_size : is_sized (kind_of value) ≡ false = ap is_sized s.same_kind ∙ is in
        record {
          raw = record { wire = record { value = value; form = s.form }; padding = [] };
          is_raw = record {
            is_wire = s.is_wire;
            fits = record { same_kind = s.same_kind; within = omega (arith, unsized value no_size) };
            padding = (sym (unfilled field.cap value no_size), λ i d below. absurd (omega arith));
          };
          meaning = refl;
          spelled = s.spelled ∙ sym (append-nil (plain_as s.form value));
        }

    here : (value : Value) (text : List ℕ) → SpellsValue field value text → SpellsPlain field.kind value text
    here value text s =
        let no_size : is_sized (kind_of s.raw.wire.value) ≡ false = ap is_sized s.is_raw.fits.same_kind ∙ is in
        let nothing : s.raw.padding ≡ [] = nil_from_length s.raw.padding (s.is_raw.padding.0 ∙ unfilled field.cap s.raw.wire.value no_size) in
        subst (λ (v : Value). SpellsPlain field.kind v text) s.meaning (record {
          form = s.raw.wire.form;
          is_wire = s.is_raw.is_wire;
          same_kind = s.is_raw.fits.same_kind;
          spelled = s.spelled ∙ ap (λ (l : List ℕ). plain_as s.raw.wire.form s.raw.wire.value ++ l) nothing ∙ append-nil (plain_as s.raw.wire.form s.raw.wire.value);
        })

-- texts
abbrev MadeText : ℕ → Value → List ℕ → Type 0
MadeText cap = Made (List ℕ) Value (FilledUp cap (SpellsText cap)) values.String

text_there : (field : Field) → field.kind ≡ kinds.String → field.cap ≤ 256 → (value : Value) (text : List ℕ) → MadeText field.cap value text → SpellsValue field value text
text_there field is small value text m = by_form m.spells.spells_first.spells.spelled
  where
    short : IsShort m.spells.first
    short = record { at_most_256 = omega (arith, m.spells.spells_first.spells.within, small); in_range = m.spells.spells_first.spells.in_range }

    found : Value
    found = values.String m.spells.first

    by_form : (m.spells.front ≡ block m.spells.first) ⊎ ((m.spells.first ≡ []) × (m.spells.front ≡ null_length)) → SpellsValue field value text
    by_form (inl e) = record {
      raw = record { wire = record { value = values.String m.spells.first; form = written }; padding = m.spells.spells.found };
      is_raw = record {
        is_wire = record { in_range = record { short = short; utf8 = m.spells.spells_first.utf8 }; has_form = tt };
        fits = record { same_kind = sym is; within = m.spells.spells_first.spells.within };
        padding = m.spells.spells.spells.0;
      };
      meaning = ap values.String (sym m.spells.spells.is) ∙ sym m.is;
      spelled = m.spells.split ∙ ap (λ (l : List ℕ). l ++ m.spells.back) e ∙ ap (λ (l : List ℕ). block m.spells.first ++ l) m.spells.spells.spells.1;
    }
    by_form (inr e) = record {
      raw = record { wire = record { value = values.String m.spells.first; form = null }; padding = m.spells.spells.found };
      is_raw = record {
        is_wire = record { in_range = record { short = short; utf8 = m.spells.spells_first.utf8 }; has_form = subst (λ (b : List ℕ). HasForm (values.String b) null) (sym e.0) tt };
        fits = record { same_kind = sym is; within = m.spells.spells_first.spells.within };
        padding = m.spells.spells.spells.0;
      };
      meaning = ap values.String (sym m.spells.spells.is) ∙ sym m.is;
      spelled = m.spells.split ∙ ap (λ (l : List ℕ). l ++ m.spells.back) e.1 ∙ ap (λ (l : List ℕ). null_length ++ l) m.spells.spells.spells.1;
    }

text_made : (cap : ℕ) (bytes front padding text : List ℕ) → SpellsText cap bytes front → IsPart (cap - length bytes) padding → text ≡ front ++ padding → MadeText cap (values.String bytes) text
text_made cap bytes front padding text spells part split = record {
  found = bytes;
  spells = record { first = bytes; front = front; back = padding; spells_first = spells; spells = record { found = padding; spells = (part, refl); is = refl }; split = split };
  is = refl;
}

text_here : (cap : ℕ) (value : Value) (form : Form) (padding text : List ℕ) → kind_of value ≡ kinds.String → IsValue value → HasForm value form → size_of value ≤ cap → IsPart (filling cap value) padding → text ≡ plain_as form value ++ padding
    → MadeText cap value text
text_here cap (values.String bytes) written padding text is range has within part split =
    text_made cap bytes (block bytes) padding text (record { spells = record { within = within; in_range = range.short.in_range; spelled = inl refl }; utf8 = range.utf8 }) part split
text_here cap (values.String []) null padding text is range has within part split =
    text_made cap [] null_length padding text (record { spells = record { within = within; in_range = range.short.in_range; spelled = inr (refl, refl) }; utf8 = range.utf8 }) part split
text_here cap (values.String (byte ∷ bytes)) null padding text is range has within part split = absurd has
text_here cap (values.String bytes) (true_as byte) padding text is range has within part split = absurd has
text_here cap value form padding text is range has within part split = absurd (let e : kind_of value ≡ kinds.String = is in cc)

text_case : (field : Field) → field.kind ≡ kinds.String → field.cap ≤ 256 → IsGrammar Value RawFault Short (SpellsValue field) (raw_value_at kinds.String field.cap)
text_case field is small =
    same_grammar Value RawFault Short (MadeText field.cap) (SpellsValue field) (raw_value_at kinds.String field.cap) (text_there field is small)
    (λ value text s. subst (λ (v : Value). MadeText field.cap v text) s.meaning
    (text_here field.cap s.raw.wire.value s.raw.wire.form s.raw.padding text (s.is_raw.fits.same_kind ∙ is) s.is_raw.is_wire.in_range s.is_raw.is_wire.has_form s.is_raw.fits.within s.is_raw.padding s.spelled))
    (made_grammar (List ℕ) Value RawFault Short (FilledUp field.cap (SpellsText field.cap)) values.String (λ bytes. raw_text_at field.cap bytes >>= filled_at field.cap)
    (filled_grammar field.cap (SpellsText field.cap) (raw_text_at field.cap) (text_grammar field.cap small)))

-- blobs
abbrev MadeBlob : ℕ → Value → List ℕ → Type 0
MadeBlob cap = Made (List ℕ) Value (FilledUp cap (SpellsBlock cap)) values.ByteString

blob_there : (field : Field) → field.kind ≡ kinds.ByteString → field.cap ≤ 256 → (value : Value) (text : List ℕ) → MadeBlob field.cap value text → SpellsValue field value text
blob_there field is small value text m = by_form m.spells.spells_first.spelled
  where
    short : IsShort m.spells.first
    short = record { at_most_256 = omega (arith, m.spells.spells_first.within, small); in_range = m.spells.spells_first.in_range }

    by_form : (m.spells.front ≡ block m.spells.first) ⊎ ((m.spells.first ≡ []) × (m.spells.front ≡ null_length)) → SpellsValue field value text
    by_form (inl e) = record {
      raw = record { wire = record { value = values.ByteString m.spells.first; form = written }; padding = m.spells.spells.found };
      is_raw = record {
        is_wire = record { in_range = short; has_form = tt };
        fits = record { same_kind = sym is; within = m.spells.spells_first.within };
        padding = m.spells.spells.spells.0;
      };
      meaning = ap values.ByteString (sym m.spells.spells.is) ∙ sym m.is;
      spelled = m.spells.split ∙ ap (λ (l : List ℕ). l ++ m.spells.back) e ∙ ap (λ (l : List ℕ). block m.spells.first ++ l) m.spells.spells.spells.1;
    }
    by_form (inr e) = record {
      raw = record { wire = record { value = values.ByteString m.spells.first; form = null }; padding = m.spells.spells.found };
      is_raw = record {
        is_wire = record { in_range = short; has_form = subst (λ (b : List ℕ). HasForm (values.ByteString b) null) (sym e.0) tt };
        fits = record { same_kind = sym is; within = m.spells.spells_first.within };
        padding = m.spells.spells.spells.0;
      };
      meaning = ap values.ByteString (sym m.spells.spells.is) ∙ sym m.is;
      spelled = m.spells.split ∙ ap (λ (l : List ℕ). l ++ m.spells.back) e.1 ∙ ap (λ (l : List ℕ). null_length ++ l) m.spells.spells.spells.1;
    }

blob_made : (cap : ℕ) (bytes front padding text : List ℕ) → SpellsBlock cap bytes front → IsPart (cap - length bytes) padding → text ≡ front ++ padding → MadeBlob cap (values.ByteString bytes) text
blob_made cap bytes front padding text spells part split = record {
  found = bytes;
  spells = record { first = bytes; front = front; back = padding; spells_first = spells; spells = record { found = padding; spells = (part, refl); is = refl }; split = split };
  is = refl;
}

blob_here : (cap : ℕ) (value : Value) (form : Form) (padding text : List ℕ) → kind_of value ≡ kinds.ByteString → IsValue value → HasForm value form → size_of value ≤ cap → IsPart (filling cap value) padding → text ≡ plain_as form value ++ padding
    → MadeBlob cap value text
blob_here cap (values.ByteString bytes) written padding text is range has within part split =
    blob_made cap bytes (block bytes) padding text (record { within = within; in_range = range.in_range; spelled = inl refl }) part split
blob_here cap (values.ByteString []) null padding text is range has within part split =
    blob_made cap [] null_length padding text (record { within = within; in_range = range.in_range; spelled = inr (refl, refl) }) part split
blob_here cap (values.ByteString (byte ∷ bytes)) null padding text is range has within part split = absurd has
blob_here cap (values.ByteString bytes) (true_as byte) padding text is range has within part split = absurd has
blob_here cap value form padding text is range has within part split = absurd (let e : kind_of value ≡ kinds.ByteString = is in cc)

blob_case : (field : Field) → field.kind ≡ kinds.ByteString → field.cap ≤ 256 → IsGrammar Value RawFault Short (SpellsValue field) (raw_value_at kinds.ByteString field.cap)
blob_case field is small =
    same_grammar Value RawFault Short (MadeBlob field.cap) (SpellsValue field) (raw_value_at kinds.ByteString field.cap) (blob_there field is small)
    (λ value text s. subst (λ (v : Value). MadeBlob field.cap v text) s.meaning
    (blob_here field.cap s.raw.wire.value s.raw.wire.form s.raw.padding text (s.is_raw.fits.same_kind ∙ is) s.is_raw.is_wire.in_range s.is_raw.is_wire.has_form s.is_raw.fits.within s.is_raw.padding s.spelled))
    (made_grammar (List ℕ) Value RawFault Short (FilledUp field.cap (SpellsBlock field.cap)) values.ByteString (λ bytes. raw_block_at field.cap bytes >>= filled_at field.cap)
    (filled_grammar field.cap (SpellsBlock field.cap) (raw_block_at field.cap) (block_grammar field.cap small)))

value_grammar : (field : Field) → field.cap ≤ 256 → IsGrammar Value RawFault Short (SpellsValue field) (raw_value_at field.kind field.cap)
value_grammar field small = by_kind field.kind refl
  where
    by_kind : (kind : Kind) → field.kind ≡ kind → IsGrammar Value RawFault Short (SpellsValue field) (raw_value_at kind field.cap)
    by_kind kinds.String is = text_case field is small
    by_kind kinds.ByteString is = blob_case field is small
    by_kind kind is = subst (λ (k : Kind). IsGrammar Value RawFault Short (SpellsValue field) (λ bytes. or_short (plain_at k bytes))) is (plain_case field (ap is_sized is))

-- a field
pub record SpellsField (field : Field) (x : DataValue) (text : List ℕ) : Type 0 where
  pub raw : WireRaw
  pub is_raw : IsWireRaw field raw
  pub meaning : good raw.wire.value ≡ x
  pub spelled : text ≡ wire_bytes raw

pub field_grammar : (field : Field) → field.cap ≤ 256 → IsGrammar DataValue RawFault Short (SpellsField field) (raw_field_at field)
unfolding raw_field_at
field_grammar field small =
    same_grammar DataValue RawFault Short (Made Value DataValue (SpellsValue field) good) (SpellsField field) (raw_field_at field)
    (λ x text m. record { raw = m.spells.raw; is_raw = m.spells.is_raw; meaning = ap good m.spells.meaning ∙ sym m.is; spelled = m.spells.spelled })
    (λ x text s. record { found = s.raw.wire.value; spells = record { raw = s.raw; is_raw = s.is_raw; meaning = refl; spelled = s.spelled }; is = sym s.meaning })
    (made_grammar Value DataValue RawFault Short (SpellsValue field) good (raw_value_at field.kind field.cap) (value_grammar field small))

-- one value for each field
pub record SpellsRow (fields : List Field) (row : List DataValue) (text : List ℕ) : Type 0 where
  pub raws : List WireRaw
  pub are_raws : AreWireRaws fields raws
  pub meaning : row_read raws ≡ row
  pub spelled : text ≡ wires_bytes raws

abbrev pub AreShort : List Field → Type 0
AreShort [] = Unit {0}
AreShort (field ∷ fields) = (field.cap ≤ 256) × AreShort fields

abbrev RowJoined : Field → List Field → List DataValue → List ℕ → Type 0
RowJoined field fields = Joined DataValue (List DataValue) (SpellsField field) (λ x. Made (List DataValue) (List DataValue) (SpellsRow fields) (λ row. x ∷ row))

row_there : (field : Field) (fields : List Field) (row : List DataValue) (text : List ℕ) → RowJoined field fields row text → SpellsRow (field ∷ fields) row text
row_there field fields row text j =
    let s = j.spells_first in
    let r = j.spells.spells in
    record {
      raws = s.raw ∷ r.raws;
      are_raws = (s.is_raw, r.are_raws);
      meaning = ap (λ (x : DataValue). x ∷ row_read r.raws) s.meaning ∙ ap (λ (l : List DataValue). j.first ∷ l) r.meaning ∙ sym j.spells.is;
      spelled = j.split ∙ ap (λ (l : List ℕ). l ++ j.back) s.spelled ∙ ap (λ (l : List ℕ). wire_bytes s.raw ++ l) r.spelled;
    }

row_here : (field : Field) (fields : List Field) (row : List DataValue) (text : List ℕ) (raws : List WireRaw) → AreWireRaws (field ∷ fields) raws → row_read raws ≡ row → text ≡ wires_bytes raws → RowJoined field fields row text
row_here field fields row text [] are meaning spelled = absurd are
row_here field fields row text (raw ∷ raws) are meaning spelled = record {
  first = good raw.wire.value;
  front = wire_bytes raw;
  back = wires_bytes raws;
  spells_first = record { raw = raw; is_raw = are.0; meaning = refl; spelled = refl };
  spells = record { found = row_read raws; spells = record { raws = raws; are_raws = are.1; meaning = refl; spelled = refl }; is = sym meaning };
  split = spelled;
}

none_here : (row : List DataValue) (text : List ℕ) (raws : List WireRaw) → AreWireRaws [] raws → row_read raws ≡ row → text ≡ wires_bytes raws → Done [] row text
none_here row text [] are meaning spelled = (sym meaning, spelled)
none_here row text (raw ∷ raws) are meaning spelled = absurd are

pub row_grammar : (fields : List Field) → AreShort fields → IsGrammar (List DataValue) RawFault Short (SpellsRow fields) (raw_row_at fields)
row_grammar [] are =
    same_grammar (List DataValue) RawFault Short (Done []) (SpellsRow []) (λ bytes. Ok ([], bytes))
    (λ row text d. record { raws = []; are_raws = tt; meaning = sym d.0; spelled = d.1 })
    (λ row text s. none_here row text s.raws s.are_raws s.meaning s.spelled)
    (done_grammar (List DataValue) RawFault Short [])
row_grammar (field ∷ fields) are =
    same_grammar (List DataValue) RawFault Short (RowJoined field fields) (SpellsRow (field ∷ fields)) (raw_row_at (field ∷ fields)) (row_there field fields)
    (λ row text s. row_here field fields row text s.raws s.are_raws s.meaning s.spelled)
    (then_grammar DataValue (List DataValue) RawFault Short (SpellsField field) (λ x. Made (List DataValue) (List DataValue) (SpellsRow fields) (λ row. x ∷ row)) (raw_field_at field) (λ x rest. raw_row_at fields rest >>= λ row. Ok (x ∷ row.0, row.1)) (field_grammar field are.0)
    (λ x _ _. made_grammar (List DataValue) (List DataValue) RawFault Short (SpellsRow fields) (λ row. x ∷ row) (raw_row_at fields) (row_grammar fields are.1)))
