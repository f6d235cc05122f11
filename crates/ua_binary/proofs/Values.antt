-- Variants are read as exactly what spells them.
use Rattle.std.proofs.Common.{◌≡◌, ℕ, zero, suc, ◌<◌, ◌^◌, ◌==◌, ◌⊎◌, inl, inr, Bool, true, false, cond, List, [], ◌∷◌, ◌++◌, length, take, Option, Some, None, Result, Ok, Err, ℤ, refl, sym, ap, subst, ◌∙◌, arith}
use Rattle.std.specs.Prelude.{FitsSigned, find, not}
use Rattle.std.specs.Int.{Width, w8, w16, w32, w64, to_le_bytes, cast_signed, cast_unsigned}
use Rattle.std.proofs.lemmas.Bool.{eqb-true}
use Rattle.std.proofs.lemmas.Int.{ints, to_z-of_z, of_z-to_z}
use Rattle.std.proofs.Math.Dec.{eqb-suc-zero}
use Rattle.ua_values.specs.declared.kind.Kind.{Kind}
use Rattle.ua_values.specs.declared.kind.Kind.TheVariants as kinds
use Rattle.ua_values.specs.declared.value.Value.{Value}
use Rattle.ua_values.specs.declared.value.Value.TheVariants.{Boolean, SByte, Byte, Int16, UInt16, Int32, UInt32, Int64, UInt64, Float, Double, String, DateTime, Guid, ByteString, StatusCode}
use Rattle.ua_values.specs.Values.{kind_of, IsValue}
use Rattle.ua_binary.specs.declared.fault.ValueFault.{ValueFault}
use Rattle.ua_binary.specs.declared.fault.ValueFault.TheVariants.{Short, KindOut}
use Rattle.ua_binary.specs.Reading.{◌>>=◌, byte_at, bytes_at, number_at}
use Rattle.ua_binary.specs.ReadingValues.{text_at, block_at, plain_at, kind_at, variant_at}
use Rattle.ua_binary.specs.Spelling.{plain, block}
use Rattle.ua_binary.specs.Types.{type_of, all_kinds, kind_with}
use Rattle.ua_binary.specs.Wire.{AreBytes, Form, written, true_as, null, HasForm, WireValue, IsWireValue, plain_as, variant_as}
use Rattle.ua_binary.proofs.Blocks.{SpellsBlock, block_grammar, SpellsText, text_grammar}
use Rattle.ua_binary.proofs.Grammar.{Spelled, IsGrammar, Joined, then_grammar, same_grammar, Made, made_grammar}
use Rattle.ua_binary.proofs.Parts.{IsByte, byte_grammar, IsPartOf, bytes_grammar, IsNumber, number_grammar, coded16, coded32, coded64}

-- what each kind's values are made of
abbrev MadePlain : Kind → Value → List ℕ → Type 0
MadePlain kinds.Boolean = Made ℕ Value IsByte (λ n. Boolean (not (n == 0)))
MadePlain kinds.SByte = Made ℕ Value IsByte (λ n. SByte (cast_signed w8 n))
MadePlain kinds.Byte = Made ℕ Value IsByte Byte
MadePlain kinds.Int16 = Made ℕ Value (IsNumber w16 16) (λ n. Int16 (cast_signed w16 n))
MadePlain kinds.UInt16 = Made ℕ Value (IsNumber w16 16) UInt16
MadePlain kinds.Int32 = Made ℕ Value (IsNumber w32 32) (λ n. Int32 (cast_signed w32 n))
MadePlain kinds.UInt32 = Made ℕ Value (IsNumber w32 32) UInt32
MadePlain kinds.Int64 = Made ℕ Value (IsNumber w64 64) (λ n. Int64 (cast_signed w64 n))
MadePlain kinds.UInt64 = Made ℕ Value (IsNumber w64 64) UInt64
MadePlain kinds.Float = Made ℕ Value (IsNumber w32 32) Float
MadePlain kinds.Double = Made ℕ Value (IsNumber w64 64) Double
MadePlain kinds.String = Made (List ℕ) Value SpellsText String
MadePlain kinds.DateTime = Made ℕ Value (IsNumber w64 64) (λ n. DateTime (cast_signed w64 n))
MadePlain kinds.Guid = Made (List ℕ) Value (IsPartOf 16) Guid
MadePlain kinds.ByteString = Made (List ℕ) Value SpellsBlock ByteString
MadePlain kinds.StatusCode = Made ℕ Value (IsNumber w32 32) StatusCode

byte_made : (make : ℕ → Value) → IsGrammar Value ValueFault Short (Made ℕ Value IsByte make) (λ bytes. byte_at Short bytes >>= λ x. Ok (make x.0, x.1))
byte_made make = made_grammar ℕ Value ValueFault Short IsByte make (byte_at Short) (byte_grammar ValueFault Short)

made16 : (make : ℕ → Value) → IsGrammar Value ValueFault Short (Made ℕ Value (IsNumber w16 16) make) (λ bytes. number_at Short w16 bytes >>= λ x. Ok (make x.0, x.1))
made16 make = made_grammar ℕ Value ValueFault Short (IsNumber w16 16) make (number_at Short w16) (number_grammar ValueFault Short w16 16 coded16)

made32 : (make : ℕ → Value) → IsGrammar Value ValueFault Short (Made ℕ Value (IsNumber w32 32) make) (λ bytes. number_at Short w32 bytes >>= λ x. Ok (make x.0, x.1))
made32 make = made_grammar ℕ Value ValueFault Short (IsNumber w32 32) make (number_at Short w32) (number_grammar ValueFault Short w32 32 coded32)

made64 : (make : ℕ → Value) → IsGrammar Value ValueFault Short (Made ℕ Value (IsNumber w64 64) make) (λ bytes. number_at Short w64 bytes >>= λ x. Ok (make x.0, x.1))
made64 make = made_grammar ℕ Value ValueFault Short (IsNumber w64 64) make (number_at Short w64) (number_grammar ValueFault Short w64 64 coded64)

made_plain_grammar : (kind : Kind) → IsGrammar Value ValueFault Short (MadePlain kind) (plain_at kind)
made_plain_grammar kinds.Boolean = byte_made (λ n. Boolean (not (n == 0)))
made_plain_grammar kinds.SByte = byte_made (λ n. SByte (cast_signed w8 n))
made_plain_grammar kinds.Byte = byte_made Byte
made_plain_grammar kinds.Int16 = made16 (λ n. Int16 (cast_signed w16 n))
made_plain_grammar kinds.UInt16 = made16 UInt16
made_plain_grammar kinds.Int32 = made32 (λ n. Int32 (cast_signed w32 n))
made_plain_grammar kinds.UInt32 = made32 UInt32
made_plain_grammar kinds.Int64 = made64 (λ n. Int64 (cast_signed w64 n))
made_plain_grammar kinds.UInt64 = made64 UInt64
made_plain_grammar kinds.Float = made32 Float
made_plain_grammar kinds.Double = made64 Double
made_plain_grammar kinds.String = made_grammar (List ℕ) Value ValueFault Short SpellsText String text_at text_grammar
made_plain_grammar kinds.DateTime = made64 (λ n. DateTime (cast_signed w64 n))
made_plain_grammar kinds.Guid = made_grammar (List ℕ) Value ValueFault Short (IsPartOf 16) Guid (bytes_at Short 16) (bytes_grammar ValueFault Short 16)
made_plain_grammar kinds.ByteString = made_grammar (List ℕ) Value ValueFault Short SpellsBlock ByteString block_at block_grammar
made_plain_grammar kinds.StatusCode = made32 StatusCode

-- a value of this kind in one of its forms
pub record SpellsPlain (kind : Kind) (value : Value) (text : List ℕ) : Type 0 where
  pub form : Form
  pub is_wire : IsWireValue (record { value = value; form = form })
  pub same_kind : kind_of value ≡ kind
  pub spelled : text ≡ plain_as form value

signed8 : (n : ℕ) → n < 256 → FitsSigned w8 (cast_signed w8 n)
signed8 n h = omega (arith, ints)

signed16 : (n : ℕ) → n < 2 ^ 16 → FitsSigned w16 (cast_signed w16 n)
signed16 n h = omega (arith, ints)

signed32 : (n : ℕ) → n < 2 ^ 32 → FitsSigned w32 (cast_signed w32 n)
signed32 n h = omega (arith, ints)

signed64 : (n : ℕ) → n < 2 ^ 64 → FitsSigned w64 (cast_signed w64 n)
signed64 n h = omega (arith, ints)

-- a value as it is written
as_written : (value : Value) (text : List ℕ) → IsValue value → text ≡ plain value → SpellsPlain (kind_of value) value text
as_written value text range e = record { form = written; is_wire = record { in_range = range; has_form = tt }; same_kind = refl; spelled = e }

-- a byte above 0 is true
above_0 : (n : ℕ) → 0 < n → Boolean true ≡ Boolean (not (n == 0))
above_0 zero h = absurd (omega arith)
above_0 (suc n) h = ap (λ (b : Bool). Boolean (not b)) (sym (eqb-suc-zero n))

flag_spelled : (n : ℕ) (text : List ℕ) → n < 256 → text ≡ n ∷ [] → SpellsPlain kinds.Boolean (Boolean (not (n == 0))) text
flag_spelled zero text small e = as_written (Boolean false) text tt e
flag_spelled (suc zero) text small e = as_written (Boolean true) text tt e
flag_spelled (suc (suc n)) text small e =
    subst (λ (v : Value). SpellsPlain kinds.Boolean v text) (above_0 (suc (suc n)) (omega arith)) (record { form = true_as (suc (suc n)); is_wire = record { in_range = tt; has_form = (omega arith, small) }; same_kind = refl; spelled = e })

text_spelled : (bytes text : List ℕ) → SpellsText bytes text → SpellsPlain kinds.String (String bytes) text
text_spelled bytes text s = by_form s.spells.spelled
  where
    by_form : (text ≡ block bytes) ⊎ ((bytes ≡ []) × (text ≡ plain_as null (String bytes))) → SpellsPlain kinds.String (String bytes) text
    by_form (inl e) = as_written (String bytes) text (record { short = s.spells.short; utf8 = s.utf8 }) e
    by_form (inr e) = record { form = null; is_wire = record { in_range = record { short = s.spells.short; utf8 = s.utf8 }; has_form = subst (λ (b : List ℕ). HasForm (String b) null) (sym e.0) tt }; same_kind = refl; spelled = e.1 }

blob_spelled : (bytes text : List ℕ) → SpellsBlock bytes text → SpellsPlain kinds.ByteString (ByteString bytes) text
blob_spelled bytes text s = by_form s.spelled
  where
    by_form : (text ≡ block bytes) ⊎ ((bytes ≡ []) × (text ≡ plain_as null (ByteString bytes))) → SpellsPlain kinds.ByteString (ByteString bytes) text
    by_form (inl e) = as_written (ByteString bytes) text s.short e
    by_form (inr e) = record { form = null; is_wire = record { in_range = s.short; has_form = subst (λ (b : List ℕ). HasForm (ByteString b) null) (sym e.0) tt }; same_kind = refl; spelled = e.1 }

-- what is made of one reading is spelled as it says
made_spelled : (A : Type 0) (S : A → List ℕ → Type 0) (make : A → Value) (kind : Kind) → ((a : A) (text : List ℕ) → S a text → SpellsPlain kind (make a) text) → (value : Value) (text : List ℕ) → Made A Value S make value text → SpellsPlain kind value text
made_spelled A S make kind each value text m = subst (λ (v : Value). SpellsPlain kind v text) (sym m.is) (each m.found text m.spells)

signed_again : (w : Width) (k n : ℕ) (text : List ℕ) → cast_unsigned w (cast_signed w n) ≡ n → text ≡ to_le_bytes w n → text ≡ to_le_bytes w (cast_unsigned w (cast_signed w n))
signed_again w k n text same e = e ∙ ap (to_le_bytes w) (sym same)

there : (kind : Kind) (value : Value) (text : List ℕ) → MadePlain kind value text → SpellsPlain kind value text
there kinds.Boolean = made_spelled ℕ IsByte _ kinds.Boolean (λ n text is. flag_spelled n text is.0 is.1)
there kinds.SByte = made_spelled ℕ IsByte _ kinds.SByte (λ n text is. as_written (SByte (cast_signed w8 n)) text (signed8 n is.0) (is.1 ∙ ap (λ (k : ℕ). k ∷ []) (sym (of_z-to_z w8 n is.0))))
there kinds.Byte = made_spelled ℕ IsByte _ kinds.Byte (λ n text is. as_written (Byte n) text is.0 is.1)
there kinds.Int16 = made_spelled ℕ (IsNumber w16 16) _ kinds.Int16 (λ n text is. as_written (Int16 (cast_signed w16 n)) text (signed16 n is.0) (signed_again w16 16 n text (of_z-to_z w16 n is.0) is.1))
there kinds.UInt16 = made_spelled ℕ (IsNumber w16 16) _ kinds.UInt16 (λ n text is. as_written (UInt16 n) text is.0 is.1)
there kinds.Int32 = made_spelled ℕ (IsNumber w32 32) _ kinds.Int32 (λ n text is. as_written (Int32 (cast_signed w32 n)) text (signed32 n is.0) (signed_again w32 32 n text (of_z-to_z w32 n is.0) is.1))
there kinds.UInt32 = made_spelled ℕ (IsNumber w32 32) _ kinds.UInt32 (λ n text is. as_written (UInt32 n) text is.0 is.1)
there kinds.Int64 = made_spelled ℕ (IsNumber w64 64) _ kinds.Int64 (λ n text is. as_written (Int64 (cast_signed w64 n)) text (signed64 n is.0) (signed_again w64 64 n text (of_z-to_z w64 n is.0) is.1))
there kinds.UInt64 = made_spelled ℕ (IsNumber w64 64) _ kinds.UInt64 (λ n text is. as_written (UInt64 n) text is.0 is.1)
there kinds.Float = made_spelled ℕ (IsNumber w32 32) _ kinds.Float (λ n text is. as_written (Float n) text is.0 is.1)
there kinds.Double = made_spelled ℕ (IsNumber w64 64) _ kinds.Double (λ n text is. as_written (Double n) text is.0 is.1)
there kinds.String = made_spelled (List ℕ) SpellsText _ kinds.String text_spelled
there kinds.DateTime = made_spelled ℕ (IsNumber w64 64) _ kinds.DateTime (λ n text is. as_written (DateTime (cast_signed w64 n)) text (signed64 n is.0) (signed_again w64 64 n text (of_z-to_z w64 n is.0) is.1))
there kinds.Guid = made_spelled (List ℕ) (IsPartOf 16) _ kinds.Guid (λ part text is. as_written (Guid part) text is.0 is.1)
there kinds.ByteString = made_spelled (List ℕ) SpellsBlock _ kinds.ByteString blob_spelled
there kinds.StatusCode = made_spelled ℕ (IsNumber w32 32) _ kinds.StatusCode (λ n text is. as_written (StatusCode n) text is.0 is.1)

fits8 : (z : ℤ) → FitsSigned w8 z → cast_unsigned w8 z < 256
fits8 z h = omega (arith, ints)

fits16 : (z : ℤ) → FitsSigned w16 z → cast_unsigned w16 z < 2 ^ 16
fits16 z h = omega (arith, ints)

fits32 : (z : ℤ) → FitsSigned w32 z → cast_unsigned w32 z < 2 ^ 32
fits32 z h = omega (arith, ints)

fits64 : (z : ℤ) → FitsSigned w64 z → cast_unsigned w64 z < 2 ^ 64
fits64 z h = omega (arith, ints)

here_written : (value : Value) (text : List ℕ) → IsValue value → text ≡ plain value → MadePlain (kind_of value) value text
here_written (Boolean true) text h e = record { found = 1; spells = (omega arith, e); is = refl }
here_written (Boolean false) text h e = record { found = 0; spells = (omega arith, e); is = refl }
here_written (SByte n) text h e = record { found = cast_unsigned w8 n; spells = (fits8 n h, e); is = ap SByte (sym (to_z-of_z w8 n h)) }
here_written (Byte n) text h e = record { found = n; spells = (h, e); is = refl }
here_written (Int16 n) text h e = record { found = cast_unsigned w16 n; spells = (fits16 n h, e); is = ap Int16 (sym (to_z-of_z w16 n h)) }
here_written (UInt16 n) text h e = record { found = n; spells = (h, e); is = refl }
here_written (Int32 n) text h e = record { found = cast_unsigned w32 n; spells = (fits32 n h, e); is = ap Int32 (sym (to_z-of_z w32 n h)) }
here_written (UInt32 n) text h e = record { found = n; spells = (h, e); is = refl }
here_written (Int64 n) text h e = record { found = cast_unsigned w64 n; spells = (fits64 n h, e); is = ap Int64 (sym (to_z-of_z w64 n h)) }
here_written (UInt64 n) text h e = record { found = n; spells = (h, e); is = refl }
here_written (Float n) text h e = record { found = n; spells = (h, e); is = refl }
here_written (Double n) text h e = record { found = n; spells = (h, e); is = refl }
here_written (String bytes) text h e = record { found = bytes; spells = record { spells = record { short = h.short; spelled = inl e }; utf8 = h.utf8 }; is = refl }
here_written (DateTime n) text h e = record { found = cast_unsigned w64 n; spells = (fits64 n h, e); is = ap DateTime (sym (to_z-of_z w64 n h)) }
here_written (Guid part) text h e = record { found = part; spells = (h, e); is = refl }
here_written (ByteString bytes) text h e = record { found = bytes; spells = record { short = h; spelled = inl e }; is = refl }
here_written (StatusCode n) text h e = record { found = n; spells = (h, e); is = refl }

here_as : (form : Form) (value : Value) (text : List ℕ) → IsValue value → HasForm value form → text ≡ plain_as form value → MadePlain (kind_of value) value text
here_as written value text h f e = here_written value text h e
here_as (true_as byte) (Boolean true) text h f e = record { found = byte; spells = (f.1, e); is = above_0 byte (omega (arith, f.0)) }
here_as null (String []) text h f e = record { found = []; spells = record { spells = record { short = h.short; spelled = inr (refl, e) }; utf8 = h.utf8 }; is = refl }
here_as null (ByteString []) text h f e = record { found = []; spells = record { short = h; spelled = inr (refl, e) }; is = refl }
here_as form value text h f e = absurd f

plain_grammar : (kind : Kind) → IsGrammar Value ValueFault Short (SpellsPlain kind) (plain_at kind)
plain_grammar kind =
    same_grammar Value ValueFault Short (MadePlain kind) (SpellsPlain kind) (plain_at kind) (there kind)
    (λ value text s. subst (λ (k : Kind). MadePlain k value text) s.same_kind (here_as s.form value text s.is_wire.in_range s.is_wire.has_form s.spelled)) (made_plain_grammar kind)

-- what a search finds passes its test
find_passes : (test : Kind → Bool) (kinds : List Kind) (kind : Kind) → find test kinds ≡ Some kind → test kind ≡ true
find_passes test [] kind e = absurd cc
find_passes test (first ∷ rest) kind e = by_test (find_passes test rest kind) (test first) refl
  where
    by_test : (find test rest ≡ Some kind → test kind ≡ true) → (b : Bool) → test first ≡ b → test kind ≡ true
    by_test later true is =
        let found : Path (Option Kind) (Some first) (Some kind) = sym (ap (λ (b : Bool). cond b (Some first) (find test rest)) is) ∙ e in
        let same : first ≡ kind = cc in
        subst (λ (k : Kind). test k ≡ true) same is
    by_test later false is = later (sym (ap (λ (b : Bool). cond b (Some first) (find test rest)) is) ∙ e)

pub type-of : (number : ℕ) (kind : Kind) → kind_with number ≡ Some kind → type_of kind ≡ number
type-of number kind e = eqb-true (type_of kind) number (find_passes (λ k. type_of k == number) all_kinds kind e)

pub kind-with : (kind : Kind) → kind_with (type_of kind) ≡ Some kind
kind-with kinds.Boolean = refl
kind-with kinds.SByte = refl
kind-with kinds.Byte = refl
kind-with kinds.Int16 = refl
kind-with kinds.UInt16 = refl
kind-with kinds.Int32 = refl
kind-with kinds.UInt32 = refl
kind-with kinds.Int64 = refl
kind-with kinds.UInt64 = refl
kind-with kinds.Float = refl
kind-with kinds.Double = refl
kind-with kinds.String = refl
kind-with kinds.DateTime = refl
kind-with kinds.Guid = refl
kind-with kinds.ByteString = refl
kind-with kinds.StatusCode = refl

type_small : (kind : Kind) → type_of kind < 256
type_small kinds.Boolean = omega arith
type_small kind = omega arith

abbrev pub SpellsKind : Kind → List ℕ → Type 0
SpellsKind kind text = text ≡ type_of kind ∷ []

pub kind_read : (kind : Kind) (rest : List ℕ) → kind_at (type_of kind ∷ rest) ≡ Ok (kind, rest)
unfolding kind_at
kind_read kind rest = rw (kind-with kind) refl

kind_grammar : IsGrammar Kind ValueFault Short SpellsKind kind_at
unfolding kind_at
kind_grammar = record { again = λ kind text rest e. ap (λ (l : List ℕ). kind_at (l ++ rest)) e ∙ kind_read kind rest; back = back; fewer = λ kind text n e below. few kind text n e below }
  where
    back : (bytes rest : List ℕ) (kind : Kind) → AreBytes bytes → kind_at bytes ≡ Ok (kind, rest) → Spelled Kind SpellsKind bytes kind rest
    back [] rest kind all e = absurd cc
    back (number ∷ more) rest kind all e = by_kind (kind_with number) refl
      where
        by_kind : (found : Option Kind) → kind_with number ≡ found → Spelled Kind SpellsKind (number ∷ more) kind rest
        by_kind None is =
            let no : Path (Result (Kind × List ℕ) ValueFault) (Err KindOut) (Ok (kind, rest)) = rw is at e in
            absurd cc
        by_kind (Some found) is =
            let read : Path (Result (Kind × List ℕ) ValueFault) (Ok (found, more)) (Ok (kind, rest)) = rw is at e in
            let pair : Path (Kind × List ℕ) (found, more) (kind, rest) = cc in
            let same : found ≡ kind = ap (λ (p : Kind × List ℕ). p.0) pair in
            let left : more ≡ rest = ap (λ (p : Kind × List ℕ). p.1) pair in
            let is_number : number ≡ type_of kind = sym (type-of number found is) ∙ ap type_of same in
            record { text = number ∷ []; spells = ap (λ (k : ℕ). k ∷ []) is_number; split = ap (λ (l : List ℕ). number ∷ l) left }

    few : (kind : Kind) (text : List ℕ) (n : ℕ) → text ≡ type_of kind ∷ [] → n < length text → kind_at (take n text) ≡ Err Short
    few kind text zero e below = refl
    few kind text (suc n) e below = absurd (omega (arith, ap length e))

-- a Variant in one of its forms
pub record SpellsVariant (value : Value) (text : List ℕ) : Type 0 where
  pub wire : WireValue
  pub is_wire : IsWireValue wire
  pub meaning : wire.value ≡ value
  pub spelled : text ≡ variant_as wire

pub variant_grammar : IsGrammar Value ValueFault Short SpellsVariant variant_at
unfolding variant_at
variant_grammar =
    same_grammar Value ValueFault Short (Joined Kind Value SpellsKind SpellsPlain) SpellsVariant (λ bytes. kind_at bytes >>= λ kind. plain_at kind.0 kind.1) join split
    (then_grammar Kind Value ValueFault Short SpellsKind SpellsPlain kind_at plain_at kind_grammar (λ kind text _. plain_grammar kind))
  where
    join : (value : Value) (text : List ℕ) → Joined Kind Value SpellsKind SpellsPlain value text → SpellsVariant value text
    join value text j = record {
      wire = record { value = value; form = j.spells.form };
      is_wire = j.spells.is_wire;
      meaning = refl;
      spelled = j.split ∙ ap (λ (l : List ℕ). l ++ j.back) j.spells_first ∙ ap (λ (l : List ℕ). type_of j.first ∷ l) j.spells.spelled
          ∙ ap (λ (k : Kind). type_of k ∷ plain_as j.spells.form value) (sym j.spells.same_kind);
    }

    split : (value : Value) (text : List ℕ) → SpellsVariant value text → Joined Kind Value SpellsKind SpellsPlain value text
    split value text s = subst (λ (v : Value). Joined Kind Value SpellsKind SpellsPlain v text) s.meaning (record {
      first = kind_of s.wire.value;
      front = type_of (kind_of s.wire.value) ∷ [];
      back = plain_as s.wire.form s.wire.value;
      spells_first = refl;
      spells = record { form = s.wire.form; is_wire = s.is_wire; same_kind = refl; spelled = refl };
      split = s.spelled;
    })
