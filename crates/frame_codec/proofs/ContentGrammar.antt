-- The fields of a message are read of exactly what spells them.
use Rattle.std.proofs.Common.{◌≡◌, ℕ, zero, suc, Bool, true, false, List, [], ◌∷◌, ◌++◌, length, Option, Some, None, Result, Ok, Err, refl, sym, ap, ◌∙◌, subst, append-nil, arith}
use Rattle.std.specs.Prelude.{IsSomeAnd, is_some, unwrap_or, ◌==◌, nat_le, if◌then◌else◌}
use Rattle.std.proofs.lemmas.Bool.{eqb-true, eq-eqb, le-leb, leb-true}
use Rattle.ua_values.specs.declared.kind.Kind.{Kind}
use Rattle.ua_values.specs.declared.kind.Kind.TheVariants as kinds
use Rattle.ua_values.specs.declared.value.Value.{Value}
use Rattle.ua_values.specs.Values.{Fits, kind_of, size_of, opening}
use Rattle.ua_binary.specs.declared.data_value.Measured.{Measured}
use Rattle.ua_binary.specs.Reading.{◌>>=◌}
use Rattle.ua_binary.specs.ReadingValues.{variant_at, data_value_at}
use Rattle.ua_binary.specs.Types.{type_of, kind_with}
use Rattle.ua_binary.proofs.Grammar.{IsGrammar, Joined, then_grammar, Done, done_grammar, same_grammar, Made, made_grammar, alone}
use Rattle.ua_binary.proofs.Values.{SpellsVariant, variant_grammar}
use Rattle.ua_binary.proofs.DataValues.{SpellsDataValue, data_value_grammar}
use Rattle.dataset_meta.specs.declared.field.Field.{Field}
use Rattle.dataset_meta.specs.DataValues.{DataValue}
use Rattle.frame_codec.specs.declared.fault.FrameFault.{FrameFault}
use Rattle.frame_codec.specs.declared.fault.FrameFault.TheVariants.{Short, BadValue}
use Rattle.frame_codec.specs.Contents.{in_frame, good, value_at, suits, kept, given, field_at, present, surplus_at, row_at, surpluses_at}
use Rattle.frame_codec.specs.Wire.{WireField, AsVariant, AsDataValue, IsWireField, field_bytes, field_read, wire_values_bytes, IsForField, AreValues, value_read, row_read}
use Rattle.frame_codec.proofs.Grammars.{Choice, either_grammar, judged_grammar, framed_grammar}
use Rattle.ua_binary.proofs.FlagTests.{both}

-- a value on the wire
pub record SpellsValue (encoding : ℕ) (measured : Measured) (text : List ℕ) : Type 0 where
  pub wire : WireField
  pub is_wire : IsWireField encoding wire
  pub meaning : field_read wire ≡ measured
  pub spelled : text ≡ field_bytes wire

EitherValue : ℕ → Measured → List ℕ → Type 0
EitherValue encoding measured text = Choice (encoding == 0) (Made Value Measured SpellsVariant good measured text) (SpellsDataValue measured text)

pub value_grammar : (encoding : ℕ) → IsGrammar Measured FrameFault Short (SpellsValue encoding) (value_at encoding)
unfolding EitherValue
value_grammar encoding =
    same_grammar Measured FrameFault Short (EitherValue encoding) (SpellsValue encoding) (value_at encoding) (λ measured text. there measured text (encoding == 0) refl) here
    (either_grammar Measured FrameFault Short (Made Value Measured SpellsVariant good) SpellsDataValue (encoding == 0) (λ bytes. in_frame (variant_at bytes) >>= λ value. Ok (good value.0, value.1)) (λ bytes. in_frame (data_value_at bytes))
    (λ _. made_grammar Value Measured FrameFault Short SpellsVariant good (λ bytes. in_frame (variant_at bytes)) (framed_grammar Value SpellsVariant variant_at variant_grammar))
    (λ _. framed_grammar Measured SpellsDataValue data_value_at data_value_grammar))
  where
    there : (measured : Measured) (text : List ℕ) (b : Bool) → (encoding == 0) ≡ b → Choice b (Made Value Measured SpellsVariant good measured text) (SpellsDataValue measured text) → SpellsValue encoding measured text
    there measured text true is s = record { wire = AsVariant s.spells.wire; is_wire = (is, s.spells.is_wire); meaning = ap good s.spells.meaning ∙ sym s.is; spelled = s.spells.spelled }
    there measured text false is s = record { wire = AsDataValue s.wire; is_wire = (is, s.is_wire); meaning = s.meaning; spelled = s.spelled }

    by_wire : (measured : Measured) (text : List ℕ) (wire : WireField) → IsWireField encoding wire → field_read wire ≡ measured → text ≡ field_bytes wire → EitherValue encoding measured text
    by_wire measured text (AsVariant wire) is meaning spelled =
        subst (λ (b : Bool). Choice b (Made Value Measured SpellsVariant good measured text) (SpellsDataValue measured text)) (sym is.0)
        (record { found = wire.value; spells = record { wire = wire; is_wire = is.1; meaning = refl; spelled = spelled }; is = sym meaning })
    by_wire measured text (AsDataValue wire) is meaning spelled =
        subst (λ (b : Bool). Choice b (Made Value Measured SpellsVariant good measured text) (SpellsDataValue measured text)) (sym is.0)
        (record { wire = wire; is_wire = is.1; meaning = meaning; spelled = spelled })

    here : (measured : Measured) (text : List ℕ) → SpellsValue encoding measured text → EitherValue encoding measured text
    here measured text s = by_wire measured text s.wire s.is_wire s.meaning s.spelled

-- what suits a field
kind_of_type : (kind : Kind) → kind_with (type_of kind) ≡ Some kind
kind_of_type kinds.Boolean = refl
kind_of_type kinds.SByte = refl
kind_of_type kinds.Byte = refl
kind_of_type kinds.Int16 = refl
kind_of_type kinds.UInt16 = refl
kind_of_type kinds.Int32 = refl
kind_of_type kinds.UInt32 = refl
kind_of_type kinds.Int64 = refl
kind_of_type kinds.UInt64 = refl
kind_of_type kinds.Float = refl
kind_of_type kinds.Double = refl
kind_of_type kinds.String = refl
kind_of_type kinds.DateTime = refl
kind_of_type kinds.Guid = refl
kind_of_type kinds.ByteString = refl
kind_of_type kinds.StatusCode = refl

some_once : {A : Type 0} {x y : A} → Path (Option A) (Some x) (Some y) → x ≡ y
some_once e = cc

same_type : (one other : Kind) → type_of one ≡ type_of other → one ≡ other
same_type one other e = some_once (sym (kind_of_type one) ∙ ap kind_with e ∙ kind_of_type other)

pub fits-suits : (field : Field) (value : Value) → suits field value ≡ true → Fits value field.kind field.cap
fits-suits field value e =
    let parts = both (type_of (kind_of value) == type_of field.kind) (nat_le (size_of value) field.cap) e in
    record {
      same_kind = same_type (kind_of value) field.kind (eqb-true (type_of (kind_of value)) (type_of field.kind) parts.0);
      within = leb-true (size_of value) field.cap parts.1;
    }

pub suits-fits : (field : Field) (value : Value) → Fits value field.kind field.cap → suits field value ≡ true
suits-fits field value fits =
    let same : (type_of (kind_of value) == type_of field.kind) ≡ true = eq-eqb (type_of (kind_of value)) (type_of field.kind) (ap type_of fits.same_kind) in
    let within : nat_le (size_of value) field.cap ≡ true = le-leb (size_of value) field.cap fits.within in
    rw (same, within) refl

ok_once : {A F : Type 0} {x y : A} → Path (Result A F) (Ok x) (Ok y) → x ≡ y
ok_once e = cc

no_ok : {A F : Type 0} {x : A} {fault : F} → Path (Result A F) (Err fault) (Ok x) → ⊥
no_ok e = cc

abbrev pub FitsSome : Field → Option Value → Type 0
FitsSome field value = IsSomeAnd value (λ v. Fits v field.kind field.cap)

given_ok : (quality : Bool) (field : Field) (value : Option Value) (status : ℕ) (x : DataValue) → given quality field value status ≡ Ok x
    → FitsSome field value × (x ≡ kept quality (unwrap_or value (opening field.kind)) status)
given_ok quality field None status x e = absurd (no_ok e)
given_ok quality field (Some value) status x e = by_suits (suits field value) refl e
  where
    by_suits : (b : Bool) → suits field value ≡ b → (if b then Ok (kept quality value status) else Err BadValue) ≡ Ok x → Fits value field.kind field.cap × (x ≡ kept quality value status)
    by_suits true is e = (fits-suits field value is, sym (ok_once e))
    by_suits false is e = absurd (no_ok e)

pub given_fits : (quality : Bool) (field : Field) (value : Option Value) (status : ℕ) → FitsSome field value → given quality field value status ≡ Ok (kept quality (unwrap_or value (opening field.kind)) status)
given_fits quality field None status fits = absurd fits
given_fits quality field (Some value) status fits = rw (suits-fits field value fits) refl

-- a field's value on the wire
pub record SpellsField (quality : Bool) (encoding : ℕ) (field : Field) (x : DataValue) (text : List ℕ) : Type 0 where
  pub wire : WireField
  pub is_for : IsForField encoding field wire
  pub meaning : value_read quality field wire ≡ x
  pub spelled : text ≡ field_bytes wire

GivenJoined : Bool → ℕ → Field → DataValue → List ℕ → Type 0
GivenJoined quality encoding field = Joined Measured DataValue (SpellsValue encoding) (λ m x text. (given quality field m.value m.status ≡ Ok x) × (text ≡ []))

pub field_grammar : (quality : Bool) (encoding : ℕ) (field : Field) → IsGrammar DataValue FrameFault Short (SpellsField quality encoding field) (field_at quality encoding field)
unfolding field_at GivenJoined
field_grammar quality encoding field =
    same_grammar DataValue FrameFault Short (GivenJoined quality encoding field) (SpellsField quality encoding field) (field_at quality encoding field) there here
    (then_grammar Measured DataValue FrameFault Short (SpellsValue encoding) (λ m x text. (given quality field m.value m.status ≡ Ok x) × (text ≡ [])) (value_at encoding) (λ m rest. given quality field m.value m.status >>= λ value. Ok (value, rest)) (value_grammar encoding)
    (λ m _ _. judged_grammar DataValue FrameFault Short (given quality field m.value m.status)))
  where
    there : (x : DataValue) (text : List ℕ) → GivenJoined quality encoding field x text → SpellsField quality encoding field x text
    there x text j =
        let s = j.spells_first in
        let ok = given_ok quality field j.first.value j.first.status x j.spells.0 in
        record {
          wire = s.wire;
          is_for = record { is_wire = s.is_wire; fits = subst (λ (m : Measured). FitsSome field m.value) (sym s.meaning) ok.0 };
          meaning = ap (λ (m : Measured). kept quality (unwrap_or m.value (opening field.kind)) m.status) s.meaning ∙ sym ok.1;
          spelled = sym (alone j.front j.back text j.split j.spells.1) ∙ s.spelled;
        }

    here : (x : DataValue) (text : List ℕ) → SpellsField quality encoding field x text → GivenJoined quality encoding field x text
    here x text s = record {
      first = field_read s.wire;
      front = text;
      back = [];
      spells_first = record { wire = s.wire; is_wire = s.is_for.is_wire; meaning = refl; spelled = s.spelled };
      spells = (given_fits quality field (field_read s.wire).value (field_read s.wire).status s.is_for.fits ∙ ap (λ (v : DataValue). Ok v) s.meaning, refl);
      split = sym (append-nil text);
    }

-- a surplus value
pub record SpellsSurplus (encoding : ℕ) (done : Unit {0}) (text : List ℕ) : Type 0 where
  pub wire : WireField
  pub is_wire : IsWireField encoding wire
  pub present : is_some (field_read wire).value ≡ true
  pub spelled : text ≡ field_bytes wire

present_ok : (value : Option Value) (done : Unit {0}) → present value ≡ Ok done → is_some value ≡ true
present_ok None done e = absurd (no_ok e)
present_ok (Some value) done e = refl

present_is : (value : Option Value) (done : Unit {0}) → is_some value ≡ true → present value ≡ Ok done
present_is None done is = absurd cc
present_is (Some value) done is = refl

PresentJoined : ℕ → Unit {0} → List ℕ → Type 0
PresentJoined encoding = Joined Measured (Unit {0}) (SpellsValue encoding) (λ m done text. (present m.value ≡ Ok done) × (text ≡ []))

pub surplus_grammar : (encoding : ℕ) → IsGrammar (Unit {0}) FrameFault Short (SpellsSurplus encoding) (surplus_at encoding)
unfolding surplus_at PresentJoined
surplus_grammar encoding =
    same_grammar (Unit {0}) FrameFault Short (PresentJoined encoding) (SpellsSurplus encoding) (surplus_at encoding) there here
    (then_grammar Measured (Unit {0}) FrameFault Short (SpellsValue encoding) (λ m done text. (present m.value ≡ Ok done) × (text ≡ [])) (value_at encoding) (λ m rest. present m.value >>= λ done. Ok (done, rest)) (value_grammar encoding)
    (λ m _ _. judged_grammar (Unit {0}) FrameFault Short (present m.value)))
  where
    there : (done : Unit {0}) (text : List ℕ) → PresentJoined encoding done text → SpellsSurplus encoding done text
    there done text j =
        let s = j.spells_first in
        record {
          wire = s.wire;
          is_wire = s.is_wire;
          present = ap (λ (m : Measured). is_some m.value) s.meaning ∙ present_ok j.first.value done j.spells.0;
          spelled = sym (alone j.front j.back text j.split j.spells.1) ∙ s.spelled;
        }

    here : (done : Unit {0}) (text : List ℕ) → SpellsSurplus encoding done text → PresentJoined encoding done text
    here done text s = record {
      first = field_read s.wire;
      front = text;
      back = [];
      spells_first = record { wire = s.wire; is_wire = s.is_wire; meaning = refl; spelled = s.spelled };
      spells = (present_is (field_read s.wire).value done s.present, refl);
      split = sym (append-nil text);
    }

-- one value for each field
AreFields : ℕ → List Field → List WireField → Type 0
AreFields encoding fields values = AreValues false encoding fields values

pub record SpellsRow (quality : Bool) (encoding : ℕ) (fields : List Field) (row : List DataValue) (text : List ℕ) : Type 0 where
  pub values : List WireField
  pub are : AreValues false encoding fields values
  pub meaning : row_read quality fields values ≡ row
  pub spelled : text ≡ wire_values_bytes values

RestJoined : Bool → ℕ → List Field → DataValue → List DataValue → List ℕ → Type 0
RestJoined quality encoding fields x = Joined (List DataValue) (List DataValue) (SpellsRow quality encoding fields) (λ row. Done (x ∷ row))

RowJoined : Bool → ℕ → Field → List Field → List DataValue → List ℕ → Type 0
RowJoined quality encoding field fields = Joined DataValue (List DataValue) (SpellsField quality encoding field) (RestJoined quality encoding fields)

row_there : (quality : Bool) (encoding : ℕ) (field : Field) (fields : List Field) (row : List DataValue) (text : List ℕ) → RowJoined quality encoding field fields row text → SpellsRow quality encoding (field ∷ fields) row text
unfolding RestJoined RowJoined
row_there quality encoding field fields row text j =
    let s = j.spells_first in
    let r = j.spells.spells_first in
    record {
      values = s.wire ∷ r.values;
      are = (s.is_for, r.are);
      meaning = ap (λ (x : DataValue). x ∷ row_read quality fields r.values) s.meaning ∙ ap (λ (xs : List DataValue). j.first ∷ xs) r.meaning ∙ sym j.spells.spells.0;
      spelled = j.split ∙ ap (λ (l : List ℕ). l ++ j.back) s.spelled ∙ ap (λ (l : List ℕ). field_bytes s.wire ++ l) (sym (alone j.spells.front j.spells.back j.back j.spells.split j.spells.spells.1) ∙ r.spelled);
    }

row_here : (quality : Bool) (encoding : ℕ) (field : Field) (fields : List Field) (row : List DataValue) (text : List ℕ) (values : List WireField) → AreValues false encoding (field ∷ fields) values
    → row_read quality (field ∷ fields) values ≡ row → text ≡ wire_values_bytes values → RowJoined quality encoding field fields row text
unfolding RestJoined RowJoined
row_here quality encoding field fields row text [] are meaning spelled = absurd are
row_here quality encoding field fields row text (wire ∷ values) are meaning spelled = record {
  first = value_read quality field wire;
  front = field_bytes wire;
  back = wire_values_bytes values;
  spells_first = record { wire = wire; is_for = are.0; meaning = refl; spelled = refl };
  spells = record {
    first = row_read quality fields values;
    front = wire_values_bytes values;
    back = [];
    spells_first = record { values = values; are = are.1; meaning = refl; spelled = refl };
    spells = (sym meaning, refl);
    split = sym (append-nil (wire_values_bytes values));
  };
  split = spelled;
}

no_values : (encoding : ℕ) (values : List WireField) → AreValues false encoding [] values → values ≡ []
no_values encoding [] are = refl
no_values encoding (wire ∷ values) are = absurd (let e : Path Bool false true = are.0.grown in cc)

pub row_grammar : (quality : Bool) (encoding : ℕ) (fields : List Field) → IsGrammar (List DataValue) FrameFault Short (SpellsRow quality encoding fields) (row_at quality encoding fields)
unfolding RestJoined RowJoined
row_grammar quality encoding [] =
    same_grammar (List DataValue) FrameFault Short (Done []) (SpellsRow quality encoding []) (λ bytes. Ok ([], bytes)) (λ row text d. record { values = []; are = tt; meaning = sym d.0; spelled = d.1 })
    (λ row text s. (sym s.meaning, s.spelled ∙ ap wire_values_bytes (no_values encoding s.values s.are))) (done_grammar (List DataValue) FrameFault Short [])
row_grammar quality encoding (field ∷ fields) =
    same_grammar (List DataValue) FrameFault Short (RowJoined quality encoding field fields) (SpellsRow quality encoding (field ∷ fields)) (row_at quality encoding (field ∷ fields)) (row_there quality encoding field fields)
    (λ row text s. row_here quality encoding field fields row text s.values s.are s.meaning s.spelled)
    (then_grammar DataValue (List DataValue) FrameFault Short (SpellsField quality encoding field) (RestJoined quality encoding fields) (field_at quality encoding field) (λ x rest. row_at quality encoding fields rest >>= λ row. Ok (x ∷ row.0, row.1)) (field_grammar quality encoding field)
    (λ x _ _. then_grammar (List DataValue) (List DataValue) FrameFault Short (SpellsRow quality encoding fields) (λ row. Done (x ∷ row)) (row_at quality encoding fields) (λ row rest. Ok (x ∷ row, rest)) (row_grammar quality encoding fields)
    (λ row _ _. done_grammar (List DataValue) FrameFault Short (x ∷ row))))

-- so many surplus values
AreSurplus : ℕ → List WireField → Type 0
AreSurplus encoding values = AreValues true encoding [] values

pub record SpellsSurpluses (encoding count : ℕ) (done : Unit {0}) (text : List ℕ) : Type 0 where
  pub values : List WireField
  pub counted : length values ≡ count
  pub are : AreValues true encoding [] values
  pub spelled : text ≡ wire_values_bytes values

surpluses_here : (encoding count : ℕ) (done : Unit {0}) (text : List ℕ) (values : List WireField) → length values ≡ suc count → AreValues true encoding [] values → text ≡ wire_values_bytes values
    → Joined (Unit {0}) (Unit {0}) (SpellsSurplus encoding) (λ _. SpellsSurpluses encoding count) done text
surpluses_here encoding count done text [] counted are spelled = absurd (omega (arith, counted))
surpluses_here encoding count done text (wire ∷ values) counted are spelled = record {
  first = tt;
  front = field_bytes wire;
  back = wire_values_bytes values;
  spells_first = record { wire = wire; is_wire = are.0.is_wire; present = are.0.present; spelled = refl };
  spells = record { values = values; counted = omega (arith, counted); are = are.1; spelled = refl };
  split = spelled;
}

none_left : (values : List WireField) → length values ≡ 0 → values ≡ []
none_left [] none = refl
none_left (wire ∷ values) none = absurd (omega (arith, none))

pub surpluses_grammar : (encoding count : ℕ) → IsGrammar (Unit {0}) FrameFault Short (SpellsSurpluses encoding count) (surpluses_at encoding count)
surpluses_grammar encoding zero =
    same_grammar (Unit {0}) FrameFault Short (Done tt) (SpellsSurpluses encoding 0) (λ bytes. Ok (tt, bytes)) (λ done text d. record { values = []; counted = refl; are = tt; spelled = d.1 })
    (λ done text s. (refl, s.spelled ∙ ap wire_values_bytes (none_left s.values s.counted))) (done_grammar (Unit {0}) FrameFault Short tt)
surpluses_grammar encoding (suc count) =
    same_grammar (Unit {0}) FrameFault Short (Joined (Unit {0}) (Unit {0}) (SpellsSurplus encoding) (λ _. SpellsSurpluses encoding count)) (SpellsSurpluses encoding (suc count)) (surpluses_at encoding (suc count)) there
    (λ done text s. surpluses_here encoding count done text s.values s.counted s.are s.spelled)
    (then_grammar (Unit {0}) (Unit {0}) FrameFault Short (SpellsSurplus encoding) (λ _. SpellsSurpluses encoding count) (surplus_at encoding) (λ _ rest. surpluses_at encoding count rest) (surplus_grammar encoding) (λ _ _ _. surpluses_grammar encoding count))
  where
    there : (done : Unit {0}) (text : List ℕ) → Joined (Unit {0}) (Unit {0}) (SpellsSurplus encoding) (λ _. SpellsSurpluses encoding count) done text → SpellsSurpluses encoding (suc count) done text
    there done text j = record {
      values = j.spells_first.wire ∷ j.spells.values;
      counted = ap suc j.spells.counted;
      are = (record { grown = refl; is_wire = j.spells_first.is_wire; present = j.spells_first.present }, j.spells.are);
      spelled = j.split ∙ ap (λ (l : List ℕ). l ++ j.back) j.spells_first.spelled ∙ ap (λ (l : List ℕ). field_bytes j.spells_first.wire ++ l) j.spells.spelled;
    }
