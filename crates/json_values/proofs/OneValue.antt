-- A JSON value stands for at most one value of a field.
use Rattle.std.proofs.Common.{◌≡◌, ℕ, Bool, true, false, List, Option, Some, None, refl, sym, ap, ◌∙◌, subst}
use Rattle.std.proofs.lemmas.Option.{same_Some}
use Rattle.std.specs.Fmt.{decimal, signed_decimal}
use Rattle.std.specs.Prelude.{codes}
use Rattle.serde_json.specs.Data.{Data}
use Rattle.serde_json.specs.Find.{get}
use Rattle.ua_values.specs.declared.kind.Kind.TheVariants as kinds
use Rattle.ua_values.specs.declared.value.Value.{Value}
use Rattle.ua_values.specs.declared.value.Value.TheVariants as values
use Rattle.ua_values.specs.Values.{kind_of, IsValue}
use Rattle.base64.specs.GeneralPurpose.{decode_of}
use Rattle.base64.specs.Engines.{standard}
use Rattle.value_texts.specs.Texts.{hex_text_32, hex_text_64, guid_text, value_text_of}
use Rattle.value_texts.proofs.OfKinds.{of_boolean, of_sbyte, of_byte, of_int16, of_uint16, of_int32, of_uint32, of_string, of_byte_string, of_status_code}
use Rattle.value_texts.proofs.TextLaws.{text_once}
use Rattle.dataset_meta.specs.declared.field.Field.{Field}
use Rattle.dataset_meta.specs.DataValues.{DataValue}
use Rattle.dataset_meta.proofs.SameLaws.{both}
use Rattle.json_values.specs.Spelled.{base64_text}
use Rattle.json_values.specs.Reading.{StandsFor, IsStatusAt, HasQuality, HasFieldJson, ReadsField}
use Rattle.json_values.proofs.Results.{same_ok}
use Rattle.json_values.proofs.Bytes.{base64_decodes}
use Rattle.json_values.proofs.Spelled.{spelled_every}

base64_once : (a b : List ℕ) → IsValue (values.ByteString a) → IsValue (values.ByteString b) → base64_text a ≡ base64_text b → a ≡ b
base64_once a b in_a in_b same =
    same_ok (decode_of standard (base64_text a)) a b (base64_decodes a in_a) (ap (decode_of standard) same ∙ base64_decodes b in_b)

-- two values of one kind that a JSON value stands for are one
pub stands_once : (d : Data) (one other : Value) → IsValue one → IsValue other → kind_of one ≡ kind_of other → StandsFor d one → StandsFor d other → one ≡ other
unfolding value_text_of
stands_once d (values.Boolean a) other valid right same is so =
    let o = of_boolean other (sym same) in
    ap values.Boolean (same_Some a o.0 (sym is ∙ subst (StandsFor d) o.1 so)) ∙ sym o.1
stands_once d (values.SByte a) other valid right same is so =
    let o = of_sbyte other (sym same) in
    ap values.SByte (same_Some a o.0 (sym is ∙ subst (StandsFor d) o.1 so)) ∙ sym o.1
stands_once d (values.Byte a) other valid right same is so =
    let o = of_byte other (sym same) in
    ap values.Byte (same_Some a o.0 (sym is ∙ subst (StandsFor d) o.1 so)) ∙ sym o.1
stands_once d (values.Int16 a) other valid right same is so =
    let o = of_int16 other (sym same) in
    ap values.Int16 (same_Some a o.0 (sym is ∙ subst (StandsFor d) o.1 so)) ∙ sym o.1
stands_once d (values.UInt16 a) other valid right same is so =
    let o = of_uint16 other (sym same) in
    ap values.UInt16 (same_Some a o.0 (sym is ∙ subst (StandsFor d) o.1 so)) ∙ sym o.1
stands_once d (values.Int32 a) other valid right same is so =
    let o = of_int32 other (sym same) in
    ap values.Int32 (same_Some a o.0 (sym is ∙ subst (StandsFor d) o.1 so)) ∙ sym o.1
stands_once d (values.UInt32 a) other valid right same is so =
    let o = of_uint32 other (sym same) in
    ap values.UInt32 (same_Some a o.0 (sym is ∙ subst (StandsFor d) o.1 so)) ∙ sym o.1
stands_once d (values.Int64 a) other valid right same is so =
    text_once (signed_decimal a) (values.Int64 a) other valid right same refl (spelled_every d (signed_decimal a) kinds.Int64 other refl (sym same) is so)
stands_once d (values.UInt64 a) other valid right same is so =
    text_once (decimal a) (values.UInt64 a) other valid right same refl (spelled_every d (decimal a) kinds.UInt64 other refl (sym same) is so)
stands_once d (values.Float a) other valid right same is so =
    text_once (hex_text_32 a) (values.Float a) other valid right same refl (spelled_every d (hex_text_32 a) kinds.Float other refl (sym same) is so)
stands_once d (values.Double a) other valid right same is so =
    text_once (hex_text_64 a) (values.Double a) other valid right same refl (spelled_every d (hex_text_64 a) kinds.Double other refl (sym same) is so)
stands_once d (values.String a) other valid right same is so =
    let o = of_string other (sym same) in
    ap values.String (same_Some a o.0 (sym is ∙ subst (StandsFor d) o.1 so)) ∙ sym o.1
stands_once d (values.DateTime a) other valid right same is so =
    text_once (signed_decimal a) (values.DateTime a) other valid right same refl (spelled_every d (signed_decimal a) kinds.DateTime other refl (sym same) is so)
stands_once d (values.Guid a) other valid right same is so =
    text_once (guid_text a) (values.Guid a) other valid right same refl (spelled_every d (guid_text a) kinds.Guid other refl (sym same) is so)
stands_once d (values.ByteString a) other valid right same is so =
    let o = of_byte_string other (sym same) in
    let texts : base64_text a ≡ base64_text o.0 = same_Some (base64_text a) (base64_text o.0) (sym is ∙ subst (StandsFor d) o.1 so) in
    ap values.ByteString (base64_once a o.0 valid (subst IsValue o.1 right) texts) ∙ sym o.1
stands_once d (values.StatusCode a) other valid right same is so =
    let o = of_status_code other (sym same) in
    ap values.StatusCode (same_Some a o.0 (sym is ∙ subst (StandsFor d) o.1 so)) ∙ sym o.1

status_once : (o : Option Data) (s t : ℕ) → IsStatusAt o s → IsStatusAt o t → s ≡ t
status_once None s t is so = is ∙ sym so
status_once (Some d) s t is so = same_Some s t (sym is ∙ so)

field_once : (quality : Bool) (d : Data) (x y : DataValue) → IsValue x.value → IsValue y.value → kind_of x.value ≡ kind_of y.value → HasFieldJson quality d x → HasFieldJson quality d y → x ≡ y
field_once false d x y valid right same is so =
    both x y (stands_once d x.value y.value valid right same is.0 so.0) (is.1 ∙ sym so.1)
field_once true d x y valid right same is so =
    let one : HasQuality d x = is in
    let other : HasQuality d y = so in
    let inner : other.inner ≡ one.inner = same_Some other.inner one.inner (sym other.here ∙ one.here) in
    both x y (stands_once one.inner x.value y.value valid right same one.value (subst (λ (j : Data). StandsFor j y.value) inner other.value))
    (status_once (get (codes "StatusCode") d) x.status y.status one.status other.status)

pub read_once : (quality : Bool) (field : Field) (d : Data) (x y : DataValue) → ReadsField quality field d x → ReadsField quality field d y → x ≡ y
read_once quality field d x y is so =
    field_once quality d x y is.fits.is_value so.fits.is_value (is.fits.fits.same_kind ∙ sym so.fits.fits.same_kind) is.stands so.stands
