-- What is read fits: the values their fields, and the numbers their widths.
use Rattle.std.proofs.Common.{◌≡◌, ℕ, zero, suc, ◌<◌, ◌≤◌, ◌^◌, Bool, true, false, List, [], ◌∷◌, length, get_or, Option, Some, None, refl, sym, subst, arith}
use Rattle.std.specs.Prelude.{IfSome, IsSomeAnd, unwrap_or, nat_lt, slice_get, if◌then◌else◌}
use Rattle.std.proofs.lemmas.Bool.{ltb-true, ltb-false}
use Rattle.ua_values.specs.Values.{Fits, opening}
use Rattle.ua_binary.specs.Wire.{WireValue, IsWireValue, value_in}
use Rattle.dataset_meta.specs.declared.field.Field.{Field}
use Rattle.dataset_meta.specs.DataValues.{DataValue, IsStatus, FitsField}
use Rattle.dataset_meta.specs.Metas.{MetaData}
use Rattle.dataset_meta.specs.Rows.{IsRowOf, IsPatchFrom}
use Rattle.dataset_meta.proofs.ChangeLaws.{IsPatch-put}
use Rattle.frame_codec.specs.Frames.{IsContent, IsFrame}
use Rattle.frame_codec.specs.Contents.{kept}
use Rattle.frame_codec.specs.Wire.{WireField, AsVariant, AsDataValue, IsWireField, field_read, WireContent, Key, Delta, KeepAlive, IsForField, IsFor, AreValues, AreChanges, IsWireContent, value_read, row_read, put_read, patch_read, content_read, WireFrame, IsWireFrame, frame_read}

kept_status : (quality : Bool) (status : ℕ) → status < 2 ^ 32 → IsStatus quality (if quality then status else 0)
kept_status true status small = small
kept_status false status small = refl

kept_fits : (quality : Bool) (field : Field) (value : Option WireValue) (status : Option ℕ) → IfSome value IsWireValue → IfSome status (λ code. code < 2 ^ 32) → IsSomeAnd (value_in value) (λ v. Fits v field.kind field.cap)
    → FitsField quality field (kept quality (unwrap_or (value_in value) (opening field.kind)) (unwrap_or status 0))
kept_fits quality field None status is small fits = absurd fits
kept_fits quality field (Some wire) None is small fits = record { is_value = is.in_range; fits = fits; is_status = kept_status quality 0 (omega arith) }
kept_fits quality field (Some wire) (Some code) is small fits = record { is_value = is.in_range; fits = fits; is_status = kept_status quality code small }

value_fits : (quality : Bool) (encoding : ℕ) (field : Field) (wire : WireField) → IsWireField encoding wire → IsSomeAnd (field_read wire).value (λ v. Fits v field.kind field.cap) → FitsField quality field (value_read quality field wire)
value_fits quality encoding field (AsVariant wire) is fits = record { is_value = is.1.in_range; fits = fits; is_status = kept_status quality 0 (omega arith) }
value_fits quality encoding field (AsDataValue wire) is fits = kept_fits quality field wire.value wire.status is.1.value is.1.status fits

row_fits : (newer quality : Bool) (encoding : ℕ) (fields : List Field) (values : List WireField) → AreValues newer encoding fields values → IsRowOf quality fields (row_read quality fields values)
row_fits newer quality encoding [] values are = tt
row_fits newer quality encoding (field ∷ fields) [] are = absurd are
row_fits newer quality encoding (field ∷ fields) (wire ∷ values) are = (value_fits quality encoding field wire are.0.is_wire are.0.fits, row_fits newer quality encoding fields values are.1)

-- an index among the fields, or past them
get_there : (fields : List Field) (index : ℕ) → index < length fields → (d : Field) → slice_get fields index ≡ Some (get_or fields index d)
get_there [] index within d = absurd (omega arith)
get_there (field ∷ fields) zero within d = refl
get_there (field ∷ fields) (suc index) within d = get_there fields index (omega arith) d

get_past : (fields : List Field) (index : ℕ) → length fields ≤ index → slice_get fields index ≡ None
get_past [] index past = refl
get_past (field ∷ fields) zero past = absurd (omega arith)
get_past (field ∷ fields) (suc index) past = get_past fields index (omega arith)

same_at : (fields : List Field) (index : ℕ) (d e : Field) → index < length fields → get_or fields index d ≡ get_or fields index e
same_at [] index d e within = absurd (omega arith)
same_at (field ∷ fields) zero d e within = refl
same_at (field ∷ fields) (suc index) d e within = same_at fields index d e (omega arith)

some_field : (fields : List Field) (index : ℕ) → index < length fields → Field
some_field [] index within = absurd (omega arith)
some_field (field ∷ fields) index within = field

put_fits : (newer quality : Bool) (encoding : ℕ) (fields : List Field) (patch : List (ℕ × DataValue)) (index : ℕ) (wire : WireField) → IsPatchFrom 0 quality fields patch → IsFor newer encoding (slice_get fields index) wire
    → (b : Bool) → nat_lt index (length fields) ≡ b → IsPatchFrom 0 quality fields (put_read quality patch index (slice_get fields index) wire)
put_fits newer quality encoding fields patch index wire is is_for true test =
    let within : index < length fields = ltb-true index (length fields) test in
    let field : Field = get_or fields index (some_field fields index within) in
    let at : slice_get fields index ≡ Some field = get_there fields index within (some_field fields index within) in
    let for_field : IsForField encoding field wire = subst (λ (o : Option Field). IsFor newer encoding o wire) at is_for in
    let fits : FitsField quality field (value_read quality field wire) = value_fits quality encoding field wire for_field.is_wire for_field.fits in
    subst (λ (o : Option Field). IsPatchFrom 0 quality fields (put_read quality patch index o wire)) (sym at)
    (IsPatch-put quality fields 0 patch index (value_read quality field wire) (omega arith) within
    (λ d. subst (λ (f : Field). FitsField quality f (value_read quality field wire)) (same_at fields index (some_field fields index within) d within) fits) is)
put_fits newer quality encoding fields patch index wire is is_for false test =
    subst (λ (o : Option Field). IsPatchFrom 0 quality fields (put_read quality patch index o wire)) (sym (get_past fields index (ltb-false index (length fields) test))) is

patch_fits : (newer quality : Bool) (encoding : ℕ) (fields : List Field) (changes : List (ℕ × WireField)) (patch : List (ℕ × DataValue)) → IsPatchFrom 0 quality fields patch → AreChanges newer encoding fields changes
    → IsPatchFrom 0 quality fields (patch_read quality fields patch changes)
patch_fits newer quality encoding fields [] patch is are = is
patch_fits newer quality encoding fields (change ∷ changes) patch is are =
    patch_fits newer quality encoding fields changes (put_read quality patch change.0 (slice_get fields change.0) change.1)
    (put_fits newer quality encoding fields patch change.0 change.1 is are.1 (nat_lt change.0 (length fields)) refl) are.2

content_fits : (meta : MetaData) (newer : Bool) (encoding : ℕ) (wire : WireContent) → IsWireContent meta newer encoding wire → IsContent meta (content_read meta wire)
content_fits meta newer encoding (Key values) is = row_fits newer meta.quality encoding meta.fields values is.1
content_fits meta newer encoding (Delta changes) is = patch_fits newer meta.quality encoding meta.fields changes [] tt is.1
content_fits meta newer encoding KeepAlive is = tt

pub wire-fits : (meta : MetaData) (wire : WireFrame) → IsWireFrame meta wire → IsFrame meta (frame_read meta wire)
wire-fits meta wire is = record {
  number = is.front.number;
  major = is.front.major;
  minor = is.front.minor;
  content = content_fits meta _ _ wire.content is.content;
}
