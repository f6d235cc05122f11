-- A data set's frames are no longer than its largest frame.
use Rattle.std.proofs.Common.{◌≡◌, ℕ, zero, suc, ◌+◌, ◌*◌, ◌<◌, ◌≤◌, Bool, true, false, List, [], ◌∷◌, length, drop, get_or, Option, Some, None, refl, sym, ap, subst, ◌∙◌, arith, length-append}
use Rattle.std.specs.Int.{w16, w32, to_le_bytes}
use Rattle.ua_values.specs.declared.kind.Kind.{Kind}
use Rattle.ua_values.specs.declared.value.Value.{Value}
use Rattle.ua_values.specs.declared.value.Value.TheVariants.{Boolean, SByte, Byte, Int16, UInt16, Int32, UInt32, Int64, UInt64, Float, Double, String, DateTime, Guid, ByteString, StatusCode}
use Rattle.ua_values.specs.Values.{kind_of, size_of, IsValue}
use Rattle.ua_binary.specs.Spelling.{plain, variant, data_value}
use Rattle.dataset_meta.specs.declared.field.Field.{Field}
use Rattle.dataset_meta.specs.DataValues.{DataValue, FitsField}
use Rattle.dataset_meta.specs.Metas.{MetaData}
use Rattle.dataset_meta.specs.Rows.{IsRowOf, IsPatchFrom}
use Rattle.frame_codec.specs.declared.frame.Frame.{Frame as FrameWords}
use Rattle.frame_codec.specs.Frames.{Content, Whole, Change, Alive, Frame, IsContent}
use Rattle.frame_codec.specs.Words.{frame_in, IsFrameOf}
use Rattle.frame_codec.specs.Spelling.{status_if, value_bytes, values_bytes, change_bytes, changes_bytes, content_bytes, encoding_of, frame_bytes}
use Rattle.frame_codec.proofs.Lengths.{front_short, length-frame_bytes, kind_content}
use Rattle.fixed_layout.specs.Spelling.{raw_width, raw_width_of, raw_size}
use Rattle.fixed_layout.proofs.Sizes.{raw_size-cons}
use Rattle.ps_config.specs.Rooms.{field_front, largest_frame}

plain_most : (value : Value) (cap : ℕ) → IsValue value → size_of value ≤ cap → length (plain value) ≤ raw_width (kind_of value) cap
plain_most (Boolean b) cap is within = omega arith
plain_most (SByte n) cap is within = omega arith
plain_most (Byte n) cap is within = omega arith
plain_most (Int16 n) cap is within = omega arith
plain_most (UInt16 n) cap is within = omega arith
plain_most (Int32 n) cap is within = omega arith
plain_most (UInt32 n) cap is within = omega arith
plain_most (Int64 n) cap is within = omega arith
plain_most (UInt64 n) cap is within = omega arith
plain_most (Float n) cap is within = omega arith
plain_most (Double n) cap is within = omega arith
plain_most (String text) cap is within = omega arith
plain_most (DateTime n) cap is within = omega arith
plain_most (Guid bytes) cap is within = omega (arith, is.0)
plain_most (ByteString bytes) cap is within = omega arith
plain_most (StatusCode n) cap is within = omega arith

data_value_most : (value : Value) (status : Option ℕ) → length (data_value value status) ≤ length (plain value) + 6
data_value_most value None = omega arith
data_value_most value (Some status) = omega (arith, length-append (variant value) (to_le_bytes w32 status))

-- with two bytes for its index
value_most : (quality : Bool) (x : DataValue) → length (value_bytes quality x) + 2 ≤ length (plain x.value) + field_front quality
value_most true x = omega (arith, data_value_most x.value (status_if x.status))
value_most false x = omega arith

field_most : (quality : Bool) (field : Field) (x : DataValue) → FitsField quality field x → length (value_bytes quality x) + 2 ≤ field_front quality + raw_width_of field
field_most quality field x fits =
    let most : length (plain x.value) ≤ raw_width field.kind field.cap =
    subst (λ (kind : Kind). length (plain x.value) ≤ raw_width kind field.cap) fits.fits.same_kind (plain_most x.value field.cap fits.is_value fits.fits.within) in
    omega (arith, most, value_most quality x)

abbrev most_of : Bool → List Field → ℕ
most_of quality fields = field_front quality * length fields + raw_size fields

most-cons : (quality : Bool) (field : Field) (fields : List Field) → most_of quality (field ∷ fields) ≡ field_front quality + raw_width_of field + most_of quality fields
most-cons quality field fields = omega (arith, raw_size-cons field fields)

values_most : (quality : Bool) (fields : List Field) (row : List DataValue) → IsRowOf quality fields row → length (values_bytes quality row) ≤ most_of quality fields
values_most quality [] [] is = omega arith
values_most quality [] (x ∷ row) is = absurd is
values_most quality (field ∷ fields) [] is = absurd is
values_most quality (field ∷ fields) (x ∷ row) is =
    omega (
      arith,
      length-append (value_bytes quality x) (values_bytes quality row),
      field_most quality field x is.0,
      values_most quality fields row is.1,
      most-cons quality field fields,
    )

-- the fields from an index on
record IsFieldAt (fields : List Field) (index : ℕ) : Type 0 where
  pub field : Field
  pub rest : List Field
  pub split : drop index fields ≡ field ∷ rest
  pub behind : drop (index + 1) fields ≡ rest
  pub here : (d : Field) → get_or fields index d ≡ field

field-at : (fields : List Field) (index : ℕ) → index < length fields → IsFieldAt fields index
field-at [] index within = absurd (omega arith)
field-at (field ∷ fields) zero within = record { field = field; rest = fields; split = refl; behind = refl; here = λ d. refl }
field-at (field ∷ fields) (suc index) within =
    let rest = field-at fields index (omega arith) in
    let step : suc index + 1 ≡ suc (index + 1) = omega arith in
    record { field = rest.field; rest = rest.rest; split = rest.split; behind = ap (λ (n : ℕ). drop n (field ∷ fields)) step ∙ rest.behind; here = rest.here }

fewer-most : (quality : Bool) (fields : List Field) (from later : ℕ) → from ≤ later → most_of quality (drop later fields) ≤ most_of quality (drop from fields)
fewer-most quality [] zero zero below = omega arith
fewer-most quality [] zero (suc later) below = omega arith
fewer-most quality [] (suc from) zero below = absurd (omega arith)
fewer-most quality [] (suc from) (suc later) below = omega arith
fewer-most quality (field ∷ fields) zero zero below = omega arith
fewer-most quality (field ∷ fields) zero (suc later) below = omega (arith, fewer-most quality fields 0 later (omega arith), most-cons quality field fields)
fewer-most quality (field ∷ fields) (suc from) zero below = absurd (omega arith)
fewer-most quality (field ∷ fields) (suc from) (suc later) below = fewer-most quality fields from later (omega arith)

changes_most : (quality : Bool) (fields : List Field) (from : ℕ) (patch : List (ℕ × DataValue)) → IsPatchFrom from quality fields patch
    → length (changes_bytes quality patch) ≤ most_of quality (drop from fields)
changes_most quality fields from [] is = omega arith
changes_most quality fields from (change ∷ patch) is =
    let at = field-at fields change.0 is.1 in
    let fits : FitsField quality at.field change.1 = subst (λ (f : Field). FitsField quality f change.1) (at.here at.field) (is.2 at.field) in
    let here : most_of quality (drop change.0 fields) ≡ field_front quality + raw_width_of at.field + most_of quality (drop (change.0 + 1) fields) =
    ap (most_of quality) at.split ∙ most-cons quality at.field at.rest ∙ ap (λ (l : List Field). field_front quality + raw_width_of at.field + most_of quality l) (sym at.behind) in
    omega (
      arith,
      length-append (change_bytes quality change) (changes_bytes quality patch),
      length-append (to_le_bytes w16 change.0) (value_bytes quality change.1),
      field_most quality at.field change.1 fits,
      changes_most quality fields (change.0 + 1) patch is.3,
      fewer-most quality fields from change.0 is.0,
      here,
    )

content_most : (meta : MetaData) (content : Content) → IsContent meta content → length (content_bytes meta.quality content) ≤ 2 + most_of meta.quality meta.fields
content_most meta (Whole row) is =
    omega (arith, length-append (to_le_bytes w16 (length row)) (values_bytes meta.quality row), values_most meta.quality meta.fields row is)
content_most meta (Change patch) is =
    omega (arith, length-append (to_le_bytes w16 (length patch)) (changes_bytes meta.quality patch), changes_most meta.quality meta.fields 0 patch is)
content_most meta Alive is = omega arith

pub frame-largest : (meta : MetaData) (frame : FrameWords) → IsFrameOf meta frame → length (frame_bytes meta.quality (frame_in meta.fields frame)) ≤ largest_frame meta
frame-largest meta frame is =
    let spelled : Frame = frame_in meta.fields frame in
    omega (
      arith,
      length-frame_bytes meta.quality spelled,
      front_short (encoding_of meta.quality spelled.content) spelled,
      content_most meta spelled.content (kind_content meta frame.kind is),
    )
