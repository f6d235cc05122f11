-- How long the frames of a meta are at most.
use Rattle.std.proofs.Common.{◌≡◌, ℕ, ◌+◌, ◌*◌, ◌≤◌, Bool, true, false, List, [], ◌∷◌, length, zero, suc, ◌<◌, drop, get_or, Option, Some, None, refl, sym, ap, subst, ◌∙◌, arith, length-append}
use Rattle.std.specs.Prelude.{sum_by, is_some, if◌then◌else◌}
use Rattle.std.specs.Int.{w16, w32, to_le_bytes}
use Rattle.std.proofs.lemmas.List.Sums.{sum_by-cons}
use Rattle.ua_values.specs.declared.kind.Kind.{Kind}
use Rattle.ua_values.specs.declared.value.Value.{Value}
use Rattle.ua_values.specs.declared.value.Value.TheVariants.{Boolean, SByte, Byte, Int16, UInt16, Int32, UInt32, Int64, UInt64, Float, Double, String, DateTime, Guid, ByteString, StatusCode}
use Rattle.ua_values.specs.Values.{kind_of, size_of, IsValue}
use Rattle.ua_binary.specs.Spelling.{variant, data_value}
use Rattle.ua_binary.specs.Wire.{optional}
use Rattle.dataset_meta.specs.declared.field.Field.{Field}
use Rattle.dataset_meta.specs.DataValues.{DataValue, FitsField}
use Rattle.dataset_meta.specs.Fields.{width, width_of}
use Rattle.dataset_meta.specs.Metas.{MetaData, IsMeta}
use Rattle.dataset_meta.specs.Rows.{IsRowOf, IsPatchFrom}
use Rattle.row_words.proofs.PatchLaws.{IsPatch-patch_in}
use Rattle.frame_codec.specs.declared.frame.Frame.{Frame as FrameWords}
use Rattle.frame_codec.specs.declared.frame.FrameKind.{FrameKind}
use Rattle.frame_codec.specs.declared.frame.FrameKind.TheVariants as kinds
use Rattle.frame_codec.specs.Frames.{Content, Whole, Change, Alive, Frame, IsContent}
use Rattle.frame_codec.specs.Words.{content_in, frame_in, IsKindOf, IsFrameOf}
use Rattle.frame_codec.specs.Spelling.{flags2, front_bytes, status_if, value_bytes, values_bytes, change_bytes, changes_bytes, content_bytes, encoding_of, frame_bytes}

-- a value takes at most sixteen bytes for each of its words, its index, its mask and its status with it
variant_short : (value : Value) (cap : ℕ) → IsValue value → size_of value ≤ cap → length (variant value) + 7 ≤ 16 * width (kind_of value) cap
variant_short (Boolean b) cap is within = omega arith
variant_short (SByte n) cap is within = omega arith
variant_short (Byte n) cap is within = omega arith
variant_short (Int16 n) cap is within = omega arith
variant_short (UInt16 n) cap is within = omega arith
variant_short (Int32 n) cap is within = omega arith
variant_short (UInt32 n) cap is within = omega arith
variant_short (Int64 n) cap is within = omega arith
variant_short (UInt64 n) cap is within = omega arith
variant_short (Float n) cap is within = omega arith
variant_short (Double n) cap is within = omega arith
variant_short (String text) cap is within = omega arith
variant_short (DateTime n) cap is within = omega arith
variant_short (Guid bytes) cap is within = omega (arith, is.0)
variant_short (ByteString bytes) cap is within = omega arith
variant_short (StatusCode n) cap is within = omega arith

data_value_short : (value : Value) (status : Option ℕ) → length (data_value value status) ≤ length (variant value) + 5
data_value_short value None = omega arith
data_value_short value (Some status) = omega (arith, length-append (variant value) (to_le_bytes w32 status))

value_short : (quality : Bool) (x : DataValue) → length (value_bytes quality x) ≤ length (variant x.value) + 5
value_short true x = data_value_short x.value (status_if x.status)
value_short false x = omega arith

in_field : (quality : Bool) (field : Field) (x : DataValue) → FitsField quality field x → length (value_bytes quality x) + 2 ≤ 16 * width_of field
in_field quality field x fits =
    let short : length (variant x.value) + 7 ≤ 16 * width_of field =
    subst (λ (kind : Kind). length (variant x.value) + 7 ≤ 16 * width kind field.cap) fits.fits.same_kind (variant_short x.value field.cap fits.is_value fits.fits.within) in
    omega (arith, short, value_short quality x)

values_short : (quality : Bool) (fields : List Field) (row : List DataValue) → IsRowOf quality fields row → length (values_bytes quality row) ≤ 16 * sum_by width_of fields
values_short quality [] [] is = omega arith
values_short quality [] (x ∷ row) is = absurd is
values_short quality (field ∷ fields) [] is = absurd is
values_short quality (field ∷ fields) (x ∷ row) is =
    omega (arith, length-append (value_bytes quality x) (values_bytes quality row), in_field quality field x is.0, values_short quality fields row is.1, sum_by-cons width_of field fields)

-- how many words the fields from an index on take
words_from : ℕ → List Field → ℕ
words_from from fields = sum_by width_of (drop from fields)

drop_one : (fields : List Field) (index : ℕ) → index < length fields → (field : Field) × (rest : List Field) × (drop index fields ≡ field ∷ rest) × (drop (index + 1) fields ≡ rest) × ((d : Field) → get_or fields index d ≡ field)
drop_one [] index within = absurd (omega arith)
drop_one (field ∷ fields) zero within = (field, fields, refl, refl, λ d. refl)
drop_one (field ∷ fields) (suc index) within =
    let rest = drop_one fields index (omega arith) in
    let step : suc index + 1 ≡ suc (index + 1) = omega arith in
    (rest.0, rest.1, rest.2, ap (λ (n : ℕ). drop n (field ∷ fields)) step ∙ rest.3, rest.4)

fewer_from : (fields : List Field) (from later : ℕ) → from ≤ later → words_from later fields ≤ words_from from fields
unfolding words_from
fewer_from [] from later below = omega (arith, drop_nil from, drop_nil later)
  where
    drop_nil : (n : ℕ) → sum_by width_of (drop n []) ≡ 0
    drop_nil zero = refl
    drop_nil (suc n) = refl
fewer_from (field ∷ fields) zero zero below = omega arith
fewer_from (field ∷ fields) zero (suc later) below = omega (arith, fewer_from fields 0 later (omega arith), sum_by-cons width_of field fields)
fewer_from (field ∷ fields) (suc from) zero below = absurd (omega arith)
fewer_from (field ∷ fields) (suc from) (suc later) below = fewer_from fields from later (omega arith)

changes_short : (quality : Bool) (fields : List Field) (from : ℕ) (patch : List (ℕ × DataValue)) → IsPatchFrom from quality fields patch → length (changes_bytes quality patch) ≤ 16 * words_from from fields
unfolding words_from
changes_short quality fields from [] is = omega arith
changes_short quality fields from (change ∷ patch) is =
    let at = drop_one fields change.0 is.1 in
    let fits : FitsField quality at.0 change.1 = subst (λ (f : Field). FitsField quality f change.1) (at.4 at.0) (is.2 at.0) in
    let here : words_from change.0 fields ≡ width_of at.0 + words_from (change.0 + 1) fields = ap (sum_by width_of) at.2 ∙ sum_by-cons width_of at.0 at.1 ∙ ap (λ (l : List Field). width_of at.0 + sum_by width_of l) (sym at.3) in
    omega (
      arith,
      length-append (change_bytes quality change) (changes_bytes quality patch),
      length-append (to_le_bytes w16 change.0) (value_bytes quality change.1),
      in_field quality at.0 change.1 fits,
      changes_short quality fields (change.0 + 1) patch is.3,
      fewer_from fields from change.0 is.0,
      here,
    )

content_short : (meta : MetaData) (content : Content) → IsMeta meta.fields → IsContent meta content → length (content_bytes meta.quality content) ≤ 2002
unfolding words_from
content_short meta (Whole row) is_meta is =
    omega (arith, length-append (to_le_bytes w16 (length row)) (values_bytes meta.quality row), values_short meta.quality meta.fields row is, is_meta.narrow)
content_short meta (Change patch) is_meta is =
    omega (arith, length-append (to_le_bytes w16 (length patch)) (changes_bytes meta.quality patch), changes_short meta.quality meta.fields 0 patch is, is_meta.narrow)
content_short meta Alive is_meta is = omega arith

-- the parts of the front
pub length-front_bytes : (encoding : ℕ) (frame : Frame)
    → length (front_bytes encoding frame)
    ≡ 1 + length (flags2 frame.content) + length (optional (to_le_bytes w16) frame.number) + length (optional (to_le_bytes w32) frame.major) + length (optional (to_le_bytes w32) frame.minor)
unfolding front_bytes
length-front_bytes encoding frame = simp length-append (omega arith)

-- the front takes the same whatever the fields and their encoding
flags2_same : (one other : List Field) (kind : FrameKind) → flags2 (content_in one kind) ≡ flags2 (content_in other kind)
flags2_same one other (kinds.Whole row) = refl
flags2_same one other (kinds.Change patch) = refl
flags2_same one other kinds.Alive = refl

pub front_same : (encoding code : ℕ) (one other : List Field) (frame : FrameWords) → length (front_bytes encoding (frame_in one frame)) ≡ length (front_bytes code (frame_in other frame))
front_same encoding code one other frame =
    omega (arith, length-front_bytes encoding (frame_in one frame), length-front_bytes code (frame_in other frame), ap (λ (flags : List ℕ). length flags) (flags2_same one other frame.kind))

flags2_short : (content : Content) → length (flags2 content) ≤ 1
flags2_short (Whole row) = omega arith
flags2_short (Change patch) = omega arith
flags2_short Alive = omega arith

optional_short2 : (number : Option ℕ) → length (optional (to_le_bytes w16) number) ≤ 2
optional_short2 None = omega arith
optional_short2 (Some n) = omega arith

optional_short4 : (number : Option ℕ) → length (optional (to_le_bytes w32) number) ≤ 4
optional_short4 None = omega arith
optional_short4 (Some n) = omega arith

optional_len2 : (number : Option ℕ) → (if is_some number then 2 else 0) ≡ length (optional (to_le_bytes w16) number)
optional_len2 None = refl
optional_len2 (Some n) = refl

optional_len4 : (number : Option ℕ) → (if is_some number then 4 else 0) ≡ length (optional (to_le_bytes w32) number)
optional_len4 None = refl
optional_len4 (Some n) = refl

pub front_len : (encoding : ℕ) (frame : Frame) (flags : ℕ) → flags ≡ 1 + length (flags2 frame.content)
    → flags + (if is_some frame.number then 2 else 0) + (if is_some frame.major then 4 else 0) + (if is_some frame.minor then 4 else 0) ≡ length (front_bytes encoding frame)
front_len encoding frame flags is =
    omega (arith, length-front_bytes encoding frame, optional_len2 frame.number, optional_len4 frame.major, optional_len4 frame.minor)

pub front_short : (encoding : ℕ) (frame : Frame) → length (front_bytes encoding frame) ≤ 12
front_short encoding frame =
    omega (arith, length-front_bytes encoding frame, flags2_short frame.content, optional_short2 frame.number, optional_short4 frame.major, optional_short4 frame.minor)

pub front_some : (encoding : ℕ) (frame : Frame) → 1 ≤ length (front_bytes encoding frame)
front_some encoding frame = omega (arith, length-front_bytes encoding frame)

pub length-frame_bytes : (quality : Bool) (frame : Frame) → length (frame_bytes quality frame) ≡ length (front_bytes (encoding_of quality frame.content) frame) + length (content_bytes quality frame.content)
unfolding frame_bytes
length-frame_bytes quality frame = length-append (front_bytes (encoding_of quality frame.content) frame) (content_bytes quality frame.content)

pub frame_short : (meta : MetaData) (frame : Frame) → IsMeta meta.fields → IsContent meta frame.content → length (frame_bytes meta.quality frame) ≤ 2048
frame_short meta frame is_meta is =
    omega (arith, length-frame_bytes meta.quality frame, front_short (encoding_of meta.quality frame.content) frame, content_short meta frame.content is_meta is)

pub frame_some : (quality : Bool) (frame : Frame) → 1 ≤ length (frame_bytes quality frame)
frame_some quality frame = omega (arith, length-frame_bytes quality frame, front_some (encoding_of quality frame.content) frame)

alive_none : (quality : Bool) (content : Content) → content ≡ Alive → length (content_bytes quality content) ≡ 0
alive_none quality content is = ap (λ (c : Content). length (content_bytes quality c)) is

pub alive_short : (quality : Bool) (frame : Frame) → frame.content ≡ Alive → length (frame_bytes quality frame) ≤ 12
alive_short quality frame is = omega (arith, length-frame_bytes quality frame, front_short (encoding_of quality frame.content) frame, alive_none quality frame.content is)

-- what words stand for is content of their meta
pub kind_content : (meta : MetaData) (kind : FrameKind) → IsKindOf meta kind → IsContent meta (content_in meta.fields kind)
kind_content meta (kinds.Whole row) is = is.row
kind_content meta (kinds.Change patch) is = IsPatch-patch_in meta patch is
kind_content meta kinds.Alive is = tt

pub words_short : (meta : MetaData) (frame : FrameWords) → IsMeta meta.fields → IsFrameOf meta frame → length (frame_bytes meta.quality (frame_in meta.fields frame)) ≤ 2048
words_short meta frame is_meta is = frame_short meta (frame_in meta.fields frame) is_meta (kind_content meta frame.kind is)
