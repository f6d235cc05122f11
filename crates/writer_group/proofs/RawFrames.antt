-- How long frames with RawData are.
use Rattle.std.proofs.Common.{◌≡◌, ℕ, ◌+◌, ◌≤◌, Bool, true, false, List, [], ◌∷◌, length, sym, subst, arith, length-append}
use Rattle.std.specs.Int.{w32, to_le_bytes}
use Rattle.ua_binary.specs.Wire.{optional}
use Rattle.ua_values.specs.declared.kind.Kind.{Kind}
use Rattle.ua_values.specs.declared.kind.Kind.TheVariants as kinds
use Rattle.dataset_meta.specs.declared.field.Field.{Field}
use Rattle.dataset_meta.specs.Metas.{MetaData, IsMeta}
use Rattle.pubsub_model.specs.Frames.{PlacedFrame}
use Rattle.frame_codec.specs.declared.frame.Frame.{Frame as FrameWords}
use Rattle.frame_codec.specs.Carrying.{frame_of, version_if}
use Rattle.frame_codec.specs.Frames.{Content, Whole, Change, Alive, Frame, IsContent}
use Rattle.frame_codec.specs.Words.{frame_in, IsFrameOf}
use Rattle.frame_codec.specs.Spelling.{flags2, front_bytes}
use Rattle.frame_codec.proofs.Lengths.{front_some, kind_content, length-front_bytes}
use Rattle.fixed_layout.specs.Spelling.{raw_width, raw_size}
use Rattle.fixed_layout.proofs.Sizes.{raw_size-cons, length-raw_row}
use Rattle.ps_config.specs.FixedSound.{front_size}
use Rattle.writer_group.specs.Payloads.{raw_content, raw_frame}

some_width : (kind : Kind) (cap : ℕ) → 1 ≤ raw_width kind cap
some_width kinds.String cap = omega arith
some_width kinds.ByteString cap = omega arith
some_width kind cap = omega arith

some_size : (fields : List Field) → 1 ≤ length fields → 1 ≤ raw_size fields
some_size [] some = absurd (omega arith)
some_size (field ∷ fields) some = omega (arith, raw_size-cons field fields, some_width field.kind field.cap)

-- a frame that is no key frame has DataSetFlags2, and no row
content_raw : (meta : MetaData) (content : Content) → IsMeta meta.fields → IsContent meta content → length (flags2 content) + length (raw_content meta.fields content) ≤ raw_size meta.fields
content_raw meta (Whole row) is_meta is = omega (arith, length-raw_row meta.quality meta.fields row is)
content_raw meta (Change patch) is_meta is = omega (arith, some_size meta.fields is_meta.count.0)
content_raw meta Alive is_meta is = omega (arith, some_size meta.fields is_meta.count.0)

versions_len : (versions : Bool) (major minor : ℕ) → 3 + length (optional (to_le_bytes w32) (version_if versions major)) + length (optional (to_le_bytes w32) (version_if versions minor)) ≡ front_size versions
versions_len true major minor = omega arith
versions_len false major minor = omega arith

front_of : (versions : Bool) (major minor : ℕ) (placed : PlacedFrame) → length (front_bytes 1 (frame_of versions major minor placed)) ≡ length (flags2 (frame_of versions major minor placed).content) + front_size versions
front_of versions major minor placed = omega (arith, length-front_bytes 1 (frame_of versions major minor placed), versions_len versions major minor)

pub raw-some : (fields : List Field) (frame : Frame) → 1 ≤ length (raw_frame fields frame)
raw-some fields frame = omega (arith, length-append (front_bytes 1 frame) (raw_content fields frame.content), front_some 1 frame)

-- a writer's frame takes no more than its slot's need
pub raw-most : (versions : Bool) (meta : MetaData) (frame : FrameWords) (placed : PlacedFrame) → IsMeta meta.fields → IsFrameOf meta frame
    → frame_in meta.fields frame ≡ frame_of versions meta.major meta.minor placed
    → length (raw_frame meta.fields (frame_in meta.fields frame)) ≤ front_size versions + raw_size meta.fields
raw-most versions meta frame placed is_meta is same =
    let spelled : Frame = frame_in meta.fields frame in
    let front : length (front_bytes 1 spelled) ≡ length (flags2 spelled.content) + front_size versions =
    subst (λ (f : Frame). length (front_bytes 1 f) ≡ length (flags2 f.content) + front_size versions) (sym same) (front_of versions meta.major meta.minor placed) in
    omega (
      arith,
      length-append (front_bytes 1 spelled) (raw_content meta.fields spelled.content),
      front,
      content_raw meta spelled.content is_meta (kind_content meta frame.kind is),
    )
