-- What stands in a slot is read as the key frame that was spelled there, and zeros as no frame.
use Rattle.std.proofs.Common.{◌≡◌, refl, sym, ap, ◌∙◌, subst, arith, ℕ, zero, suc, Bool, true, false, List, [], ◌∷◌, ◌++◌, replicate, append_assoc, Result, Ok, Err}
use Rattle.std.specs.Prelude.{if◌then◌else◌}
use Rattle.std.proofs.lemmas.List.Elements.{All-cons, All-nil}
use Rattle.dataset_meta.specs.DataValues.{DataValue, IsStatus}
use Rattle.dataset_meta.specs.declared.field.Field.{Field}
use Rattle.dataset_meta.specs.Metas.{MetaData, IsMeta}
use Rattle.dataset_meta.specs.Rows.{IsRow, IsRowOf}
use Rattle.ua_binary.specs.Reading.{◌>>=◌}
use Rattle.frame_codec.specs.declared.fault.FrameFault.{FrameFault}
use Rattle.frame_codec.specs.declared.fault.FrameFault.TheVariants.{NotValid, Short, Trailing}
use Rattle.frame_codec.specs.declared.front.Front.{Front}
use Rattle.frame_codec.specs.Begins.{raw_front}
use Rattle.frame_codec.specs.Frames.{Content, Frame, Whole, Change, IsFrame}
use Rattle.frame_codec.specs.Fronts.{front_at, flags1_at}
use Rattle.frame_codec.specs.Reading.{are_zero, ended, frame_with}
use Rattle.frame_codec.specs.Spelling.{front_bytes}
use Rattle.frame_codec.proofs.FlagFaultLaws.{even-refused}
use Rattle.frame_codec.proofs.ReadingLaws.{raw-front-read}
use Rattle.fixed_layout.specs.declared.fault.RawFault.{RawFault}
use Rattle.fixed_layout.specs.Reading.{raw_row_at}
use Rattle.fixed_layout.specs.Spelling.{raw_row, AreGood}
use Rattle.fixed_layout.proofs.RawLaws.{written-read}
use Rattle.writer_group.specs.Payloads.{raw_frame}
use Rattle.reader_group.specs.SlotFrames.{frame_behind, in_frame, raw_content_at, raw_frame_at, slot_frame_at}

-- ---- a data set without statuses has Good ones

pub good-row : (quality : Bool) (fields : List Field) (row : List DataValue) → quality ≡ false → IsRowOf quality fields row → AreGood row
good-row quality [] [] none is = All-nil (λ (x : DataValue). x.status ≡ 0)
good-row quality (field ∷ fields) [] none is = absurd is
good-row quality [] (x ∷ row) none is = absurd is
good-row quality (field ∷ fields) (x ∷ row) none is =
    All-cons (λ (x : DataValue). x.status ≡ 0) x row (subst (λ (q : Bool). IsStatus q x.status) none is.0.is_status) (good-row quality fields row none is.1)

-- ---- zeros behind a frame

zeros-are : (n : ℕ) → are_zero (replicate n 0) ≡ true
zeros-are zero = refl
zeros-are (suc n) = zeros-are n

abbrev as_content : Result (List DataValue × List ℕ) FrameFault → Result (Content × List ℕ) FrameFault
as_content (Ok read) = Ok (Whole read.0, read.1)
as_content (Err fault) = Err fault

content-behind : (r : Result (List DataValue × List ℕ) FrameFault) → (r >>= λ (read : List DataValue × List ℕ). Ok (Whole read.0, read.1)) ≡ as_content r
content-behind (Ok read) = refl
content-behind (Err fault) = refl

content-read : (meta : MetaData) (row : List DataValue) (zeros : ℕ) → IsMeta meta.fields → IsRow meta row → AreGood row
    → raw_content_at meta.fields 0 (raw_row meta.fields row ++ replicate zeros 0) ≡ Ok (Whole row, replicate zeros 0)
unfolding raw_content_at
content-read meta row zeros is_meta is good =
    content-behind (in_frame (raw_row_at meta.fields (raw_row meta.fields row ++ replicate zeros 0)))
    ∙ ap (λ (r : Result (List DataValue × List ℕ) RawFault). as_content (in_frame r)) (written-read meta row (replicate zeros 0) is_meta is good)

abbrev whole_frame : Frame → List DataValue → Frame
whole_frame frame row = record { number = frame.number; major = frame.major; minor = frame.minor; content = Whole row }

abbrev framed : Front → Content × List ℕ → Result Frame FrameFault
framed front content = ended (frame_with front content.0, content.1)

frame-read : (meta : MetaData) (frame : Frame) (row : List DataValue) (zeros : ℕ) → IsMeta meta.fields → IsRow meta row → AreGood row
    → raw_frame_at meta (raw_front (whole_frame frame row)) (raw_row meta.fields row ++ replicate zeros 0) ≡ Ok (whole_frame frame row)
unfolding raw_frame_at
frame-read meta frame row zeros is_meta is good =
    ap (λ (r : Result (Content × List ℕ) FrameFault). r >>= framed (raw_front (whole_frame frame row))) (content-read meta row zeros is_meta is good)
    ∙ ap (λ (b : Bool). if b then Ok (whole_frame frame row) else Err Trailing) (zeros-are zeros)

slot-read : (meta : MetaData) (frame : Frame) (row : List DataValue) (zeros : ℕ) → IsMeta meta.fields → IsFrame meta (whole_frame frame row) → IsRow meta row → AreGood row
    → slot_frame_at meta (front_bytes 1 (whole_frame frame row) ++ (raw_row meta.fields row ++ replicate zeros 0)) ≡ Ok (whole_frame frame row)
unfolding slot_frame_at
slot-read meta frame row zeros is_meta is row_is good =
    let whole = whole_frame frame row in
    let rest = raw_row meta.fields row ++ replicate zeros 0 in
    ap (λ (r : Result (Front × List ℕ) FrameFault). r >>= frame_behind meta (front_bytes 1 whole ++ rest)) (raw-front-read meta whole rest is (λ patch e. absurd (whole_change row patch e)))
    ∙ frame-read meta frame row zeros is_meta row_is good
  where
    whole_change : (row : List DataValue) (patch : List (ℕ × DataValue)) → Path Content (Whole row) (Change patch) → ⊥
    whole_change row patch e = cc

-- a key frame with RawData, and zeros behind it
pub raw-read : (meta : MetaData) (frame : Frame) (row : List DataValue) (zeros : ℕ) → frame.content ≡ Whole row → IsMeta meta.fields → IsFrame meta frame → IsRow meta row → AreGood row
    → slot_frame_at meta (raw_frame meta.fields frame ++ replicate zeros 0) ≡ Ok frame
raw-read meta frame row zeros content is_meta is row_is good =
    let same : frame ≡ whole_frame frame row = ap (λ (c : Content). record { number = frame.number; major = frame.major; minor = frame.minor; content = c }) content in
    subst (λ (f : Frame). slot_frame_at meta (raw_frame meta.fields f ++ replicate zeros 0) ≡ Ok f) (sym same)
    (ap (slot_frame_at meta) (append_assoc (front_bytes 1 (whole_frame frame row)) (raw_row meta.fields row) (replicate zeros 0))
    ∙ slot-read meta frame row zeros is_meta (subst (IsFrame meta) same is) row_is good)

-- zeros aren't valid, and no bytes are too short
pub record IsNoFrame (meta : MetaData) (bytes : List ℕ) : Type 0 where
  pub fault : FrameFault
  pub is : slot_frame_at meta bytes ≡ Err fault

front-none : front_at true [] ≡ Err Short
unfolding front_at flags1_at
front-none = refl

by-front : (meta : MetaData) (bytes : List ℕ) (fault : FrameFault) → front_at true bytes ≡ Err fault → slot_frame_at meta bytes ≡ Err fault
unfolding slot_frame_at
by-front meta bytes fault e = ap (λ (r : Result (Front × List ℕ) FrameFault). r >>= frame_behind meta bytes) e

pub zeros-read : (meta : MetaData) (zeros : ℕ) → IsNoFrame meta (replicate zeros 0)
zeros-read meta zero = record { fault = Short; is = by-front meta [] Short front-none }
zeros-read meta (suc n) = record { fault = NotValid; is = by-front meta (0 ∷ replicate n 0) NotValid (even-refused true 0 (replicate n 0) (omega arith) refl) }
