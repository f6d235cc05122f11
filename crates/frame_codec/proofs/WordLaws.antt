-- Frames in words, and the frames that they stand for.
use Rattle.std.proofs.Common.{◌≡◌, ℕ, ◌<◌, ◌^◌, List, [], ◌++◌, replicate, Option, Result, Ok, refl, sym, ap, ◌∙◌}
use Rattle.std.specs.Prelude.{IfSome}
use Rattle.dataset_meta.specs.DataValues.{DataValue}
use Rattle.dataset_meta.specs.Metas.{MetaData, IsMeta}
use Rattle.row_words.specs.Belonging.{row_in, spelled_row}
use Rattle.row_words.specs.Patches.{patch_in}
use Rattle.row_words.proofs.RowLaws.{Belongs-spelled_row, row_in-spelled_row}
use Rattle.row_words.proofs.MeaningLaws.{one_meaning, IsPatchOf-spelled_patch, patch_in-spelled_patch}
use Rattle.frame_codec.specs.declared.frame.Frame.{Frame as FrameWords}
use Rattle.frame_codec.specs.declared.frame.FrameKind.{FrameKind}
use Rattle.frame_codec.specs.declared.frame.FrameKind.TheVariants as kinds
use Rattle.frame_codec.specs.Frames.{Content, Whole, Change, Alive, Frame, IsContent, IsFrame}
use Rattle.frame_codec.specs.Words.{content_in, frame_in, IsKindOf, IsFrameOf, GivesFrame, spelled_kind, spelled_frame}
use Rattle.frame_codec.specs.declared.fault.FrameFault.{FrameFault}
use Rattle.frame_codec.specs.Reading.{frame_at}
use Rattle.frame_codec.specs.Spelling.{frame_bytes}
use Rattle.frame_codec.proofs.ReadingLaws.{written-read}
use Rattle.frame_codec.proofs.Lengths.{kind_content}

pub words-fit : (meta : MetaData) (frame : FrameWords) → IsFrameOf meta frame → IfSome frame.number (λ n. n < 2 ^ 16) → IfSome frame.major (λ n. n < 2 ^ 32) → IfSome frame.minor (λ n. n < 2 ^ 32) → IsFrame meta (frame_in meta.fields frame)
words-fit meta frame is number major minor = record { number = number; major = major; minor = minor; content = kind_content meta frame.kind is }

kind_of_words : (meta : MetaData) (content : Content) → IsMeta meta.fields → IsContent meta content → IsKindOf meta (spelled_kind meta.fields content)
kind_of_words meta (Whole row) is_meta is = Belongs-spelled_row meta row is_meta.narrow is
kind_of_words meta (Change patch) is_meta is = IsPatchOf-spelled_patch meta patch is_meta is
kind_of_words meta Alive is_meta is = tt

pub words-of : (meta : MetaData) (frame : Frame) → IsMeta meta.fields → IsFrame meta frame → IsFrameOf meta (spelled_frame meta.fields frame)
words-of meta frame is_meta is = kind_of_words meta frame.content is_meta is.content

kind_back : (meta : MetaData) (content : Content) → IsMeta meta.fields → IsContent meta content → content_in meta.fields (spelled_kind meta.fields content) ≡ content
kind_back meta (Whole row) is_meta is = ap Whole (row_in-spelled_row meta.quality meta.fields row is)
kind_back meta (Change patch) is_meta is = ap Change (patch_in-spelled_patch meta patch is_meta is)
kind_back meta Alive is_meta is = refl

pub words-back : (meta : MetaData) (frame : Frame) → IsMeta meta.fields → IsFrame meta frame → frame_in meta.fields (spelled_frame meta.fields frame) ≡ frame
words-back meta frame is_meta is = ap (λ (content : Content). record { number = frame.number; major = frame.major; minor = frame.minor; content = content }) (kind_back meta frame.content is_meta is.content)

row_of : Content → List DataValue
row_of (Whole row) = row
row_of (Change patch) = []
row_of Alive = []

changes_of : Content → List (ℕ × DataValue)
changes_of (Whole row) = []
changes_of (Change patch) = patch
changes_of Alive = []

kind_one : (meta : MetaData) (one other : FrameKind) → IsKindOf meta one → IsKindOf meta other → content_in meta.fields one ≡ content_in meta.fields other → one ≡ other
unfolding row_of changes_of
kind_one meta (kinds.Whole one) (kinds.Whole other) is_one is_other e =
    let rows : row_in meta.fields one.words ≡ row_in meta.fields other.words = ap row_of e in
    let words : one.words ≡ other.words = is_one.spelled ∙ ap (spelled_row meta.fields) rows ∙ sym is_other.spelled in
    ap (λ (w : List ℕ). kinds.Whole (record { words = w })) words
kind_one meta (kinds.Change one) (kinds.Change other) is_one is_other e =
    let patches : patch_in meta.fields one ≡ patch_in meta.fields other = ap changes_of e in
    ap kinds.Change ((one_meaning meta one other is_one is_other).1 patches)
kind_one meta kinds.Alive kinds.Alive is_one is_other e = refl
kind_one meta (kinds.Whole one) (kinds.Change other) is_one is_other e = absurd cc
kind_one meta (kinds.Whole one) kinds.Alive is_one is_other e = absurd cc
kind_one meta (kinds.Change one) (kinds.Whole other) is_one is_other e = absurd cc
kind_one meta (kinds.Change one) kinds.Alive is_one is_other e = absurd cc
kind_one meta kinds.Alive (kinds.Whole other) is_one is_other e = absurd cc
kind_one meta kinds.Alive (kinds.Change other) is_one is_other e = absurd cc

made : Option ℕ → Option ℕ → Option ℕ → FrameKind → FrameWords
made number major minor kind = record { number = number; kind = kind; major = major; minor = minor }

pub words-one : (meta : MetaData) (one other : FrameWords) → IsFrameOf meta one → IsFrameOf meta other → frame_in meta.fields one ≡ frame_in meta.fields other → one ≡ other
unfolding made
words-one meta one other is_one is_other e =
    let kind : one.kind ≡ other.kind = kind_one meta one.kind other.kind is_one is_other (ap (λ (f : Frame). f.content) e) in
    let number : one.number ≡ other.number = ap (λ (f : Frame). f.number) e in
    let major : one.major ≡ other.major = ap (λ (f : Frame). f.major) e in
    let minor : one.minor ≡ other.minor = ap (λ (f : Frame). f.minor) e in
    ap (λ (n : Option ℕ). made n one.major one.minor one.kind) number
    ∙ ap (λ (n : Option ℕ). made other.number n one.minor one.kind) major
    ∙ ap (λ (n : Option ℕ). made other.number other.major n one.kind) minor
    ∙ ap (λ (k : FrameKind). made other.number other.major other.minor k) kind

ok_once : {one other : Frame} → Path (Result Frame FrameFault) (Ok one) (Ok other) → one ≡ other
ok_once same = cc

-- what is read of a written frame in words is answered in the same words
pub words-read : (meta : MetaData) (frame other : FrameWords) (zeros : ℕ) → IsMeta meta.fields → IsFrameOf meta frame → IsFrame meta (frame_in meta.fields frame)
    → GivesFrame meta (Ok other) (frame_at meta (frame_bytes meta.quality (frame_in meta.fields frame) ++ replicate zeros 0)) → other ≡ frame
words-read meta frame other zeros is_meta of is given =
    words-one meta other frame given.0 of (ok_once (sym given.1 ∙ written-read meta (frame_in meta.fields frame) zeros is_meta is))
