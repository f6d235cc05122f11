-- What is read of a whole message, with zeros behind it.
use Rattle.std.proofs.Common.{◌≡◌, ℕ, zero, suc, ◌<◌, Bool, true, false, List, [], ◌∷◌, ◌++◌, length, take, replicate, Option, Some, Result, Ok, Err, refl, sym, ap, ◌∙◌, subst, arith, inl, inr}
use Rattle.std.specs.Prelude.{◌↔◌, ◌==◌, ◌&&◌, if◌then◌else◌}
use Rattle.std.proofs.lemmas.Bool.{eqb-true, lt-ltb}
use Rattle.ua_binary.specs.Reading.{◌>>=◌}
use Rattle.ua_binary.specs.Wire.{AreBytes}
use Rattle.dataset_meta.specs.DataValues.{DataValue}
use Rattle.dataset_meta.specs.Metas.{MetaData, IsMeta, HasGrown}
use Rattle.frame_codec.specs.declared.fault.FrameFault.{FrameFault}
use Rattle.frame_codec.specs.declared.fault.FrameFault.TheVariants.{Short, Trailing}
use Rattle.frame_codec.specs.declared.front.Front.{Front}
use Rattle.frame_codec.specs.Frames.{Content, Whole, Change, Alive, Frame, IsFrame, frame_cut}
use Rattle.frame_codec.specs.Fronts.{front_at}
use Rattle.frame_codec.specs.Contents.{is_newer}
use Rattle.frame_codec.specs.Reading.{message_at, are_zero, ended, frame_at}
use Rattle.frame_codec.specs.Spelling.{is_key, frame_bytes}
use Rattle.frame_codec.specs.Spelling as written
use Rattle.frame_codec.specs.Wire.{WireFront, IsWireFront, wire_front_bytes, front_read, WireFrame, IsWireFrame, wire_bytes, frame_read}
use Rattle.frame_codec.specs.Begins.{BeginsWithFront, IsSpelled, raw_front}
use Rattle.frame_codec.proofs.FrontLaws.{front_grammar}
use Rattle.frame_codec.proofs.FrameGrammar.{SpellsFrame, message_grammar}
use Rattle.frame_codec.proofs.FitLaws.{wire-fits}
use Rattle.frame_codec.proofs.WrittenLaws.{kind_of, wire_front, front-written, front-fits, frame-spelled, cut-whole, grown-same, none-appended}

zeros-are-zero : (count : ℕ) → are_zero (replicate count 0) ≡ true
zeros-are-zero zero = refl
zeros-are-zero (suc count) = zeros-are-zero count

zero-bytes : (bytes : List ℕ) → are_zero bytes ≡ true → bytes ≡ replicate (length bytes) 0
zero-bytes [] zeros = refl
zero-bytes (byte ∷ bytes) zeros = by_test (λ rest. zero-bytes bytes rest) (byte == 0) refl zeros
  where
    by_test : (are_zero bytes ≡ true → bytes ≡ replicate (length bytes) 0) → (b : Bool) → (byte == 0) ≡ b → are_zero (byte ∷ bytes) ≡ true → byte ∷ bytes ≡ replicate (suc (length bytes)) 0
    by_test more true is zeros = ap (λ (n : ℕ). n ∷ bytes) (eqb-true byte 0 is) ∙ ap (λ (l : List ℕ). 0 ∷ l) (more (rw is at zeros))
    by_test more false is zeros = absurd (let no : Path Bool false true = rw is at zeros in cc)

pub spelled-read : (meta : MetaData) (frame : Frame) (text : List ℕ) (zeros : ℕ) → SpellsFrame meta frame text → frame_at meta (text ++ replicate zeros 0) ≡ Ok frame
unfolding frame_at
spelled-read meta frame text zeros spells =
    ap (λ (r : Result (Frame × List ℕ) FrameFault). r >>= ended) ((message_grammar meta).again frame text (replicate zeros 0) spells) ∙ ap (λ (b : Bool). if b then Ok frame else Err Trailing) (zeros-are-zero zeros)

pub few-short : (meta : MetaData) (frame : Frame) (text : List ℕ) (len : ℕ) → SpellsFrame meta frame text → len < length text → frame_at meta (take len text) ≡ Err Short
unfolding frame_at
few-short meta frame text len spells below = ap (λ (r : Result (Frame × List ℕ) FrameFault). r >>= ended) ((message_grammar meta).fewer frame text len spells below)

ended_ok : (x : Frame × List ℕ) (frame : Frame) → ended x ≡ Ok frame → (are_zero x.1 ≡ true) × (x.0 ≡ frame)
ended_ok x frame e = by_test (are_zero x.1) e
  where
    by_test : (b : Bool) → (if b then Ok x.0 else Err Trailing) ≡ Ok frame → (b ≡ true) × (x.0 ≡ frame)
    by_test true e = (refl, cc)
    by_test false e = absurd (let no : Path (Result Frame FrameFault) (Err Trailing) (Ok frame) = e in cc)

read-back : (meta : MetaData) (bytes : List ℕ) (frame : Frame) → AreBytes bytes → (r : Result (Frame × List ℕ) FrameFault) → message_at meta bytes ≡ r → (r >>= ended) ≡ Ok frame → IsSpelled meta bytes frame
read-back meta bytes frame all (Err fault) is e = absurd (let no : Path (Result Frame FrameFault) (Err fault) (Ok frame) = e in cc)
read-back meta bytes frame all (Ok x) is e =
    let done = ended_ok x frame e in
    let s = (message_grammar meta).back bytes x.1 x.0 all is in
    record {
      wire = s.spells.wire;
      is_wire = s.spells.is_wire;
      meaning = s.spells.meaning ∙ done.1;
      zeros = length x.1;
      split = s.split ∙ ap (λ (l : List ℕ). l ++ x.1) s.spells.spelled ∙ ap (λ (l : List ℕ). wire_bytes s.spells.wire ++ l) (zero-bytes x.1 done.0);
    }

pub read-spelled : (meta : MetaData) (bytes : List ℕ) (frame : Frame) → AreBytes bytes → (frame_at meta bytes ≡ Ok frame) ↔ IsSpelled meta bytes frame
unfolding frame_at
read-spelled meta bytes frame all = (
  λ e. read-back meta bytes frame all (message_at meta bytes) refl e,
  λ s. ap (frame_at meta) s.split ∙ spelled-read meta frame (wire_bytes s.wire) s.zeros (record { wire = s.wire; is_wire = s.is_wire; meaning = s.meaning; spelled = refl }),
)

pub front-spelled : (fixed : Bool) (bytes rest : List ℕ) (front : Front) → AreBytes bytes → (front_at fixed bytes ≡ Ok (front, rest)) ↔ BeginsWithFront fixed bytes front rest
front-spelled fixed bytes rest front all = (
  λ e. let s = (front_grammar fixed).back bytes rest front all e in
      record { wire = s.spells.wire; is_wire = s.spells.is_wire; meaning = s.spells.tells; split = s.split ∙ ap (λ (l : List ℕ). l ++ rest) s.spells.split },
  λ s. ap (front_at fixed) s.split ∙ (front_grammar fixed).again front (wire_front_bytes s.wire) rest (record { wire = s.wire; is_wire = s.is_wire; tells = s.meaning; split = refl }),
)

-- what is written
pub written-read : (meta : MetaData) (frame : Frame) (zeros : ℕ) → IsMeta meta.fields → IsFrame meta frame → frame_at meta (frame_bytes meta.quality frame ++ replicate zeros 0) ≡ Ok frame
written-read meta frame zeros is_meta is =
    spelled-read meta (frame_cut meta frame) (frame_bytes meta.quality frame) zeros (frame-spelled meta meta frame (grown-same meta) (omega (arith, is_meta.count.1)) (inr (none-appended meta)) is) ∙ ap (λ (f : Frame). Ok f) (cut-whole meta frame is)

newer_is : (short : MetaData) (carried : Option ℕ) (minor : ℕ) → carried ≡ Some minor → short.minor < minor → is_newer short carried ≡ true
newer_is short carried minor is more = rw is (lt-ltb short.minor minor more)

pub grown-read : (short full : MetaData) (frame : Frame) (minor zeros : ℕ) → IsMeta full.fields → HasGrown short full → IsFrame full frame → frame.minor ≡ Some minor → short.minor < minor
    → frame_at short (frame_bytes full.quality frame ++ replicate zeros 0) ≡ Ok (frame_cut short frame)
grown-read short full frame minor zeros is_meta grown is carries more =
    spelled-read short (frame_cut short frame) (frame_bytes full.quality frame) zeros (frame-spelled short full frame grown (omega (arith, is_meta.count.1)) (inl (newer_is short frame.minor minor carries more)) is)

pub written-few : (meta : MetaData) (frame : Frame) (len : ℕ) → IsMeta meta.fields → IsFrame meta frame → len < length (frame_bytes meta.quality frame) → frame_at meta (take len (frame_bytes meta.quality frame)) ≡ Err Short
written-few meta frame len is_meta is below =
    few-short meta (frame_cut meta frame) (frame_bytes meta.quality frame) len (frame-spelled meta meta frame (grown-same meta) (omega (arith, is_meta.count.1)) (inr (none-appended meta)) is) below

ok_once : {one other : Frame} → Path (Result Frame FrameFault) (Ok one) (Ok other) → one ≡ other
ok_once same = cc

pub one-frame : (meta : MetaData) (one other : Frame) → IsMeta meta.fields → IsFrame meta one → IsFrame meta other → frame_bytes meta.quality one ≡ frame_bytes meta.quality other → one ≡ other
one-frame meta one other is_meta is_one is_other same =
    ok_once (sym (written-read meta one 0 is_meta is_one) ∙ ap (λ (bytes : List ℕ). frame_at meta (bytes ++ [])) same ∙ written-read meta other 0 is_meta is_other)

pub front-few : (fixed : Bool) (wire : WireFront) (len : ℕ) → IsWireFront fixed wire → len < length (wire_front_bytes wire) → front_at fixed (take len (wire_front_bytes wire)) ≡ Err Short
front-few fixed wire len is below = (front_grammar fixed).fewer (front_read wire) (wire_front_bytes wire) len (record { wire = wire; is_wire = is; tells = refl; split = refl }) below

pub message-few : (meta : MetaData) (wire : WireFrame) (len : ℕ) → IsWireFrame meta wire → len < length (wire_bytes wire) → frame_at meta (take len (wire_bytes wire)) ≡ Err Short
message-few meta wire len is below = few-short meta (frame_read meta wire) (wire_bytes wire) len (record { wire = wire; is_wire = is; meaning = refl; spelled = refl }) below

pub read-fits : (meta : MetaData) (bytes : List ℕ) (frame : Frame) → AreBytes bytes → frame_at meta bytes ≡ Ok frame → IsFrame meta frame
read-fits meta bytes frame all e =
    let s : IsSpelled meta bytes frame = (read-spelled meta bytes frame all).0 e in
    subst (IsFrame meta) s.meaning (wire-fits meta s.wire s.is_wire)

-- fronts with RawData
raw_kind : (content : Content) → ((patch : List (ℕ × DataValue)) → ¬ (content ≡ Change patch)) → kind_of content ≡ (if is_key content then 0 else 3)
raw_kind (Whole row) no_delta = refl
raw_kind (Change patch) no_delta = absurd (no_delta patch refl)
raw_kind Alive no_delta = refl

raw_allowed : (content : Content) → ((patch : List (ℕ × DataValue)) → ¬ (content ≡ Change patch)) → (1 == 1 && kind_of content == 1) ≡ false
raw_allowed (Whole row) no_delta = refl
raw_allowed (Change patch) no_delta = absurd (no_delta patch refl)
raw_allowed Alive no_delta = refl

pub raw-front-read : (meta : MetaData) (frame : Frame) (rest : List ℕ) → IsFrame meta frame → ((patch : List (ℕ × DataValue)) → ¬ (frame.content ≡ Change patch)) → front_at true (written.front_bytes 1 frame ++ rest) ≡ Ok (raw_front frame, rest)
raw-front-read meta frame rest is no_delta =
    ap (λ (bytes : List ℕ). front_at true (bytes ++ rest)) (sym (front-written 1 frame))
    ∙ (front_grammar true).again (raw_front frame) (wire_front_bytes (wire_front 1 frame)) rest (record {
      wire = wire_front 1 frame;
      is_wire = front-fits true 1 frame refl (raw_allowed frame.content no_delta) is.number is.major is.minor;
      tells = ap (λ (kind : ℕ). record { valid = true; encoding = 1; kind = kind; number = frame.number; major = frame.major; minor = frame.minor }) (raw_kind frame.content no_delta);
      split = refl;
    })
