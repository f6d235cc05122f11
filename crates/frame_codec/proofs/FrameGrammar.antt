-- A message is read of exactly what spells it.
use Rattle.std.proofs.Common.{◌≡◌, ℕ, zero, suc, Bool, true, false, List, ◌++◌, refl, sym, ap, ◌∙◌, subst, arith}
use Rattle.ua_binary.proofs.Grammar.{IsGrammar, Joined, then_grammar, Done, done_grammar, same_grammar, Made, made_grammar}
use Rattle.dataset_meta.specs.DataValues.{DataValue}
use Rattle.dataset_meta.specs.Metas.{MetaData}
use Rattle.frame_codec.specs.declared.fault.FrameFault.{FrameFault}
use Rattle.frame_codec.specs.declared.fault.FrameFault.TheVariants.{Short}
use Rattle.frame_codec.specs.declared.front.Front.{Front}
use Rattle.frame_codec.specs.Frames.{Content, Whole, Change, Alive, Frame}
use Rattle.frame_codec.specs.Fronts.{front_at}
use Rattle.frame_codec.specs.Contents.{is_newer, whole_at, patch_at, content_at}
use Rattle.frame_codec.specs.Reading.{frame_with, behind_front, message_at}
use Rattle.frame_codec.specs.Wire.{is_kind, wire_front_bytes, front_read, WireContent, Key, Delta, KeepAlive, kind_number, wire_content_bytes, IsWireContent, content_read, WireFrame, wire_bytes, IsWireFrame, frame_read}
use Rattle.frame_codec.proofs.FrontLaws.{SpellsFront, front_grammar, kind_small}
use Rattle.frame_codec.proofs.WholeGrammar.{SpellsWhole, whole_grammar}
use Rattle.frame_codec.proofs.PatchGrammar.{SpellsPatch, patch_grammar}

pub record SpellsContent (meta : MetaData) (newer : Bool) (encoding kind : ℕ) (content : Content) (text : List ℕ) : Type 0 where
  pub wire : WireContent
  pub is_wire : IsWireContent meta newer encoding wire
  pub same_kind : kind ≡ kind_number wire
  pub meaning : content_read meta wire ≡ content
  pub spelled : text ≡ wire_content_bytes wire

zero_one : {A : Type 0} (n : ℕ) → 0 ≡ suc n → A
zero_one n e = absurd (omega (arith, e))

key_only : (meta : MetaData) (newer : Bool) (encoding : ℕ) (content : Content) (text : List ℕ) (wire : WireContent) → IsWireContent meta newer encoding wire → 0 ≡ kind_number wire → content_read meta wire ≡ content → text ≡ wire_content_bytes wire
    → Made (List DataValue) Content (SpellsWhole meta newer encoding) Whole content text
key_only meta newer encoding content text (Key values) is same meaning spelled =
    record { found = _; spells = record { values = values; few = is.0; are = is.1; meaning = refl; spelled = spelled }; is = sym meaning }
key_only meta newer encoding content text (Delta changes) is same meaning spelled = absurd (omega (arith, same))
key_only meta newer encoding content text KeepAlive is same meaning spelled = absurd (omega (arith, same))

delta_only : (meta : MetaData) (newer : Bool) (encoding : ℕ) (content : Content) (text : List ℕ) (wire : WireContent) → IsWireContent meta newer encoding wire → 1 ≡ kind_number wire → content_read meta wire ≡ content → text ≡ wire_content_bytes wire
    → Made (List (ℕ × DataValue)) Content (SpellsPatch meta newer encoding) Change content text
delta_only meta newer encoding content text (Key values) is same meaning spelled = absurd (omega (arith, same))
delta_only meta newer encoding content text (Delta changes) is same meaning spelled =
    record { found = _; spells = record { changes = changes; few = is.0; are = is.1; meaning = refl; spelled = spelled }; is = sym meaning }
delta_only meta newer encoding content text KeepAlive is same meaning spelled = absurd (omega (arith, same))

alive_only : (meta : MetaData) (newer : Bool) (encoding : ℕ) (content : Content) (text : List ℕ) (wire : WireContent) → 3 ≡ kind_number wire → content_read meta wire ≡ content → text ≡ wire_content_bytes wire → Done Alive content text
alive_only meta newer encoding content text (Key values) same meaning spelled = absurd (omega (arith, same))
alive_only meta newer encoding content text (Delta changes) same meaning spelled = absurd (omega (arith, same))
alive_only meta newer encoding content text KeepAlive same meaning spelled = (sym meaning, spelled)

pub content_grammar : (meta : MetaData) (newer : Bool) (encoding kind : ℕ) → is_kind kind ≡ true → IsGrammar Content FrameFault Short (SpellsContent meta newer encoding kind) (content_at meta newer encoding kind)
unfolding content_at
content_grammar meta newer encoding zero is =
    same_grammar Content FrameFault Short (Made (List DataValue) Content (SpellsWhole meta newer encoding) Whole) (SpellsContent meta newer encoding 0) (content_at meta newer encoding 0)
    (λ content text m. record { wire = Key m.spells.values; is_wire = (m.spells.few, m.spells.are); same_kind = refl; meaning = ap Whole m.spells.meaning ∙ sym m.is; spelled = m.spells.spelled })
    (λ content text s. key_only meta newer encoding content text s.wire s.is_wire s.same_kind s.meaning s.spelled)
    (made_grammar (List DataValue) Content FrameFault Short (SpellsWhole meta newer encoding) Whole (whole_at meta newer encoding) (whole_grammar meta newer encoding))
content_grammar meta newer encoding (suc zero) is =
    same_grammar Content FrameFault Short (Made (List (ℕ × DataValue)) Content (SpellsPatch meta newer encoding) Change) (SpellsContent meta newer encoding 1) (content_at meta newer encoding 1)
    (λ content text m. record { wire = Delta m.spells.changes; is_wire = (m.spells.few, m.spells.are); same_kind = refl; meaning = ap Change m.spells.meaning ∙ sym m.is; spelled = m.spells.spelled })
    (λ content text s. delta_only meta newer encoding content text s.wire s.is_wire s.same_kind s.meaning s.spelled)
    (made_grammar (List (ℕ × DataValue)) Content FrameFault Short (SpellsPatch meta newer encoding) Change (patch_at meta newer encoding) (patch_grammar meta newer encoding))
content_grammar meta newer encoding (suc (suc zero)) is = absurd (let e : Path Bool false true = is in cc)
content_grammar meta newer encoding (suc (suc (suc zero))) is =
    same_grammar Content FrameFault Short (Done Alive) (SpellsContent meta newer encoding 3) (content_at meta newer encoding 3)
    (λ content text d. record { wire = KeepAlive; is_wire = tt; same_kind = refl; meaning = sym d.0; spelled = d.1 })
    (λ content text s. alive_only meta newer encoding content text s.wire s.same_kind s.meaning s.spelled)
    (done_grammar Content FrameFault Short Alive)
content_grammar meta newer encoding (suc (suc (suc (suc n)))) is = absurd (omega (arith, (kind_small (suc (suc (suc (suc n)))) is).0))

pub record SpellsFrame (meta : MetaData) (frame : Frame) (text : List ℕ) : Type 0 where
  pub wire : WireFrame
  pub is_wire : IsWireFrame meta wire
  pub meaning : frame_read meta wire ≡ frame
  pub spelled : text ≡ wire_bytes wire

Behind : MetaData → Front → Frame → List ℕ → Type 0
Behind meta front = Made Content Frame (SpellsContent meta (is_newer meta front.minor) front.encoding front.kind) (frame_with front)

MessageJoined : MetaData → Frame → List ℕ → Type 0
MessageJoined meta = Joined Front Frame (SpellsFront false) (Behind meta)

pub message_grammar : (meta : MetaData) → IsGrammar Frame FrameFault Short (SpellsFrame meta) (message_at meta)
unfolding message_at behind_front wire_bytes MessageJoined Behind
message_grammar meta =
    same_grammar Frame FrameFault Short (MessageJoined meta) (SpellsFrame meta) (message_at meta) there here
    (then_grammar Front Frame FrameFault Short (SpellsFront false) (Behind meta) (front_at false) (behind_front meta) (front_grammar false)
    (λ front text s. made_grammar Content Frame FrameFault Short (SpellsContent meta (is_newer meta front.minor) front.encoding front.kind) (frame_with front) (content_at meta (is_newer meta front.minor) front.encoding front.kind)
    (content_grammar meta (is_newer meta front.minor) front.encoding front.kind (subst (λ (f : Front). is_kind f.kind ≡ true) s.tells s.is_wire.kind))))
  where
    there : (frame : Frame) (text : List ℕ) → MessageJoined meta frame text → SpellsFrame meta frame text
    there frame text j =
        let f = j.spells_first in
        let m = j.spells in
        let c = m.spells in
        record {
          wire = record { front = f.wire; content = c.wire };
          is_wire = record {
            front = f.is_wire;
            kind = ap (λ (front : Front). front.kind) f.tells ∙ c.same_kind;
            content = subst (λ (front : Front). IsWireContent meta (is_newer meta front.minor) front.encoding c.wire) (sym f.tells) c.is_wire;
          };
          meaning = ap (λ (front : Front). frame_with front (content_read meta c.wire)) f.tells ∙ ap (frame_with j.first) c.meaning ∙ sym m.is;
          spelled = j.split ∙ ap (λ (l : List ℕ). l ++ j.back) f.split ∙ ap (λ (l : List ℕ). wire_front_bytes f.wire ++ l) c.spelled;
        }

    here : (frame : Frame) (text : List ℕ) → SpellsFrame meta frame text → MessageJoined meta frame text
    here frame text s = record {
      first = front_read s.wire.front;
      front = wire_front_bytes s.wire.front;
      back = wire_content_bytes s.wire.content;
      spells_first = record { wire = s.wire.front; is_wire = s.is_wire.front; tells = refl; split = refl };
      spells = record {
        found = content_read meta s.wire.content;
        spells = record { wire = s.wire.content; is_wire = s.is_wire.content; same_kind = s.is_wire.kind; meaning = refl; spelled = refl };
        is = sym s.meaning;
      };
      split = s.spelled;
    }
