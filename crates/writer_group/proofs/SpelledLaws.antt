-- Frames spelled one behind another.
use Rattle.std.proofs.Common.{◌≡◌, ℕ, ◌+◌, ◌-◌, ◌≤◌, List, [], ◌∷◌, ◌++◌, length, map, refl, sym, ap, subst, ◌∙◌, arith, All, append-nil}
use Rattle.std.specs.Prelude.{slice_range}
use Rattle.std.specs.Int.{w16, to_le_bytes}
use Rattle.std.specs.List.{flat_map}
use Rattle.std.proofs.lemmas.List.{map_push, length_push}
use Rattle.std.proofs.lemmas.List.Concat.{flat_map-append}
use Rattle.std.proofs.lemmas.List.Elements.{All-head, All-tail, All-cons, All-nil, All-append}
use Rattle.ua_binary.specs.Writing.{laid}
use Rattle.writer_group.specs.declared.spelled.SpelledFrame.{SpelledFrame}
use Rattle.writer_group.specs.declared.spelled.Frames.{Frames}
use Rattle.writer_group.specs.Payloads.{Spelled, size_of}
use Rattle.writer_group.specs.Holding.{AreSpelledIn, IsWithin, StandFrom, frames_at, id_bytes, listed, listed_ids, listed_sizes, spelled_at}
use Rattle.writer_group.proofs.StandingFrames.{stand-push}
use Rattle.writer_group.proofs.Ranges.{range-before, range-laid}

pub spelled-same : (frame : SpelledFrame) (one other : List ℕ) → slice_range one frame.start frame.end ≡ slice_range other frame.start frame.end → spelled_at one frame ≡ spelled_at other frame
spelled-same frame one other same = ap (λ (bytes : List ℕ). let made : Spelled = record { writer = frame.writer; id = frame.id; number = frame.number; bytes = bytes } in made) same

-- bytes laid behind frames leave them
pub frames-kept : (bytes : List ℕ) (at : ℕ) (text : List ℕ) (frames : List SpelledFrame) → at ≤ length bytes → All (IsWithin at) frames
    → map (spelled_at (laid bytes at text)) frames ≡ map (spelled_at bytes) frames
frames-kept bytes at text [] room within = refl
frames-kept bytes at text (frame ∷ frames) room within =
    let first : IsWithin at frame = All-head (IsWithin at) frame frames within in
    let same : spelled_at (laid bytes at text) frame ≡ spelled_at bytes frame =
    spelled-same frame (laid bytes at text) bytes (range-before bytes at text frame.start frame.end first.rising first.within room) in
    let rest : map (spelled_at (laid bytes at text)) frames ≡ map (spelled_at bytes) frames = frames-kept bytes at text frames room (All-tail (IsWithin at) frame frames within) in
    ap (λ (x : Spelled). x ∷ map (spelled_at (laid bytes at text)) frames) same ∙ ap (λ (l : List Spelled). spelled_at bytes frame ∷ l) rest

-- a frame within one end is within a later one
within-more : (end later : ℕ) (frames : List SpelledFrame) → end ≤ later → All (IsWithin end) frames → All (IsWithin later) frames
within-more end later [] more within = All-nil (IsWithin later)
within-more end later (frame ∷ frames) more within =
    let first : IsWithin end frame = All-head (IsWithin end) frame frames within in
    All-cons (IsWithin later) frame frames (record { rising = first.rising; within = omega (arith, first.within) }) (within-more end later frames more (All-tail (IsWithin end) frame frames within))

-- one more frame, spelled behind the others
pub record IsSpelledOn (bytes new : List ℕ) (frames after : Frames) (text : List ℕ) (frame : SpelledFrame) : Type 0 where
  pub laid_is : new ≡ laid bytes frames.end text
  pub list_is : listed after ≡ listed frames ++ frame ∷ []
  pub start_is : frame.start ≡ frames.end
  pub end_is : frame.end ≡ frames.end + length text
  pub last : after.end ≡ frame.end
  pub sizes_is : listed_sizes after ≡ listed_sizes frames ++ (frame.end - frame.start) ∷ []
  pub ids_is : listed_ids after ≡ listed_ids frames ++ to_le_bytes w16 frame.id
  pub short : length text ≤ 2048
  pub room : frames.end + 2048 ≤ length bytes

abbrev pub spelled_with : SpelledFrame → List ℕ → Spelled
spelled_with frame text = record { writer = frame.writer; id = frame.id; number = frame.number; bytes = text }

pub spelled-on : (bytes new : List ℕ) (frames after : Frames) (text : List ℕ) (frame : SpelledFrame) → AreSpelledIn bytes frames → IsSpelledOn bytes new frames after text frame
    → frames_at new after ≡ frames_at bytes frames ++ spelled_with frame text ∷ []
spelled-on bytes new frames after text frame are on =
    let at = frames.end in
    let room : at ≤ length bytes = omega (arith, on.room) in
    let list : frames_at new after ≡ map (spelled_at new) ((listed frames) ++ frame ∷ []) = ap (λ (l : List SpelledFrame). map (spelled_at new) l) on.list_is in
    let here : slice_range new frame.start frame.end ≡ text =
    ap (λ (l : List ℕ). slice_range l frame.start frame.end) on.laid_is ∙ ap (λ (n : ℕ). slice_range (laid bytes at text) n frame.end) on.start_is
    ∙ range-laid bytes at text frame.end room on.end_is in
    let one : spelled_at new frame ≡ spelled_with frame text = ap (λ (b : List ℕ). spelled_with frame b) here in
    let kept : map (spelled_at new) (listed frames) ≡ frames_at bytes frames =
    ap (λ (l : List ℕ). map (spelled_at l) (listed frames)) on.laid_is ∙ frames-kept bytes at text (listed frames) room are.within in
    list ∙ map_push (spelled_at new) (listed frames) frame ∙ ap (λ (l : List Spelled). l ++ spelled_at new frame ∷ []) kept
    ∙ ap (λ (x : Spelled). frames_at bytes frames ++ x ∷ []) one

pub spelled-keeps : (bytes new : List ℕ) (frames after : Frames) (text : List ℕ) (frame : SpelledFrame) → length new ≡ length bytes → AreSpelledIn bytes frames → IsSpelledOn bytes new frames after text frame
    → AreSpelledIn new after
spelled-keeps bytes new frames after text frame long are on =
    let more = spelled-on bytes new frames after text frame are on in
    let size : frame.end - frame.start ≡ length text = omega (arith, on.start_is, on.end_is) in
    let old = frames_at bytes frames in
    let sizes : listed_sizes after ≡ map size_of (frames_at new after) =
    on.sizes_is ∙ ap (λ (n : ℕ). (listed_sizes frames) ++ n ∷ []) size ∙ ap (λ (l : List ℕ). l ++ length text ∷ []) are.sizes
    ∙ sym (map_push size_of old (spelled_with frame text)) ∙ ap (λ (l : List Spelled). map size_of l) (sym more) in
    let id_of : Spelled → ℕ = λ (x : Spelled). x.id in
    let ids : listed_ids after ≡ id_bytes (frames_at new after) =
    on.ids_is ∙ ap (λ (l : List ℕ). l ++ to_le_bytes w16 frame.id) are.ids
    ∙ ap (λ (l : List ℕ). id_bytes old ++ l) (sym (append-nil (to_le_bytes w16 frame.id)))
    ∙ sym (flat_map-append (to_le_bytes w16) (map id_of old) (frame.id ∷ []))
    ∙ ap (λ (l : List ℕ). flat_map (to_le_bytes w16) l) (sym (map_push id_of old (spelled_with frame text)))
    ∙ ap (λ (l : List Spelled). id_bytes l) (sym more) in
    let last : after.end ≡ frames.end + length text = on.last ∙ on.end_is in
    let behind : frames.end ≤ after.end = omega (arith, last) in
    let own : IsWithin after.end frame = record { rising = omega (arith, on.start_is, on.end_is); within = omega (arith, on.last) } in
    let within : All (IsWithin after.end) (listed after) =
    subst (λ (l : List SpelledFrame). All (IsWithin after.end) l) (sym on.list_is)
    (All-append (IsWithin after.end) (listed frames) (frame ∷ []) (within-more frames.end after.end (listed frames) behind are.within)
    (All-cons (IsWithin after.end) frame [] own (All-nil (IsWithin after.end)))) in
    let count : length (listed after) ≡ length (listed frames) + 1 = ap length on.list_is ∙ length_push (listed frames) frame in
    record {
      sizes = sizes;
      ids = ids;
      within = within;
      stand = subst (λ (n : ℕ). StandFrom 0 (listed after) n) (sym on.last)
          (subst (λ (l : List SpelledFrame). StandFrom 0 l frame.end) (sym on.list_is) (stand-push 0 (listed frames) frame frames.end are.stand on.start_is));
      short = omega (arith, last, count, are.short, on.short);
      end_within = omega (arith, last, long, on.short, on.room);
    }
