-- Frames that are laid into their slots.
use Rattle.std.proofs.Common.{◌≡◌, ℕ, ◌+◌, ◌-◌, ◌<◌, ◌≤◌, List, [], ◌∷◌, ◌++◌, length, map, take, drop, get_or, refl, sym, ap, subst, ◌∙◌, append_assoc, arith, All}
use Rattle.std.specs.Prelude.{max, fold, replicate}
use Rattle.std.proofs.Math.Seq.{take-add, take-take}
use Rattle.std.proofs.lemmas.List.{append-nil, drop-drop, drop_all, get_or-map, get_or_default, length-append, length-drop, length-map, length-replicate, length-take, length-take-le, take-map}
use Rattle.std.proofs.lemmas.List.Sums.{fold_more}
use Rattle.ua_binary.specs.Writing.{laid}
use Rattle.fixed_layout.specs.declared.slot.Slot.{Slot}
use Rattle.fixed_layout.specs.Datagrams.{AreFrames, empty_datagram, filled, fixed_payload, last_end, placed, slot_at}
use Rattle.fixed_layout.specs.Slots.{AreApart, end_of}
use Rattle.fixed_layout.proofs.DatagramLaws.{datagram-split, ends-last}
use Rattle.fixed_layout.proofs.SlotLaws.{length-filled, length-laid}
use Rattle.writer_group.specs.declared.spelled.SpelledFrame.{SpelledFrame}
use Rattle.writer_group.specs.Holding.{spelled_at}
use Rattle.writer_group.specs.Payloads.{in_slots}
use Rattle.writer_group.specs.Slotting.{placed_all}

abbrev slot_frame : List ℕ → SpelledFrame → ℕ × List ℕ
slot_frame bytes frame = ((spelled_at bytes frame).writer, (spelled_at bytes frame).bytes)

in-slots : (bytes : List ℕ) (frames : List SpelledFrame) → in_slots (map (spelled_at bytes) frames) ≡ map (slot_frame bytes) frames
in-slots bytes [] = refl
in-slots bytes (frame ∷ frames) = ap (λ (l : List (ℕ × List ℕ)). slot_frame bytes frame ∷ l) (in-slots bytes frames)

-- one frame more
pub placed-more : (slots : List Slot) (datagram : List ℕ) (bytes : List ℕ) (frames : List SpelledFrame) (index : ℕ) (d : SpelledFrame) → index < length frames
    → placed_all slots datagram (in_slots (map (spelled_at bytes) (take (index + 1) frames)))
    ≡ placed (placed_all slots datagram (in_slots (map (spelled_at bytes) (take index frames)))) (slot_at slots (get_or frames index d).writer) (spelled_at bytes (get_or frames index d)).bytes
placed-more slots datagram bytes frames index d within =
    let all = map (slot_frame bytes) frames in
    let step : List ℕ → ℕ × List ℕ → List ℕ = λ (so_far : List ℕ) (frame : ℕ × List ℕ). placed so_far (slot_at slots frame.0) frame.1 in
    let front : (n : ℕ) → in_slots (map (spelled_at bytes) (take n frames)) ≡ take n all = λ (n : ℕ). in-slots bytes (take n frames) ∙ sym (take-map (slot_frame bytes) n frames) in
    let next : get_or all index (slot_frame bytes d) ≡ slot_frame bytes (get_or frames index d) = get_or-map (slot_frame bytes) frames index d (slot_frame bytes d) within in
    ap (λ (l : List (ℕ × List ℕ)). placed_all slots datagram l) (front (index + 1))
    ∙ fold_more step datagram all index (slot_frame bytes d) (omega (arith, length-map frames (slot_frame bytes)))
    ∙ ap (λ (x : ℕ × List ℕ). step (fold step datagram (take index all)) x) next
    ∙ ap (λ (l : List (ℕ × List ℕ)). step (placed_all slots datagram l) (slot_frame bytes (get_or frames index d))) (sym (front index))

-- ---- a frame that fits its slot

abbrev pub no_slot : Slot
no_slot = record { offset = 0; size = 0; need = 0 }

pub record FitsAt (slots : List Slot) (writer : ℕ) (text : List ℕ) : Type 0 where
  pub known : writer < length slots
  pub fits : length text ≤ (slot_at slots writer).size

pub frame-at : (slots : List Slot) (bytes : List ℕ) (frames : List SpelledFrame) (index : ℕ) (d : SpelledFrame) → AreFrames slots (in_slots (map (spelled_at bytes) frames)) → index < length frames
    → FitsAt slots (get_or frames index d).writer (spelled_at bytes (get_or frames index d)).bytes
frame-at slots bytes frames index d are within =
    let all = in_slots (map (spelled_at bytes) frames) in
    let same : all ≡ map (slot_frame bytes) frames = in-slots bytes frames in
    let below : index < length all = omega (arith, ap length same, length-map frames (slot_frame bytes)) in
    let at : get_or all index (slot_frame bytes d) ≡ slot_frame bytes (get_or frames index d) =
    ap (λ (l : List (ℕ × List ℕ)). get_or l index (slot_frame bytes d)) same ∙ get_or-map (slot_frame bytes) frames index d (slot_frame bytes d) within in
    record {
      known = subst (λ (x : ℕ × List ℕ). x.0 < length slots) at (are.known index (slot_frame bytes d) below);
      fits = subst (λ (x : ℕ × List ℕ). length x.1 ≤ (slot_at slots x.0).size) at (are.fit index (slot_frame bytes d) below);
    }

pub length-placed : (slots : List Slot) (datagram : List ℕ) (writer : ℕ) (text : List ℕ) → FitsAt slots writer text → end_of (slot_at slots writer) ≤ length datagram
    → length (placed datagram (slot_at slots writer) text) ≡ length datagram
length-placed slots datagram writer text at room =
    let slot = slot_at slots writer in
    length-laid datagram slot.offset (filled slot text) (omega (arith, length-filled slot text at.fits, room))

-- ---- behind the header

pub behind-header : (start : ℕ) (slots : List Slot) (datagram cleared : List ℕ) (frames : List (ℕ × List ℕ)) → AreApart start slots → AreFrames slots frames
    → length datagram ≡ max start (last_end slots) → cleared ≡ take start datagram ++ replicate (length datagram - start) 0
    → placed_all slots cleared frames ≡ take start datagram ++ fixed_payload start slots frames
behind-header start slots datagram cleared frames apart are long is =
    let header = take start datagram in
    let size : length header ≡ start = length-take-le start datagram (omega (arith, long)) in
    let zeros : length datagram - start ≡ last_end slots - length header = omega (arith, long, size) in
    let empty : cleared ≡ empty_datagram header slots = is ∙ ap (λ (n : ℕ). header ++ replicate n 0) zeros in
    ap (λ (l : List ℕ). placed_all slots l frames) empty
    ∙ datagram-split header slots frames (subst (λ (n : ℕ). AreApart n slots) (sym size) apart) are
    ∙ ap (λ (n : ℕ). header ++ fixed_payload n slots frames) size

cleared-is : (datagram zeros : List ℕ) (header : ℕ) → zeros ≡ replicate (length (take (length datagram - header) (drop header datagram))) 0
    → take header datagram ++ (zeros ++ drop (length datagram - header) (drop header datagram)) ≡ take header datagram ++ replicate (length datagram - header) 0
cleared-is datagram zeros header is =
    let size : ℕ = length datagram - header in
    let behind : length (drop header datagram) ≡ size = length-drop header datagram in
    let none : drop size (drop header datagram) ≡ [] = drop_all size (drop header datagram) (omega arith) in
    let long : length (take size (drop header datagram)) ≡ size = omega (arith, length-take size (drop header datagram)) in
    ap (λ (l : List ℕ). take header datagram ++ (zeros ++ l)) none
    ∙ ap (λ (l : List ℕ). take header datagram ++ l) (append-nil zeros ∙ is ∙ ap (λ (n : ℕ). replicate n 0) long)

pub length-cleared : (datagram zeros : List ℕ) (header : ℕ) → header ≤ length datagram → zeros ≡ replicate (length (take (length datagram - header) (drop header datagram))) 0
    → length (take header datagram ++ (zeros ++ drop (length datagram - header) (drop header datagram))) ≡ length datagram
length-cleared datagram zeros header within is =
    omega (
      arith,
      ap length (cleared-is datagram zeros header is),
      length-append (take header datagram) (replicate (length datagram - header) 0),
      length-take-le header datagram within,
      length-replicate {A = ℕ} (length datagram - header) 0,
    )

pub ends-within : (start : ℕ) (slots : List Slot) (datagram cleared : List ℕ) → length datagram ≡ max start (last_end slots) → length cleared ≡ length datagram
    → All (λ (slot : Slot). end_of slot ≤ length cleared) slots
ends-within start slots datagram cleared long same k d within =
    subst (λ (slot : Slot). end_of slot ≤ length cleared) (get_or_default slots k no_slot d within) (omega (arith, ends-last slots k within, long, same))

-- the frames in a datagram that was filled with zeros behind its header
pub slots-laid : (header start : ℕ) (slots : List Slot) (datagram zeros after : List ℕ) (frames : List (ℕ × List ℕ)) → header ≡ start → AreApart start slots → AreFrames slots frames
    → length datagram ≡ max start (last_end slots) → zeros ≡ replicate (length (take (length datagram - header) (drop header datagram))) 0
    → after ≡ placed_all slots (take header datagram ++ (zeros ++ drop (length datagram - header) (drop header datagram))) frames
    → after ≡ take header datagram ++ fixed_payload start slots frames
slots-laid header start slots datagram zeros after frames at apart are long filled is =
    let cleared = take header datagram ++ (zeros ++ drop (length datagram - header) (drop header datagram)) in
    let zeroed : cleared ≡ take start datagram ++ replicate (length datagram - start) 0 =
    cleared-is datagram zeros header filled ∙ ap (λ (n : ℕ). take n datagram ++ replicate (length datagram - n) 0) at in
    is ∙ behind-header start slots datagram cleared frames apart are long zeroed
    ∙ ap (λ (n : ℕ). take n datagram ++ fixed_payload start slots frames) (sym at)

-- ---- a datagram among other bytes

pub record IsLaidBehind (bytes payload after : List ℕ) (at end : ℕ) : Type 0 where
  pub written : after ≡ laid bytes at payload
  pub moved : end ≡ at + length payload
  pub same : length after ≡ length bytes

-- the part of the bytes from `start` on whose front up to `at` is kept
pub part-laid : (bytes payload text : List ℕ) (at start count : ℕ) → start ≤ at → at ≤ start + count → start + count ≤ length bytes
    → text ≡ take (at - start) (take count (drop start bytes)) ++ payload → length text ≡ length (take count (drop start bytes))
    → IsLaidBehind bytes payload (take start bytes ++ (text ++ drop count (drop start bytes))) at (start + count)
part-laid bytes payload text at start count behind within room is long =
    let header : ℕ = at - start in
    let part = take count (drop start bytes) in
    let size : length part ≡ count = omega (arith, length-take count (drop start bytes), length-drop start bytes) in
    let front : length (take header part) ≡ header = length-take-le header part (omega (arith, size)) in
    let rest : length payload ≡ count - header = omega (arith, ap length is, length-append (take header part) payload, front, long, size) in
    let whole : start + header ≡ at = omega arith in
    let kept : take start bytes ++ take header part ≡ take at bytes =
    ap (λ (l : List ℕ). take start bytes ++ l) (take-take header count (drop start bytes) (omega arith))
    ∙ sym (take-add start header bytes) ∙ ap (λ (n : ℕ). take n bytes) whole in
    let end : start + count ≡ at + length payload = omega (arith, rest) in
    let after : drop count (drop start bytes) ≡ drop (at + length payload) bytes = drop-drop count start bytes ∙ ap (λ (n : ℕ). drop n bytes) end in
    let written : take start bytes ++ (text ++ drop count (drop start bytes)) ≡ laid bytes at payload =
    ap (λ (l : List ℕ). take start bytes ++ (l ++ drop count (drop start bytes))) is
    ∙ ap (λ (l : List ℕ). take start bytes ++ ((take header part ++ payload) ++ l)) after
    ∙ ap (λ (l : List ℕ). take start bytes ++ l) (append_assoc (take header part) payload (drop (at + length payload) bytes))
    ∙ sym (append_assoc (take start bytes) (take header part) (payload ++ drop (at + length payload) bytes))
    ∙ ap (λ (l : List ℕ). l ++ (payload ++ drop (at + length payload) bytes)) kept
    ∙ sym (append_assoc (take at bytes) payload (drop (at + length payload) bytes)) in
    record {
      written = written;
      moved = end;
      same = ap length written ∙ length-laid bytes at payload (omega (arith, rest));
    }
