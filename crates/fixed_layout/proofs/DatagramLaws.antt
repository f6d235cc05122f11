-- What stands in a datagram of a fixed layout.
use Rattle.std.proofs.Common.{◌≡◌, ◌≢◌, ℕ, zero, suc, ◌+◌, ◌-◌, ◌<◌, ◌≤◌, ◌⊎◌, inl, inr, List, [], ◌∷◌, ◌++◌, length, take, drop, get_or, Option, Some, refl, sym, ap, subst, ◌∙◌, arith, length-append, All}
use Rattle.std.specs.Prelude.{Contains, max, fold, slice_range, replicate, slice_index}
use Rattle.std.proofs.lemmas.Bool.{cases_lt, cases_eq}
use Rattle.std.proofs.lemmas.List.{length-replicate, length-drop, take_at, drop_at, take-append-drop, drop-replicate, take-replicate, get_or-append_right, get_or-replicate, get_or_past, nil_from_length}
use Rattle.std.proofs.lemmas.List.Elements.{All-head, All-tail, All-cons, All-nil, All-map, Contains-get_or}
use Rattle.ua_binary.specs.Writing.{laid}
use Rattle.fixed_layout.specs.declared.slot.Slot.{Slot}
use Rattle.fixed_layout.specs.Slots.{end_of, Covers, LieApart, header_of, AreApart, AreSlots}
use Rattle.fixed_layout.specs.Datagrams.{filled, placed, slot_of, last_end, slot_at, AreSpelled, AreFrames, spelled, empty_datagram, datagram_of, fixed_payload}
use Rattle.fixed_layout.specs.Held.{HoldsFrame, IsFrameFor}
use Rattle.fixed_layout.proofs.SlotLaws.{apart-turned, apart-order, apart-header, length-laid, laid-nothing, laid-behind, length-filled, slot-is, slot-own, slot-other, header-kept, byte-kept}

abbrev none : Slot
none = record { offset = 0; size = 0; need = 0 }

-- what slots that lie apart say of two of them, and of the header and one
pub slots-apart : (start : ℕ) (slots : List Slot) (i j : ℕ) → AreApart start slots → i < length slots → j < length slots → i ≢ j → LieApart (slot_at slots i) (slot_at slots j)
slots-apart start slots i j apart of_i of_j other = by_order (cases_lt i j)
  where
    by_order : (i < j) ⊎ (j ≤ i) → LieApart (slot_at slots i) (slot_at slots j)
    by_order (inl before) = apart (suc i) (suc j) none (omega arith) (omega arith)
    by_order (inr behind) = apart-turned (slot_at slots j) (slot_at slots i) (apart (suc j) (suc i) none (below (cases_eq i j)) (omega arith))
      where
        below : (i ≡ j) ⊎ (i ≡ j → ⊥) → suc j < suc i
        below (inl same) = absurd (other same)
        below (inr apart_from) = elim (cases_lt j i) [ inl less ↦ omega arith | inr more ↦ absurd (other (omega arith)) ]

pub header-apart : (start : ℕ) (slots : List Slot) (k : ℕ) → AreApart start slots → k < length slots → LieApart (header_of start) (slot_at slots k)
header-apart start slots k apart within = apart zero (suc k) none (omega arith) (omega arith)

-- where the slot that ends last ends
abbrev last_from : ℕ → List Slot → ℕ
last_from end slots = fold (λ (so_far : ℕ) (slot : Slot). max so_far (end_of slot)) end slots

from_start : (end : ℕ) (slots : List Slot) → end ≤ last_from end slots
from_start end [] = omega arith
from_start end (slot ∷ slots) = omega (arith, from_start (max end (end_of slot)) slots)

ends-from : (end : ℕ) (slots : List Slot) (k : ℕ) (d : Slot) → k < length slots → end_of (get_or slots k d) ≤ last_from end slots
ends-from end [] k d within = absurd (omega arith)
ends-from end (slot ∷ slots) zero d within = omega (arith, from_start (max end (end_of slot)) slots)
ends-from end (slot ∷ slots) (suc k) d within = ends-from (max end (end_of slot)) slots k d (omega arith)

pub ends-last : (slots : List Slot) (k : ℕ) → k < length slots → end_of (slot_at slots k) ≤ last_end slots
ends-last slots k within = ends-from 0 slots k none within

last-from-within : (limit end : ℕ) (slots : List Slot) → end ≤ limit → All (λ (slot : Slot). end_of slot ≤ limit) slots → last_from end slots ≤ limit
last-from-within limit end [] small within = small
last-from-within limit end (slot ∷ slots) small within =
    let first : end_of slot ≤ limit = All-head (λ (s : Slot). end_of s ≤ limit) slot slots within in
    last-from-within limit (max end (end_of slot)) slots (omega arith) (All-tail (λ (s : Slot). end_of s ≤ limit) slot slots within)

pub last-within : (limit : ℕ) (slots : List Slot) → All (λ (slot : Slot). end_of slot ≤ limit) slots → last_end slots ≤ limit
last-within limit slots within = last-from-within limit 0 slots (omega arith) within

-- the empty datagram
pub length-empty : (header : List ℕ) (slots : List Slot) → length (empty_datagram header slots) ≡ max (length header) (last_end slots)
length-empty header slots = omega (arith, length-append header (replicate (last_end slots - length header) 0), length-replicate {A = ℕ} (last_end slots - length header) 0)

take-empty : (header : List ℕ) (slots : List Slot) → take (length header) (empty_datagram header slots) ≡ header
take-empty header slots = take_at header (replicate (last_end slots - length header) 0) (length header) refl

zeros_at : (count index : ℕ) (d : ℕ) → d ≡ 0 → get_or (replicate count d) index d ≡ 0
zeros_at count index d is = by_index (cases_lt index count)
  where
    by_index : (index < count) ⊎ (count ≤ index) → get_or (replicate count d) index d ≡ 0
    by_index (inl less) = get_or-replicate count index d d less ∙ is
    by_index (inr past) = get_or_past (replicate count d) index d (omega (arith, length-replicate count d)) ∙ is

byte-empty : (header : List ℕ) (slots : List Slot) (place : ℕ) → length header ≤ place → get_or (empty_datagram header slots) place 0 ≡ 0
byte-empty header slots place behind =
    get_or-append_right header (replicate (last_end slots - length header) 0) (length header) place 0 refl behind ∙ zeros_at (last_end slots - length header) (place - length header) 0 refl

drop-behind : (header : List ℕ) (n count : ℕ) → length header ≤ n → drop n (header ++ replicate count 0) ≡ replicate (count - (n - length header)) 0
drop-behind [] n count behind = ap (λ (k : ℕ). drop k (replicate count 0)) (same n) ∙ drop-replicate (n - 0) count 0
  where
    same : (k : ℕ) → k ≡ k - 0
    same k = omega arith
drop-behind (byte ∷ header) zero count behind = absurd (omega arith)
drop-behind (byte ∷ header) (suc n) count behind =
    let less : n - length header ≡ suc n - suc (length header) = omega arith in
    drop-behind header n count (omega arith) ∙ ap (λ (k : ℕ). replicate (count - k) 0) less

-- zeros behind the header
range-behind : (header : List ℕ) (slot : Slot) (count : ℕ) → length header ≤ slot.offset → end_of slot ≤ length header + count → slice_range (header ++ replicate count 0) slot.offset (end_of slot) ≡ replicate slot.size 0
range-behind header slot count behind within =
    let size : end_of slot - slot.offset ≡ slot.size = omega arith in
    let left : ℕ = count - (slot.offset - length header) in
    let enough : slot.size ≤ left = omega arith in
    ap (take (end_of slot - slot.offset)) (drop-behind header slot.offset count behind) ∙ ap (λ (n : ℕ). take n (replicate left 0)) size ∙ take-replicate slot.size left 0 enough

range-empty : (header : List ℕ) (slot : Slot) (count : ℕ) → LieApart (header_of (length header)) slot → end_of slot ≤ length header + count → slice_range (header ++ replicate count 0) slot.offset (end_of slot) ≡ replicate slot.size 0
range-empty header slot count apart within = by_size slot.size refl (length header) refl
  where
    by_order : (end_of slot ≤ 0) ⊎ (0 + length header ≤ slot.offset) → 0 < slot.size → slice_range (header ++ replicate count 0) slot.offset (end_of slot) ≡ replicate slot.size 0
    by_order (inl before) some = absurd (omega arith)
    by_order (inr behind) some = range-behind header slot count (omega arith) within

    by_size : (n : ℕ) → slot.size ≡ n → (m : ℕ) → length header ≡ m → slice_range (header ++ replicate count 0) slot.offset (end_of slot) ≡ replicate slot.size 0
    by_size zero nothing m is =
        let empty : end_of slot - slot.offset ≡ 0 = omega arith in
        ap (λ (n : ℕ). take n (drop slot.offset (header ++ replicate count 0))) empty ∙ ap (λ (n : ℕ). replicate n 0) (sym nothing)
    by_size (suc n) some zero is = range-behind header slot count (omega arith) within
    by_size (suc n) some (suc m) is = by_order (apart-order (header_of (length header)) slot (omega arith) (omega arith) apart) (omega arith)

slot-empty : (header : List ℕ) (slots : List Slot) (k : ℕ) → AreApart (length header) slots → k < length slots → slot_of (empty_datagram header slots) (slot_at slots k) ≡ Some (replicate (slot_at slots k).size 0)
slot-empty header slots k apart within =
    slot-is (empty_datagram header slots) (slot_at slots k) (omega (arith, length-empty header slots, ends-last slots k within))
    ∙ ap (λ (bytes : List ℕ). Some bytes)
    (range-empty header (slot_at slots k) (last_end slots - length header) (header-apart (length header) slots k apart within) (omega (arith, ends-last slots k within)))

-- frames that are placed one after another
abbrev placed_on : List Slot → List ℕ → List (ℕ × List ℕ) → List ℕ
placed_on slots datagram frames = fold (λ (so_far : List ℕ) (frame : ℕ × List ℕ). placed so_far (slot_at slots frame.0) frame.1) datagram frames

record CanPlace (slots : List Slot) (datagram : List ℕ) (frames : List (ℕ × List ℕ)) : Type 0 where
  pub long : last_end slots ≤ length datagram
  pub known : All (λ (frame : ℕ × List ℕ). frame.0 < length slots) frames
  pub fit : All (λ (frame : ℕ × List ℕ). length frame.1 ≤ (slot_at slots frame.0).size) frames

record FirstPlaced (slots : List Slot) (datagram : List ℕ) (frame : ℕ × List ℕ) (frames : List (ℕ × List ℕ)) : Type 0 where
  pub known : frame.0 < length slots
  pub long : length (filled (slot_at slots frame.0) frame.1) ≡ (slot_at slots frame.0).size
  pub room : end_of (slot_at slots frame.0) ≤ length datagram
  pub same_length : length (placed datagram (slot_at slots frame.0) frame.1) ≡ length datagram
  pub rest : CanPlace slots (placed datagram (slot_at slots frame.0) frame.1) frames

first-placed : (slots : List Slot) (datagram : List ℕ) (frame : ℕ × List ℕ) (frames : List (ℕ × List ℕ)) → CanPlace slots datagram (frame ∷ frames) → FirstPlaced slots datagram frame frames
first-placed slots datagram frame frames can =
    let known : frame.0 < length slots = All-head (λ (f : ℕ × List ℕ). f.0 < length slots) frame frames can.known in
    let fits : length frame.1 ≤ (slot_at slots frame.0).size = All-head (λ (f : ℕ × List ℕ). length f.1 ≤ (slot_at slots f.0).size) frame frames can.fit in
    let long : length (filled (slot_at slots frame.0) frame.1) ≡ (slot_at slots frame.0).size = length-filled (slot_at slots frame.0) frame.1 fits in
    let room : end_of (slot_at slots frame.0) ≤ length datagram = omega (arith, ends-last slots frame.0 known, can.long) in
    let same : length (placed datagram (slot_at slots frame.0) frame.1) ≡ length datagram = length-laid datagram (slot_at slots frame.0).offset (filled (slot_at slots frame.0) frame.1) (omega (arith, long, room)) in
    record {
      known = known;
      long = long;
      room = room;
      same_length = same;
      rest = record {
        long = omega (arith, same, can.long);
        known = All-tail (λ (f : ℕ × List ℕ). f.0 < length slots) frame frames can.known;
        fit = All-tail (λ (f : ℕ × List ℕ). length f.1 ≤ (slot_at slots f.0).size) frame frames can.fit;
      };
    }

length-placed : (slots : List Slot) (datagram : List ℕ) (frames : List (ℕ × List ℕ)) → CanPlace slots datagram frames → length (placed_on slots datagram frames) ≡ length datagram
length-placed slots datagram [] can = refl
length-placed slots datagram (frame ∷ frames) can =
    let first = first-placed slots datagram frame frames can in
    length-placed slots (placed datagram (slot_at slots frame.0) frame.1) frames first.rest ∙ first.same_length

-- a slot that no frame has keeps what it has
other-placed : (start : ℕ) (slots : List Slot) (datagram : List ℕ) (frames : List (ℕ × List ℕ)) (k : ℕ) → AreApart start slots → CanPlace slots datagram frames → k < length slots → All (λ (frame : ℕ × List ℕ). frame.0 ≢ k) frames
    → slot_of (placed_on slots datagram frames) (slot_at slots k) ≡ slot_of datagram (slot_at slots k)
other-placed start slots datagram [] k apart can within free = refl
other-placed start slots datagram (frame ∷ frames) k apart can within free =
    let first = first-placed slots datagram frame frames can in
    let other : frame.0 ≢ k = All-head (λ (f : ℕ × List ℕ). f.0 ≢ k) frame frames free in
    other-placed start slots (placed datagram (slot_at slots frame.0) frame.1) frames k apart first.rest within (All-tail (λ (f : ℕ × List ℕ). f.0 ≢ k) frame frames free)
    ∙ slot-other datagram (slot_at slots frame.0) (slot_at slots k) (filled (slot_at slots frame.0) frame.1) first.long first.room (slots-apart start slots frame.0 k apart first.known within other)

header-placed : (start : ℕ) (slots : List Slot) (datagram : List ℕ) (frames : List (ℕ × List ℕ)) → AreApart start slots → CanPlace slots datagram frames → take start (placed_on slots datagram frames) ≡ take start datagram
header-placed start slots datagram [] apart can = refl
header-placed start slots datagram (frame ∷ frames) apart can =
    let first = first-placed slots datagram frame frames can in
    header-placed start slots (placed datagram (slot_at slots frame.0) frame.1) frames apart first.rest
    ∙ header-kept datagram start (slot_at slots frame.0) (filled (slot_at slots frame.0) frame.1) first.long first.room (header-apart start slots frame.0 apart first.known)

byte-placed : (slots : List Slot) (datagram : List ℕ) (frames : List (ℕ × List ℕ)) (place : ℕ) → CanPlace slots datagram frames → ((k : ℕ) → k < length slots → ¬ Covers (slot_at slots k) place)
    → get_or (placed_on slots datagram frames) place 0 ≡ get_or datagram place 0
byte-placed slots datagram [] place can out = refl
byte-placed slots datagram (frame ∷ frames) place can out =
    let first = first-placed slots datagram frame frames can in
    byte-placed slots (placed datagram (slot_at slots frame.0) frame.1) frames place first.rest out
    ∙ byte-kept datagram (slot_at slots frame.0) (filled (slot_at slots frame.0) frame.1) place first.long first.room (out frame.0 first.known)

abbrev Held : List Slot → List ℕ → ℕ × List ℕ → Type 0
Held slots datagram frame = slot_of datagram (slot_at slots frame.0) ≡ Some (filled (slot_at slots frame.0) frame.1)

-- a slot is some frame's, or no frame's
record FrameAt (frames : List (ℕ × List ℕ)) (k : ℕ) : Type 0 where
  pub place : ℕ
  pub within : place < length frames
  pub own : (d : ℕ × List ℕ) → (get_or frames place d).0 ≡ k

frame-or-free : (frames : List (ℕ × List ℕ)) (k : ℕ) → FrameAt frames k ⊎ All (λ (frame : ℕ × List ℕ). frame.0 ≢ k) frames
frame-or-free [] k = inr (All-nil (λ (frame : ℕ × List ℕ). frame.0 ≢ k))
frame-or-free (frame ∷ frames) k = by_first (cases_eq frame.0 k) (frame-or-free frames k)
  where
    by_first : (frame.0 ≡ k) ⊎ (frame.0 ≡ k → ⊥) → FrameAt frames k ⊎ All (λ (f : ℕ × List ℕ). f.0 ≢ k) frames → FrameAt (frame ∷ frames) k ⊎ All (λ (f : ℕ × List ℕ). f.0 ≢ k) (frame ∷ frames)
    by_first (inl here) later = inl (record { place = zero; within = omega arith; own = λ d. here })
    by_first (inr other) (inl later) = inl (record { place = suc later.place; within = omega (arith, later.within); own = later.own })
    by_first (inr other) (inr free) = inr (All-cons (λ (f : ℕ × List ℕ). f.0 ≢ k) frame frames other free)

abbrev OneEach : List (ℕ × List ℕ) → Type 0
OneEach frames = (one other : ℕ × List ℕ) → Contains frames one → Contains frames other → one.0 ≡ other.0 → one ≡ other

first-of : (frame : ℕ × List ℕ) (frames : List (ℕ × List ℕ)) → Contains (frame ∷ frames) frame
first-of frame frames = (zero, omega arith, refl)

later-of : (frame x : ℕ × List ℕ) (frames : List (ℕ × List ℕ)) → Contains frames x → Contains (frame ∷ frames) x
later-of frame x frames c = (suc c.0, omega (arith, c.1), c.2)

one-each-tail : (frame : ℕ × List ℕ) (frames : List (ℕ × List ℕ)) → OneEach (frame ∷ frames) → OneEach frames
one-each-tail frame frames one_each = λ x y of_x of_y same. one_each x y (later-of frame x frames of_x) (later-of frame y frames of_y) same

held-placed : (start : ℕ) (slots : List Slot) (datagram : List ℕ) (frames : List (ℕ × List ℕ)) → AreApart start slots → CanPlace slots datagram frames → OneEach frames
    → All (Held slots (placed_on slots datagram frames)) frames
held-placed start slots datagram [] apart can one_each = All-nil (Held slots (placed_on slots datagram []))
held-placed start slots datagram (frame ∷ frames) apart can one_each =
    let later : All (Held slots (placed_on slots (placed datagram (slot_at slots frame.0) frame.1) frames)) frames =
    held-placed start slots (placed datagram (slot_at slots frame.0) frame.1) frames apart (first-placed slots datagram frame frames can).rest (one-each-tail frame frames one_each) in
    All-cons (Held slots (placed_on slots datagram (frame ∷ frames))) frame frames (here later (frame-or-free frames frame.0)) later
  where
    next : List ℕ
    next = placed datagram (slot_at slots frame.0) frame.1

    first : FirstPlaced slots datagram frame frames
    first = first-placed slots datagram frame frames can

    -- placed again, or by none of the others
    here : All (Held slots (placed_on slots next frames)) frames → FrameAt frames frame.0 ⊎ All (λ (f : ℕ × List ℕ). f.0 ≢ frame.0) frames → Held slots (placed_on slots next frames) frame
    here later (inl at) =
        let again : ℕ × List ℕ = get_or frames at.place frame in
        let same : again ≡ frame = one_each again frame (later-of frame again frames (Contains-get_or frames at.place frame at.within)) (first-of frame frames) (at.own frame) in
        subst (Held slots (placed_on slots next frames)) same (later at.place frame at.within)
    here later (inr free) =
        other-placed start slots next frames frame.0 apart first.rest first.known free ∙ slot-own datagram (slot_at slots frame.0) (filled (slot_at slots frame.0) frame.1) first.long first.room

-- the datagram
can-place : (header : List ℕ) (slots : List Slot) (frames : List (ℕ × List ℕ)) → AreFrames slots frames → CanPlace slots (empty_datagram header slots) frames
can-place header slots frames are = record { long = omega (arith, length-empty header slots); known = are.known; fit = are.fit }

pub length-datagram : (header : List ℕ) (slots : List Slot) (frames : List (ℕ × List ℕ)) → AreFrames slots frames → length (datagram_of header slots frames) ≡ max (length header) (last_end slots)
length-datagram header slots frames are = length-placed slots (empty_datagram header slots) frames (can-place header slots frames are) ∙ length-empty header slots

pub header-datagram : (header : List ℕ) (slots : List Slot) (frames : List (ℕ × List ℕ)) → AreApart (length header) slots → AreFrames slots frames → take (length header) (datagram_of header slots frames) ≡ header
header-datagram header slots frames apart are = header-placed (length header) slots (empty_datagram header slots) frames apart (can-place header slots frames are) ∙ take-empty header slots

pub held-datagram : (header : List ℕ) (slots : List Slot) (frames : List (ℕ × List ℕ)) → AreApart (length header) slots → AreFrames slots frames
    → All (λ (frame : ℕ × List ℕ). slot_of (datagram_of header slots frames) (slot_at slots frame.0) ≡ Some (filled (slot_at slots frame.0) frame.1)) frames
held-datagram header slots frames apart are = held-placed (length header) slots (empty_datagram header slots) frames apart (can-place header slots frames are) are.one_each

pub free-datagram : (header : List ℕ) (slots : List Slot) (frames : List (ℕ × List ℕ)) (k : ℕ) → AreApart (length header) slots → AreFrames slots frames → k < length slots → All (λ (frame : ℕ × List ℕ). frame.0 ≢ k) frames
    → slot_of (datagram_of header slots frames) (slot_at slots k) ≡ Some (replicate (slot_at slots k).size 0)
free-datagram header slots frames k apart are within free =
    other-placed (length header) slots (empty_datagram header slots) frames k apart (can-place header slots frames are) within free ∙ slot-empty header slots k apart within

pub zero-elsewhere : (header : List ℕ) (slots : List Slot) (frames : List (ℕ × List ℕ)) (place : ℕ) → AreFrames slots frames → length header ≤ place → All (λ (slot : Slot). ¬ Covers slot place) slots
    → slice_index (datagram_of header slots frames) place ≡ 0
zero-elsewhere header slots frames place are behind out =
    byte-placed slots (empty_datagram header slots) frames place (can-place header slots frames are) (λ k within. out k none within) ∙ byte-empty header slots place behind

some_once : (one other : List ℕ) → Path (Option (List ℕ)) (Some one) (Some other) → one ≡ other
some_once one other e = cc

slot-holds : (header : List ℕ) (slots : List Slot) (frames : List (ℕ × List ℕ)) (k : ℕ) (bytes : List ℕ) → AreApart (length header) slots → AreFrames slots frames → k < length slots
    → slot_of (datagram_of header slots frames) (slot_at slots k) ≡ Some bytes → HoldsFrame (λ (frame : ℕ × List ℕ). frame.0) (λ (frame : ℕ × List ℕ). frame.1) frames k bytes
slot-holds header slots frames k bytes apart are within found = by_frame (frame-or-free frames k)
  where
    by_frame : FrameAt frames k ⊎ All (λ (frame : ℕ × List ℕ). frame.0 ≢ k) frames → HoldsFrame (λ (frame : ℕ × List ℕ). frame.0) (λ (frame : ℕ × List ℕ). frame.1) frames k bytes
    by_frame (inl at) =
        let d : ℕ × List ℕ = (0, []) in
        let frame : ℕ × List ℕ = get_or frames at.place d in
        let own : frame.0 ≡ k = at.own d in
        let held : slot_of (datagram_of header slots frames) (slot_at slots frame.0) ≡ Some (filled (slot_at slots frame.0) frame.1) = held-datagram header slots frames apart are at.place d at.within in
        let same : slot_of (datagram_of header slots frames) (slot_at slots frame.0) ≡ slot_of (datagram_of header slots frames) (slot_at slots k) = ap (λ (i : ℕ). slot_of (datagram_of header slots frames) (slot_at slots i)) own in
        record {
          zeros = (slot_at slots frame.0).size - length frame.1;
          held = inr (frame, record { listed = Contains-get_or frames at.place d at.within; own = own }, some_once bytes (filled (slot_at slots frame.0) frame.1) (sym found ∙ sym same ∙ held));
        }
    by_frame (inr free) =
        record {
          zeros = (slot_at slots k).size;
          held = inl (some_once bytes (replicate (slot_at slots k).size 0) (sym found ∙ free-datagram header slots frames k apart are within free));
        }

pub datagram-within : (header : List ℕ) (limit : ℕ) (slots : List Slot) (frames : List (ℕ × List ℕ)) → AreSlots (length header) limit slots → AreFrames slots frames → length header ≤ limit → length (datagram_of header slots frames) ≤ limit
datagram-within header limit slots frames accepted are small = omega (arith, length-datagram header slots frames are, last-within limit slots accepted.within, small)

-- what stands behind the header hangs on its length alone
behind-empty : (header : List ℕ) (slots : List Slot) (n : ℕ) → length header ≡ n → drop n (empty_datagram header slots) ≡ replicate (last_end slots - n) 0
behind-empty header slots n long = drop_at header (replicate (last_end slots - length header) 0) n long ∙ ap (λ (m : ℕ). replicate (last_end slots - m) 0) long

behind-laid : (n : ℕ) (one other : List ℕ) (slot : Slot) (text : List ℕ) → n ≤ slot.offset → slot.offset ≤ length one → slot.offset ≤ length other → drop n one ≡ drop n other → drop n (laid one slot.offset text) ≡ drop n (laid other slot.offset text)
behind-laid n one other slot text behind of_one of_other same =
    laid-behind one slot.offset text n behind of_one ∙ ap (λ (l : List ℕ). laid l (slot.offset - n) text) same ∙ sym (laid-behind other slot.offset text n behind of_other)

behind-placed : (n : ℕ) (slots : List Slot) (one other : List ℕ) (frames : List (ℕ × List ℕ)) → AreApart n slots → CanPlace slots one frames → CanPlace slots other frames → drop n one ≡ drop n other
    → drop n (placed_on slots one frames) ≡ drop n (placed_on slots other frames)
behind-placed n slots one other [] apart can_one can_other same = same
behind-placed n slots one other (frame ∷ frames) apart can_one can_other same =
    behind-placed n slots (placed one slot frame.1) (placed other slot frame.1) frames apart of_one.rest of_other.rest (by_case (apart-header n slot (header-apart n slots frame.0 apart of_one.known)))
  where
    slot : Slot
    slot = slot_at slots frame.0

    of_one : FirstPlaced slots one frame frames
    of_one = first-placed slots one frame frames can_one

    of_other : FirstPlaced slots other frame frames
    of_other = first-placed slots other frame frames can_other

    by_case : (slot.size ≡ 0) ⊎ (n ≤ slot.offset) → drop n (placed one slot frame.1) ≡ drop n (placed other slot frame.1)
    by_case (inl none) =
        let nothing : filled slot frame.1 ≡ [] = nil_from_length (filled slot frame.1) (omega (arith, of_one.long, none)) in
        ap (λ (t : List ℕ). drop n (laid one slot.offset t)) nothing
        ∙ ap (drop n) (laid-nothing one slot.offset)
        ∙ same
        ∙ sym (ap (drop n) (laid-nothing other slot.offset))
        ∙ sym (ap (λ (t : List ℕ). drop n (laid other slot.offset t)) nothing)
    by_case (inr behind) = behind-laid n one other slot (filled slot frame.1) behind (omega (arith, of_one.room)) (omega (arith, of_other.room)) same

pub datagram-split : (header : List ℕ) (slots : List Slot) (frames : List (ℕ × List ℕ)) → AreApart (length header) slots → AreFrames slots frames → datagram_of header slots frames ≡ header ++ fixed_payload (length header) slots frames
datagram-split header slots frames apart are =
    let n : ℕ = length header in
    let blank : List ℕ = replicate n 0 in
    let same : drop n (empty_datagram header slots) ≡ drop n (empty_datagram blank slots) = behind-empty header slots n refl ∙ sym (behind-empty blank slots n (length-replicate {A = ℕ} n 0)) in
    let behind : drop n (datagram_of header slots frames) ≡ fixed_payload n slots frames =
    behind-placed n slots (empty_datagram header slots) (empty_datagram blank slots) frames apart (can-place header slots frames are) (can-place blank slots frames are) same in
    sym (take-append-drop n (datagram_of header slots frames)) ∙ ap (λ (front : List ℕ). front ++ drop n (datagram_of header slots frames)) (header-datagram header slots frames apart are) ∙ ap (λ (rest : List ℕ). header ++ rest) behind

pub length-payload : (start : ℕ) (slots : List Slot) (frames : List (ℕ × List ℕ)) → AreFrames slots frames → length (fixed_payload start slots frames) ≡ last_end slots - start
length-payload start slots frames are =
    omega (arith, length-drop start (datagram_of (replicate start 0) slots frames), length-datagram (replicate start 0) slots frames are, length-replicate {A = ℕ} start 0)

-- frames of any type
record ComesFrom {X : Type 0} (index : X → ℕ) (spelling : X → List ℕ) (frames : List X) (pair : ℕ × List ℕ) : Type 0 where
  pub frame : X
  pub listed : Contains frames frame
  pub is : (index frame, spelling frame) ≡ pair

comes-from : {X : Type 0} (index : X → ℕ) (spelling : X → List ℕ) (frames : List X) (pair : ℕ × List ℕ) → Contains (spelled index spelling frames) pair → ComesFrom index spelling frames pair
comes-from index spelling [] pair c = absurd (omega (arith, c.1))
comes-from {X} index spelling (frame ∷ frames) pair c = by_place (λ e. comes-from index spelling frames pair e) c.0 c.1 c.2
  where
    by_place : (Contains (spelled index spelling frames) pair → ComesFrom index spelling frames pair) → (k : ℕ) → k < length (spelled index spelling (frame ∷ frames)) → get_or (spelled index spelling (frame ∷ frames)) k pair ≡ pair → ComesFrom index spelling (frame ∷ frames) pair
    by_place next zero within at = record { frame = frame; listed = (zero, omega arith, refl); is = at }
    by_place next (suc k) within at =
        let later = next (k, omega (arith, within), at) in
        record { frame = later.frame; listed = (suc later.listed.0, omega (arith, later.listed.1), later.listed.2); is = later.is }

as-pairs : {X : Type 0} (slots : List Slot) (index : X → ℕ) (spelling : X → List ℕ) (frames : List X) → AreSpelled slots index spelling frames → AreFrames slots (spelled index spelling frames)
as-pairs {X} slots index spelling frames are = record {
  known = All-map (λ (p : ℕ × List ℕ). p.0 < length slots) (λ (x : X). (index x, spelling x)) frames are.known;
  fit = All-map (λ (p : ℕ × List ℕ). length p.1 ≤ (slot_at slots p.0).size) (λ (x : X). (index x, spelling x)) frames are.fit;
  one_each = λ p q of_p of_q same.
      let one = comes-from index spelling frames p of_p in
      let other = comes-from index spelling frames q of_q in
      let equal : one.frame ≡ other.frame = are.one_each one.frame other.frame one.listed other.listed (ap (λ (r : ℕ × List ℕ). r.0) one.is ∙ same ∙ sym (ap (λ (r : ℕ × List ℕ). r.0) other.is)) in
      sym one.is ∙ ap (λ (x : X). (index x, spelling x)) equal ∙ other.is;
}

pub payload-holds : {X : Type 0} (front : List ℕ) (slots : List Slot) (index : X → ℕ) (spelling : X → List ℕ) (frames : List X) (k : ℕ) (bytes : List ℕ) → AreApart (length front) slots → AreSpelled slots index spelling frames → k < length slots
    → slot_of (front ++ fixed_payload (length front) slots (spelled index spelling frames)) (slot_at slots k) ≡ Some bytes → HoldsFrame index spelling frames k bytes
payload-holds {X} front slots index spelling frames k bytes apart are within found = record { zeros = held.zeros; held = by_case held.held }
  where
    pairs : List (ℕ × List ℕ)
    pairs = spelled index spelling frames

    held : HoldsFrame (λ (frame : ℕ × List ℕ). frame.0) (λ (frame : ℕ × List ℕ). frame.1) pairs k bytes
    held =
        slot-holds front slots pairs k bytes apart (as-pairs slots index spelling frames are) within
        (ap (λ (l : List ℕ). slot_of l (slot_at slots k)) (datagram-split front slots pairs apart (as-pairs slots index spelling frames are)) ∙ found)

    by_case : (bytes ≡ replicate held.zeros 0) ⊎ ((pair : ℕ × List ℕ) × IsFrameFor (λ (frame : ℕ × List ℕ). frame.0) pairs k pair × (bytes ≡ pair.1 ++ replicate held.zeros 0))
        → (bytes ≡ replicate held.zeros 0) ⊎ ((frame : X) × IsFrameFor index frames k frame × (bytes ≡ spelling frame ++ replicate held.zeros 0))
    by_case (inl zeros) = inl zeros
    by_case (inr some) =
        let from = comes-from index spelling frames some.0 some.1.listed in
        inr (
          from.frame,
          record { listed = from.listed; own = ap (λ (r : ℕ × List ℕ). r.0) from.is ∙ some.1.own },
          some.2 ∙ ap (λ (r : ℕ × List ℕ). r.1 ++ replicate held.zeros 0) (sym from.is),
        )
