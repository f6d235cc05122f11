-- Slots that share no byte, and bytes that are laid in one of them.
use Rattle.std.proofs.Common.{◌≡◌, ℕ, zero, suc, ◌+◌, ◌-◌, ◌<◌, ◌≤◌, ◌⊎◌, inl, inr, Bool, List, [], ◌++◌, length, take, drop, get_or, Some, None, refl, sym, ap, ◌∙◌, append_assoc, append-nil, arith, length-append, length-take-le}
use Rattle.std.specs.Prelude.{max, min, slice_range, replicate, nat_le, if◌then◌else◌}
use Rattle.std.proofs.lemmas.Bool.{cases_lt, le-leb}
use Rattle.std.proofs.lemmas.List.{length-drop, length-replicate, take-take, take-append-le, take-append-drop, drop-append-le, take_at, drop_at, drop-drop, get_or-take, get_or-drop, nil_from_length}
use Rattle.std.proofs.lemmas.Slice.{between_is}
use Rattle.ua_binary.specs.Writing.{laid}
use Rattle.fixed_layout.specs.declared.slot.Slot.{Slot}
use Rattle.fixed_layout.specs.Slots.{end_of, Covers, ShareAByte, LieApart, header_of}
use Rattle.fixed_layout.specs.Datagrams.{filled, slot_of}

-- the later begin stands before the earlier end exactly where slots share a byte
pub share-from : (one other : Slot) → max one.offset other.offset < min (end_of one) (end_of other) → ShareAByte one other
share-from one other before = record { place = max one.offset other.offset; of_one = record { begun = omega arith; not_over = omega arith }; of_other = record { begun = omega arith; not_over = omega arith } }

pub share-gives : (one other : Slot) → ShareAByte one other → max one.offset other.offset < min (end_of one) (end_of other)
share-gives one other share = omega (arith, share.of_one.begun, share.of_one.not_over, share.of_other.begun, share.of_other.not_over)

-- slots with bytes, of which each begins before the other ends, share one
pub share-between : (one other : Slot) → 0 < one.size → 0 < other.size → one.offset < end_of other → other.offset < end_of one → ShareAByte one other
share-between one other some_one some_other before after = share-from one other (omega arith)

pub share-turned : (one other : Slot) → ShareAByte one other → ShareAByte other one
share-turned one other share = record { place = share.place; of_one = share.of_other; of_other = share.of_one }

pub apart-turned : (one other : Slot) → LieApart one other → LieApart other one
apart-turned one other apart = λ share. apart (share-turned other one share)

-- slots with bytes that lie apart stand one behind the other
pub apart-order : (one other : Slot) → 0 < one.size → 0 < other.size → LieApart one other → (end_of other ≤ one.offset) ⊎ (end_of one ≤ other.offset)
apart-order one other some_one some_other apart = by_first (cases_lt one.offset (end_of other)) (cases_lt other.offset (end_of one))
  where
    by_first : (one.offset < end_of other) ⊎ (end_of other ≤ one.offset) → (other.offset < end_of one) ⊎ (end_of one ≤ other.offset) → (end_of other ≤ one.offset) ⊎ (end_of one ≤ other.offset)
    by_first (inr behind) second = inl behind
    by_first (inl before) (inr behind) = inr behind
    by_first (inl before) (inl after) = absurd (apart (share-between one other some_one some_other before after))

pub order-apart : (one other : Slot) → (end_of other ≤ one.offset) ⊎ (end_of one ≤ other.offset) → LieApart one other
order-apart one other (inl behind) share = omega (arith, behind, share.of_one.begun, share.of_other.not_over)
order-apart one other (inr before) share = omega (arith, before, share.of_other.begun, share.of_one.not_over)

pub empty-apart : (one other : Slot) → (one.size ≡ 0) ⊎ (other.size ≡ 0) → LieApart one other
empty-apart one other (inl none) share = omega (arith, none, share.of_one.begun, share.of_one.not_over)
empty-apart one other (inr none) share = omega (arith, none, share.of_other.begun, share.of_other.not_over)

pub apart-cases : (one other : Slot) → LieApart one other → (end_of one ≤ other.offset) ⊎ ((end_of other ≤ one.offset) ⊎ ((one.size ≡ 0) ⊎ (other.size ≡ 0)))
apart-cases one other apart = by_first (cases_lt 0 one.size) (cases_lt 0 other.size)
  where
    by_order : (end_of other ≤ one.offset) ⊎ (end_of one ≤ other.offset) → (end_of one ≤ other.offset) ⊎ ((end_of other ≤ one.offset) ⊎ ((one.size ≡ 0) ⊎ (other.size ≡ 0)))
    by_order (inl behind) = inr (inl behind)
    by_order (inr before) = inl before

    by_first : (0 < one.size) ⊎ (one.size ≤ 0) → (0 < other.size) ⊎ (other.size ≤ 0) → (end_of one ≤ other.offset) ⊎ ((end_of other ≤ one.offset) ⊎ ((one.size ≡ 0) ⊎ (other.size ≡ 0)))
    by_first (inl some_one) (inl some_other) = by_order (apart-order one other some_one some_other apart)
    by_first (inl some_one) (inr none) = inr (inr (inr (omega arith)))
    by_first (inr none) second = inr (inr (inl (omega arith)))

pub cases-apart : (one other : Slot) → (end_of one ≤ other.offset) ⊎ ((end_of other ≤ one.offset) ⊎ ((one.size ≡ 0) ⊎ (other.size ≡ 0))) → LieApart one other
cases-apart one other (inl before) = order-apart one other (inr before)
cases-apart one other (inr (inl behind)) = order-apart one other (inl behind)
cases-apart one other (inr (inr none)) = empty-apart one other none

-- a slot with bytes begins behind the header
pub apart-header : (start : ℕ) (slot : Slot) → LieApart (header_of start) slot → (slot.size ≡ 0) ⊎ (start ≤ slot.offset)
apart-header start slot apart = by_case (apart-cases (header_of start) slot apart)
  where
    by_case : (0 + start ≤ slot.offset) ⊎ ((end_of slot ≤ 0) ⊎ ((start ≡ 0) ⊎ (slot.size ≡ 0))) → (slot.size ≡ 0) ⊎ (start ≤ slot.offset)
    by_case (inl behind) = inr (omega (arith, behind))
    by_case (inr (inl none)) = inl (omega (arith, none))
    by_case (inr (inr (inl none))) = inr (omega (arith, none))
    by_case (inr (inr (inr none))) = inl none

pub header-from : (start : ℕ) (slot : Slot) → (slot.size ≡ 0) ⊎ (start ≤ slot.offset) → LieApart (header_of start) slot
header-from start slot (inl none) = empty-apart (header_of start) slot (inr none)
header-from start slot (inr behind) = order-apart (header_of start) slot (inr (omega (arith, behind)))

-- text that is laid over bytes
as_parts : (bytes : List ℕ) (at : ℕ) (text : List ℕ) → laid bytes at text ≡ take at bytes ++ (text ++ drop (at + length text) bytes)
as_parts bytes at text = append_assoc (take at bytes) text (drop (at + length text) bytes)

pub length-laid : (bytes : List ℕ) (at : ℕ) (text : List ℕ) → at + length text ≤ length bytes → length (laid bytes at text) ≡ length bytes
length-laid bytes at text within =
    omega (
      arith,
      length-append (take at bytes ++ text) (drop (at + length text) bytes),
      length-append (take at bytes) text,
      length-take-le at bytes (omega arith),
      length-drop (at + length text) bytes,
      within,
    )

pub laid-nothing : (bytes : List ℕ) (at : ℕ) → laid bytes at [] ≡ bytes
laid-nothing bytes at =
    let same : at + 0 ≡ at = omega arith in
    ap (λ (front : List ℕ). front ++ drop (at + 0) bytes) (append-nil (take at bytes)) ∙ ap (λ (n : ℕ). take at bytes ++ drop n bytes) same ∙ take-append-drop at bytes

pub take-laid : (bytes : List ℕ) (at : ℕ) (text : List ℕ) (n : ℕ) → at ≤ length bytes → n ≤ at → take n (laid bytes at text) ≡ take n bytes
take-laid bytes at text n within below =
    ap (take n) (as_parts bytes at text)
    ∙ take-append-le n (take at bytes) (text ++ drop (at + length text) bytes) (omega (arith, length-take-le at bytes within))
    ∙ take-take n at bytes below

pub drop-laid : (bytes : List ℕ) (at : ℕ) (text : List ℕ) (n : ℕ) → at ≤ length bytes → at + length text ≤ n → drop n (laid bytes at text) ≡ drop n bytes
drop-laid bytes at text n within above =
    let m : ℕ = at + length text in
    let far : m + (n - m) ≡ n = omega arith in
    let long : length (take at bytes ++ text) ≡ m = omega (arith, length-append (take at bytes) text, length-take-le at bytes within) in
    ap (λ (k : ℕ). drop k (laid bytes at text)) (sym far)
    ∙ sym (drop-drop (n - m) m (laid bytes at text))
    ∙ ap (drop (n - m)) (drop_at (take at bytes ++ text) (drop m bytes) m long)
    ∙ drop-drop (n - m) m bytes
    ∙ ap (λ (k : ℕ). drop k bytes) far

-- what lies behind a place before it
pub laid-behind : (bytes : List ℕ) (at : ℕ) (text : List ℕ) (n : ℕ) → n ≤ at → at ≤ length bytes → drop n (laid bytes at text) ≡ laid (drop n bytes) (at - n) text
laid-behind bytes at text n behind within =
    let m : ℕ = at + length text in
    let far : n + ((at - n) + length text) ≡ m = omega (arith, behind) in
    let front : drop n (take at bytes ++ text) ≡ take (at - n) (drop n bytes) ++ text =
    drop-append-le n (take at bytes) text (omega (arith, length-take-le at bytes within)) ∙ ap (λ (l : List ℕ). l ++ text) (sym (between_is bytes n at)) in
    let rest : drop m bytes ≡ drop ((at - n) + length text) (drop n bytes) = ap (λ (k : ℕ). drop k bytes) (sym far) ∙ sym (drop-drop ((at - n) + length text) n bytes) in
    drop-append-le n (take at bytes ++ text) (drop m bytes) (omega (arith, length-append (take at bytes) text, length-take-le at bytes within))
    ∙ ap (λ (l : List ℕ). l ++ drop m bytes) front
    ∙ ap (λ (l : List ℕ). (take (at - n) (drop n bytes) ++ text) ++ l) rest

own-range : (bytes : List ℕ) (at : ℕ) (text : List ℕ) (end : ℕ) → at ≤ length bytes → end ≡ at + length text → slice_range (laid bytes at text) at end ≡ text
own-range bytes at text end within is =
    let size : end - at ≡ length text = omega arith in
    ap (λ (l : List ℕ). take (end - at) (drop at l)) (as_parts bytes at text)
    ∙ ap (take (end - at)) (drop_at (take at bytes) (text ++ drop (at + length text) bytes) at (length-take-le at bytes within))
    ∙ take_at text (drop (at + length text) bytes) (end - at) (sym size)

range-below : (bytes : List ℕ) (at : ℕ) (text : List ℕ) (from to : ℕ) → at ≤ length bytes → to ≤ at → slice_range (laid bytes at text) from to ≡ slice_range bytes from to
range-below bytes at text from to within below =
    between_is (laid bytes at text) from to ∙ ap (drop from) (take-laid bytes at text to within below) ∙ sym (between_is bytes from to)

range-above : (bytes : List ℕ) (at : ℕ) (text : List ℕ) (from to : ℕ) → at ≤ length bytes → at + length text ≤ from → slice_range (laid bytes at text) from to ≡ slice_range bytes from to
range-above bytes at text from to within above = ap (take (to - from)) (drop-laid bytes at text from within above)

-- no byte
range-none : (one other : List ℕ) (from to : ℕ) → to ≤ from → slice_range one from to ≡ slice_range other from to
range-none one other from to none =
    let nothing : to - from ≡ 0 = omega arith in
    ap (λ (n : ℕ). take n (drop from one)) nothing ∙ ap (λ (n : ℕ). take n (drop from other)) (sym nothing)

slot-same : (one other : List ℕ) (slot : Slot) → length one ≡ length other → slice_range one slot.offset (end_of slot) ≡ slice_range other slot.offset (end_of slot) → slot_of one slot ≡ slot_of other slot
slot-same one other slot long same =
    ap (λ (n : ℕ). if nat_le (end_of slot) n then Some (slice_range one slot.offset (end_of slot)) else None) long
    ∙ ap (λ (bytes : List ℕ). if nat_le (end_of slot) (length other) then Some bytes else None) same

pub slot-is : (datagram : List ℕ) (slot : Slot) → end_of slot ≤ length datagram → slot_of datagram slot ≡ Some (slice_range datagram slot.offset (end_of slot))
slot-is datagram slot within = ap (λ (b : Bool). if b then Some (slice_range datagram slot.offset (end_of slot)) else None) (le-leb (end_of slot) (length datagram) within)

pub length-filled : (slot : Slot) (bytes : List ℕ) → length bytes ≤ slot.size → length (filled slot bytes) ≡ slot.size
length-filled slot bytes fits = omega (arith, length-append bytes (replicate (slot.size - length bytes) 0), length-replicate {A = ℕ} (slot.size - length bytes) 0, fits)

-- what is laid in a slot stands there
pub slot-own : (datagram : List ℕ) (slot : Slot) (text : List ℕ) → length text ≡ slot.size → end_of slot ≤ length datagram → slot_of (laid datagram slot.offset text) slot ≡ Some text
slot-own datagram slot text long within =
    slot-is (laid datagram slot.offset text) slot (omega (arith, length-laid datagram slot.offset text (omega arith)))
    ∙ ap (λ (bytes : List ℕ). Some bytes) (own-range datagram slot.offset text (end_of slot) (omega arith) (omega arith))

-- and a slot apart from it keeps what it has
pub slot-other : (datagram : List ℕ) (one other : Slot) (text : List ℕ) → length text ≡ one.size → end_of one ≤ length datagram → LieApart one other → slot_of (laid datagram one.offset text) other ≡ slot_of datagram other
slot-other datagram one other text long within apart = by_one one.size refl
  where
    kept : slice_range (laid datagram one.offset text) other.offset (end_of other) ≡ slice_range datagram other.offset (end_of other) → slot_of (laid datagram one.offset text) other ≡ slot_of datagram other
    kept same = slot-same (laid datagram one.offset text) datagram other (length-laid datagram one.offset text (omega arith)) same

    by_order : (end_of other ≤ one.offset) ⊎ (end_of one ≤ other.offset) → slot_of (laid datagram one.offset text) other ≡ slot_of datagram other
    by_order (inl below) = kept (range-below datagram one.offset text other.offset (end_of other) (omega arith) below)
    by_order (inr above) = kept (range-above datagram one.offset text other.offset (end_of other) (omega arith) (omega arith))

    by_other : 0 < one.size → (n : ℕ) → other.size ≡ n → slot_of (laid datagram one.offset text) other ≡ slot_of datagram other
    by_other some_one zero none = kept (range-none (laid datagram one.offset text) datagram other.offset (end_of other) (omega arith))
    by_other some_one (suc n) some = by_order (apart-order one other some_one (omega arith) apart)

    by_one : (n : ℕ) → one.size ≡ n → slot_of (laid datagram one.offset text) other ≡ slot_of datagram other
    by_one zero none =
        let nothing : text ≡ [] = nil_from_length text (omega arith) in
        ap (λ (t : List ℕ). slot_of (laid datagram one.offset t) other) nothing ∙ ap (λ (bytes : List ℕ). slot_of bytes other) (laid-nothing datagram one.offset)
    by_one (suc n) some = by_other (omega arith) other.size refl

-- so does the header
pub header-kept : (datagram : List ℕ) (start : ℕ) (slot : Slot) (text : List ℕ) → length text ≡ slot.size → end_of slot ≤ length datagram → LieApart (record { offset = 0; size = start; need = 0 }) slot
    → take start (laid datagram slot.offset text) ≡ take start datagram
header-kept datagram start slot text long within apart = by_start start refl slot.size refl
  where
    by_order : (end_of slot ≤ 0) ⊎ (0 + start ≤ slot.offset) → 0 < slot.size → take start (laid datagram slot.offset text) ≡ take start datagram
    by_order (inl below) some = absurd (omega arith)
    by_order (inr above) some = take-laid datagram slot.offset text start (omega arith) (omega arith)

    by_start : (n : ℕ) → start ≡ n → (m : ℕ) → slot.size ≡ m → take start (laid datagram slot.offset text) ≡ take start datagram
    by_start zero none m size = ap (λ (n : ℕ). take n (laid datagram slot.offset text)) none ∙ ap (λ (n : ℕ). take n datagram) (sym none)
    by_start (suc n) some zero nothing =
        let empty : text ≡ [] = nil_from_length text (omega arith) in
        ap (λ (t : List ℕ). take start (laid datagram slot.offset t)) empty ∙ ap (take start) (laid-nothing datagram slot.offset)
    by_start (suc n) some (suc m) bytes = by_order (apart-order (record { offset = 0; size = start; need = 0 }) slot (omega arith) (omega arith) apart) (omega arith)

-- and each byte that the slot doesn't cover
pub byte-kept : (datagram : List ℕ) (slot : Slot) (text : List ℕ) (place : ℕ) → length text ≡ slot.size → end_of slot ≤ length datagram → ¬ Covers slot place → get_or (laid datagram slot.offset text) place 0 ≡ get_or datagram place 0
byte-kept datagram slot text place long within out = by_place (cases_lt place slot.offset) (cases_lt place (end_of slot))
  where
    by_place : (place < slot.offset) ⊎ (slot.offset ≤ place) → (place < end_of slot) ⊎ (end_of slot ≤ place) → get_or (laid datagram slot.offset text) place 0 ≡ get_or datagram place 0
    by_place (inl below) second =
        sym (get_or-take (place + 1) (laid datagram slot.offset text) place 0 (omega arith))
        ∙ ap (λ (l : List ℕ). get_or l place 0) (take-laid datagram slot.offset text (place + 1) (omega arith) (omega arith))
        ∙ get_or-take (place + 1) datagram place 0 (omega arith)
    by_place (inr begun) (inl not_over) = absurd (out (record { begun = begun; not_over = not_over }))
    by_place (inr begun) (inr over) =
        let same : place + 0 ≡ place = omega arith in
        ap (λ (n : ℕ). get_or (laid datagram slot.offset text) n 0) (sym same)
        ∙ sym (get_or-drop place (laid datagram slot.offset text) 0 0)
        ∙ ap (λ (l : List ℕ). get_or l 0 0) (drop-laid datagram slot.offset text place (omega arith) (omega arith))
        ∙ get_or-drop place datagram 0 0
        ∙ ap (λ (n : ℕ). get_or datagram n 0) same
