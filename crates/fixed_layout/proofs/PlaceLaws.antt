-- Bytes that are placed in a slot: what the datagram holds then.
use Rattle.std.proofs.Common.{◌≡◌, ◌≢◌, ℕ, ◌<◌, ◌≤◌, List, length, take, get_or, Some, sym, ap, ◌∙◌}
use Rattle.std.specs.List.{HoldsAt}
use Rattle.std.proofs.lemmas.List.{get_or_default}
use Rattle.fixed_layout.specs.declared.slot.Slot.{Slot}
use Rattle.fixed_layout.specs.Slots.{end_of, AreApart}
use Rattle.fixed_layout.specs.Datagrams.{filled, placed, slot_of, slot_at}
use Rattle.fixed_layout.proofs.SlotLaws.{length-filled, slot-own, slot-other, header-kept}
use Rattle.fixed_layout.proofs.DatagramLaws.{slots-apart, header-apart}

abbrev none : Slot
none = record { offset = 0; size = 0; need = 0 }

-- what is placed at an index
pub record IsPlaced (slots : List Slot) (index : ℕ) (datagram new bytes : List ℕ) : Type 0 where
  pub within : index < length slots
  pub long : length (filled (slot_at slots index) bytes) ≡ (slot_at slots index).size
  pub room : end_of (slot_at slots index) ≤ length datagram
  pub is : new ≡ placed datagram (slot_at slots index) bytes

pub is-placed : (slots : List Slot) (index : ℕ) (datagram new bytes : List ℕ) → index < length slots → HoldsAt (λ (slot : Slot). length bytes ≤ slot.size) slots index → HoldsAt (λ (slot : Slot). end_of slot ≤ length datagram) slots index
    → new ≡ placed datagram (slot_at slots index) bytes → IsPlaced slots index datagram new bytes
is-placed slots index datagram new bytes within fits room is = record { within = within; long = length-filled (slot_at slots index) bytes (fits none); room = room none; is = is }

pub placed-here : (slots : List Slot) (index : ℕ) (datagram new bytes : List ℕ) → IsPlaced slots index datagram new bytes → HoldsAt (λ (slot : Slot). new ≡ placed datagram slot bytes) slots index
placed-here slots index datagram new bytes p = λ d. p.is ∙ ap (λ (slot : Slot). placed datagram slot bytes) (get_or_default slots index none d p.within)

pub placed-held : (slots : List Slot) (index : ℕ) (datagram new bytes : List ℕ) → IsPlaced slots index datagram new bytes → HoldsAt (λ (slot : Slot). slot_of new slot ≡ Some (filled slot bytes)) slots index
placed-held slots index datagram new bytes p = λ d.
    let same : slot_at slots index ≡ get_or slots index d = get_or_default slots index none d p.within in
    ap (λ (slot : Slot). slot_of new slot) (sym same) ∙ ap (λ (l : List ℕ). slot_of l (slot_at slots index)) p.is ∙ slot-own datagram (slot_at slots index) (filled (slot_at slots index) bytes) p.long p.room
    ∙ ap (λ (slot : Slot). Some (filled slot bytes)) same

pub placed-others : (start : ℕ) (slots : List Slot) (index : ℕ) (datagram new bytes : List ℕ) → AreApart start slots → IsPlaced slots index datagram new bytes
    → (other : ℕ) → other < length slots → other ≢ index → HoldsAt (λ (slot : Slot). slot_of new slot ≡ slot_of datagram slot) slots other
placed-others start slots index datagram new bytes apart p other within differs = λ d.
    let same : slot_at slots other ≡ get_or slots other d = get_or_default slots other none d within in
    ap (λ (slot : Slot). slot_of new slot) (sym same) ∙ ap (λ (l : List ℕ). slot_of l (slot_at slots other)) p.is
    ∙ slot-other datagram (slot_at slots index) (slot_at slots other) (filled (slot_at slots index) bytes) p.long p.room (slots-apart start slots index other apart p.within within (λ (e : index ≡ other). differs (sym e)))
    ∙ ap (λ (slot : Slot). slot_of datagram slot) same

pub placed-header : (start : ℕ) (slots : List Slot) (index : ℕ) (datagram new bytes : List ℕ) → AreApart start slots → IsPlaced slots index datagram new bytes → take start new ≡ take start datagram
placed-header start slots index datagram new bytes apart p =
    ap (take start) p.is ∙ header-kept datagram start (slot_at slots index) (filled (slot_at slots index) bytes) p.long p.room (header-apart start slots index apart p.within)
