-- Slots of a fixed layout (OPC 10000-14, periodic fixed data layout): each writer's DataSetMessage has a place of its own in the datagram, which is always the same.
use Rattle.std.specs.Prelude.{ℕ, ◌+◌, ◌<◌, ◌≤◌, List, ◌∷◌, All, AllPairs}
use Rattle.fixed_layout.specs.declared.slot.Slot.{Slot}

-- where a slot ends; the offset counts from the datagram's first byte
abbrev pub end_of : Slot → ℕ
end_of slot = slot.offset + slot.size

-- the byte at this place is the slot's
pub record Covers (slot : Slot) (place : ℕ) : Type 0 where
  pub begun : slot.offset ≤ place
  pub not_over : place < end_of slot

pub record ShareAByte (one other : Slot) : Type 0 where
  pub place : ℕ
  pub of_one : Covers one place
  pub of_other : Covers other place

abbrev pub LieApart : Slot → Slot → Type 0
LieApart one other = ¬ ShareAByte one other

-- the header, as the bytes in front of where the slots may begin
abbrev pub header_of : ℕ → Slot
header_of start = record { offset = 0; size = start; need = 0 }

-- no two slots, nor the header and one of them, share a byte
abbrev pub AreApart : ℕ → List Slot → Type 0
AreApart start slots = AllPairs LieApart (header_of start ∷ slots)

-- each slot is as large as what it is for
abbrev pub AreLarge : List Slot → Type 0
AreLarge slots = All (λ slot. slot.need ≤ slot.size) slots

abbrev pub AreWithin : ℕ → List Slot → Type 0
AreWithin limit slots = All (λ slot. end_of slot ≤ limit) slots

-- the slots of a datagram with a header of `start` bytes, and of at most `limit` bytes without its signature; that the header keeps to the limit isn't asked
pub record AreSlots (start limit : ℕ) (slots : List Slot) : Type 0 where
  pub apart : AreApart start slots
  pub large : AreLarge slots
  pub within : AreWithin limit slots

-- what is accepted as the slots of such a datagram
pub record Layout : Type 0 where
  pub start : ℕ
  pub limit : ℕ
  pub slots : List Slot

abbrev pub layout_of : ℕ → ℕ → List Slot → Layout
layout_of start limit slots = record { start = start; limit = limit; slots = slots }
