-- The refusals of slots, in their order.
use Rattle.std.specs.Prelude.{ℕ, ◌<◌, List, ◌∷◌, take, length, Any}
use Rattle.std.specs.List.{HoldsAt}
use Rattle.fixed_layout.specs.declared.slot.Slot.{Slot}
use Rattle.fixed_layout.specs.declared.slot_fault.SlotFault.{SlotFault}
use Rattle.fixed_layout.specs.declared.slot_fault.SlotFault.TheVariants.{Clash, Small, Past}
use Rattle.fixed_layout.specs.Slots.{end_of, ShareAByte, header_of, AreApart, AreLarge}

-- the slot at this index shares a byte with the header or an earlier slot
abbrev pub IsClash : ℕ → List Slot → ℕ → Type 0
IsClash start slots index = HoldsAt (λ slot. Any (λ earlier. ShareAByte earlier slot) (header_of start ∷ take index slots)) slots index

abbrev pub IsSmall : List Slot → ℕ → Type 0
IsSmall slots index = HoldsAt (λ slot. slot.size < slot.need) slots index

abbrev pub IsPast : ℕ → List Slot → ℕ → Type 0
IsPast limit slots index = HoldsAt (λ slot. limit < end_of slot) slots index

-- the first of the slots of which this holds
pub record IsFirstSlot (slots : List Slot) (P : ℕ → Type 0) (index : ℕ) : Type 0 where
  pub within : index < length slots
  pub here : P index
  pub none_before : (k : ℕ) → k < index → ¬ P k

-- what refuses the slots: no fault before it in this order holds of them
abbrev pub RefusesSlots : ℕ → ℕ → List Slot → SlotFault → Type 0
RefusesSlots start limit slots (Clash index) = IsFirstSlot slots (IsClash start slots) index
RefusesSlots start limit slots (Small index) = AreApart start slots × IsFirstSlot slots (IsSmall slots) index
RefusesSlots start limit slots (Past index) = AreApart start slots × AreLarge slots × IsFirstSlot slots (IsPast limit slots) index
