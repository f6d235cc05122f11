-- The slots of fixed groups and read groups, as a fixed layout judges them.
use Rattle.std.specs.Prelude.{◌≡◌, ◌↔◌, ℕ, ◌+◌, ◌-◌, true, false, List, ◌∷◌, ◌++◌, map}
use Rattle.fixed_layout.specs.declared.slot.Slot.{Slot}
use Rattle.fixed_layout.specs.Slots.{AreSlots}
use Rattle.config_tables.specs.declared.key.Key.TheVariants as key
use Rattle.config_tables.specs.declared.place.Part.{Part}
use Rattle.config_tables.specs.declared.place.Part.TheVariants.{Group, ReadGroup}
use Rattle.config_tables.specs.Places.{is_inner_of, index_of}
use Rattle.config_tables.specs.Tables.{Located}
use Rattle.config_tables.specs.Values.{number_at}
use Rattle.ps_config.specs.Fields.{elements_of, width_named}
use Rattle.ps_config.specs.Headers.{signature_len}
use Rattle.ps_config.specs.Rooms.{is_fixed}
use Rattle.ps_config.specs.Settings.{layout_at, security_at}
use Rattle.ps_config.specs.Slots.{offset_of, size_of, header_of_fixed, front_length, has_slot_clash, is_slot_small, is_slot_past}

-- the slot that the numbers of a writer or a reader give, and what it has to hold
abbrev pub slot_of : List Located → Located → Slot
slot_of ts t = record { offset = offset_of t; size = size_of t; need = front_length t + width_named ts t }

-- the slots of a group's writers, or of a read group's readers
abbrev pub slots_in : Part → List Located → Located → List Slot
slots_in part ts group = map (slot_of ts) (elements_of part (index_of group.place) ts)

-- no fault of slots stands at the table, with these before it
pub record HasNoSlotFault (ts before : List Located) (t : Located) : Type 0 where
  pub clash : has_slot_clash ts before t ≡ false
  pub small : is_slot_small ts t ≡ false
  pub past : is_slot_past t ≡ false

-- so it is at each writer of the group, or reader of the read group, that has this index
abbrev pub LackSlotFaults : Part → List Located → ℕ → Type 0
LackSlotFaults part ts index =
    (before : List Located) (t : Located) (after : List Located)
    → ts ≡ before ++ t ∷ after → is_inner_of part index t.place ≡ true → HasNoSlotFault ts before t

-- they are the slots of a layout: after a header of so many bytes, in a datagram of at most so many with its signature
abbrev pub AreSlotsOf : Part → ℕ → ℕ → List Located → Located → Type 0
AreSlotsOf part header most ts group =
    AreSlots header (most - signature_len (security_at group.members)) (slots_in part ts group)

-- of a fixed group: no fault of slots stands at any of its writers exactly where their slots are those of a layout
abbrev pub IsJudgedByLayout : List Located → Located → Type 0
IsJudgedByLayout ts group =
    is_fixed (layout_at group.members) ≡ true
    → LackSlotFaults Group ts (index_of group.place)
    ↔ AreSlotsOf Group (header_of_fixed ts group.members) (number_at key.MaxSize 65000 1400 group.members) ts group

-- of a fixed read group the same; its slots may begin with the datagram
abbrev pub IsReadByLayout : List Located → Located → Type 0
IsReadByLayout ts group =
    is_fixed (layout_at group.members) ≡ true
    → LackSlotFaults ReadGroup ts (index_of group.place) ↔ AreSlotsOf ReadGroup 0 65000 ts group
