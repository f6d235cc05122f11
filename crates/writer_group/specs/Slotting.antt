-- Frames in their slots.
use Rattle.std.specs.Prelude.{ℕ, List, fold}
use Rattle.fixed_layout.specs.declared.slot.Slot.{Slot}
use Rattle.fixed_layout.specs.declared.slots.Slots.{Slots}
use Rattle.fixed_layout.specs.Datagrams.{fixed_payload, placed, slot_at}
use Rattle.writer_group.specs.Payloads.{Spelled, in_slots}

abbrev pub placed_all : List Slot → List ℕ → List (ℕ × List ℕ) → List ℕ
placed_all slots datagram frames = fold (λ bytes frame. placed bytes (slot_at slots frame.0) frame.1) datagram frames

-- what stands after the header of a datagram with these slots and frames
abbrev pub slots_by : Slots → List Spelled → List ℕ
slots_by slots frames = fixed_payload slots.start slots.slots (in_slots frames)
