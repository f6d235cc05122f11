-- Datagrams of a fixed layout (OPC 10000-14, periodic fixed data layout), without a signature: the header, each frame at its slot, and zeros elsewhere, up to the end of the slot that ends last.
use Rattle.std.specs.Prelude.{◌≡◌, ℕ, ◌-◌, ◌<◌, ◌≤◌, max, List, ◌++◌, length, drop, map, replicate, slice_range, slice_index_or, fold, All, Contains, nat_le, Option, Some, None, if◌then◌else◌}
use Rattle.ua_binary.specs.Writing.{laid}
use Rattle.fixed_layout.specs.declared.slot.Slot.{Slot}
use Rattle.fixed_layout.specs.Slots.{end_of}

-- what stands in a slot that is given these bytes: the bytes, and zeros behind them
abbrev pub filled : Slot → List ℕ → List ℕ
filled slot bytes = bytes ++ replicate (slot.size - length bytes) 0

abbrev pub placed : List ℕ → Slot → List ℕ → List ℕ
placed datagram slot bytes = laid datagram slot.offset (filled slot bytes)

-- what stands in a slot of a datagram; nothing where the datagram ends before the slot does
abbrev pub slot_of : List ℕ → Slot → Option (List ℕ)
slot_of datagram slot = if nat_le (end_of slot) (length datagram) then Some (slice_range datagram slot.offset (end_of slot)) else None

-- where the slot that ends last ends
abbrev pub last_end : List Slot → ℕ
last_end slots = fold (λ end slot. max end (end_of slot)) 0 slots

abbrev pub slot_at : List Slot → ℕ → Slot
slot_at slots index = slice_index_or slots index (record { offset = 0; size = 0; need = 0 })

-- frames, each with its slot's index and its spelling: of a slot one at most, and it fits
pub record AreSpelled {X : Type 0} (slots : List Slot) (index : X → ℕ) (spelling : X → List ℕ) (frames : List X) : Type 0 where
  pub known : All (λ frame. index frame < length slots) frames
  pub fit : All (λ frame. length (spelling frame) ≤ (slot_at slots (index frame)).size) frames
  pub one_each : (one other : X) → Contains frames one → Contains frames other → index one ≡ index other → one ≡ other

-- the same of indexes with bytes
abbrev pub AreFrames : List Slot → List (ℕ × List ℕ) → Type 0
AreFrames slots frames = AreSpelled slots (λ frame. frame.0) (λ frame. frame.1) frames

abbrev pub spelled : {X : Type 0} → (X → ℕ) → (X → List ℕ) → List X → List (ℕ × List ℕ)
spelled index spelling frames = map (λ frame. (index frame, spelling frame)) frames

-- the header, and zeros
abbrev pub empty_datagram : List ℕ → List Slot → List ℕ
empty_datagram header slots = header ++ replicate (last_end slots - length header) 0

abbrev pub datagram_of : List ℕ → List Slot → List (ℕ × List ℕ) → List ℕ
datagram_of header slots frames = fold (λ datagram frame. placed datagram (slot_at slots frame.0) frame.1) (empty_datagram header slots) frames

-- what stands behind a header of `start` bytes, whatever they are
abbrev pub fixed_payload : ℕ → List Slot → List (ℕ × List ℕ) → List ℕ
fixed_payload start slots frames = drop start (datagram_of (replicate start 0) slots frames)
