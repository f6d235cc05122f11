-- The payload of a dynamic datagram (OPC 10000-14, UADP NetworkMessage): the sizes of its frames, left out for one frame, and the frames.
use Rattle.std.specs.Prelude.{◌≡◌, ℕ, zero, suc, ◌+◌, ◌*◌, ◌<◌, ◌≤◌, List, [], ◌∷◌, ◌++◌, length, take, drop, map, zip, sum, slice_range, nat_lt, if◌then◌else◌}
use Rattle.std.specs.List.{All, flat_map}
use Rattle.std.specs.Int.{w16, to_le_bytes, from_le_bytes}
use Rattle.payload_layout.specs.declared.parts.Part.{Part}

abbrev pub sizes_bytes : List ℕ → List ℕ
sizes_bytes sizes = if nat_lt 1 (length sizes) then flat_map (to_le_bytes w16) sizes else []

-- the payload that these frames are laid out in
abbrev pub dynamic_payload : List (List ℕ) → List ℕ
dynamic_payload frames = sizes_bytes (map length frames) ++ flat_map (λ frame. frame) frames

-- the sizes at a payload's front
abbrev pub sizes_of : ℕ → List ℕ → List ℕ
sizes_of zero payload = []
sizes_of (suc count) payload = from_le_bytes w16 (take 2 payload) ∷ sizes_of count (drop 2 payload)

-- the pieces of these sizes
abbrev pub cut_by : List ℕ → List ℕ → List (List ℕ)
cut_by [] bytes = []
cut_by (size ∷ sizes) bytes = take size bytes ∷ cut_by sizes (drop size bytes)

-- the frames of a payload that has this many
abbrev pub frames_of : ℕ → List ℕ → List (List ℕ)
frames_of count payload = if nat_lt 1 count then cut_by (sizes_of count payload) (drop (2 * count) payload) else take count (payload ∷ [])

-- the frames of a payload, one for each of the writer ids of its header, and each with its id
abbrev pub parts_of : List ℕ → List ℕ → List (ℕ × List ℕ)
parts_of ids payload = zip ids (frames_of (length ids) payload)

-- frames with the ids of their writers: the ids, and the frames alone
abbrev pub ids_in : List (ℕ × List ℕ) → List ℕ
ids_in parts = map (λ part. part.0) parts

abbrev pub frames_in : List (ℕ × List ℕ) → List (List ℕ)
frames_in parts = map (λ part. part.1) parts

-- the size of a frame that stands with its id
abbrev pub part_size : ℕ × List ℕ → ℕ
part_size part = length part.1

-- more than one frame, and the sizes and the frames that they tell of pass the payload's end
pub record HasBadSizes (count : ℕ) (payload : List ℕ) : Type 0 where
  pub several : 1 < count
  pub past : length payload < 2 * count + sum (sizes_of count payload)

abbrev pub frame_at : List ℕ → Part → List ℕ
frame_at payload part = slice_range payload part.start part.end

pub record IsWithin (payload : List ℕ) (part : Part) : Type 0 where
  pub rising : part.start ≤ part.end
  pub within : part.end ≤ length payload

-- parts one behind the other, the first from this byte on
abbrev pub StandBehind : ℕ → List Part → Type 0
StandBehind start [] = Unit {0}
StandBehind start (part ∷ parts) = (part.start ≡ start) × StandBehind part.end parts

-- each has a UInt16 size
abbrev pub AreShort : List (List ℕ) → Type 0
AreShort frames = All (λ frame. length frame < 65536) frames

-- the payload of these frames stands in front of some rest
pub record BeginsWithPayload (payload : List ℕ) (frames : List (List ℕ)) : Type 0 where
  pub rest : List ℕ
  pub split : payload ≡ dynamic_payload frames ++ rest
