-- Which frames share a datagram. A frame is anything that has a size.
use Rattle.std.specs.Prelude.{◌≡◌, ℕ, ◌+◌, ◌*◌, ◌-◌, ◌<◌, List, [], ◌∷◌, ◌++◌, length, reverse, sum_by, Bool, true, false, not, ◌&&◌, nat_le, nat_lt, fold, if◌then◌else◌}
use Rattle.payload_layout.specs.declared.packing.Pack.{Pack}

-- the frames of one datagram, or one frame that is to be cut
pub record Packed (X : Type 0) : Type 0 where
  pub frames : List X
  pub cut : Bool

-- how long the payload is: its sizes, left out for one frame, and the frames
abbrev pub payload_size : {X : Type 0} → (X → ℕ) → List X → ℕ
payload_size size frames = (if nat_lt 1 (length frames) then 2 * length frames else 0) + sum_by size frames

-- they fit with 2 bytes for each writer id after the first, and are at most 255
abbrev pub fits : {X : Type 0} → (X → ℕ) → ℕ → List X → Bool
fits size room frames = nat_le (payload_size size frames + 2 * (length frames - 1)) room && nat_le (length frames) 255

abbrev pub alone : {X : Type 0} → (X → ℕ) → ℕ → X → Packed X
alone size room frame = record { frames = frame ∷ []; cut = not (fits size room (frame ∷ [])) }

-- the datagrams, the last first, after one more frame
abbrev pub packed_on : {X : Type 0} → (X → ℕ) → ℕ → List (Packed X) → X → List (Packed X)
packed_on size room [] frame = alone size room frame ∷ []
packed_on size room (last ∷ packs) frame =
    if not last.cut && fits size room (last.frames ++ frame ∷ [])
    then record { frames = last.frames ++ frame ∷ []; cut = false } ∷ packs
    else alone size room frame ∷ last ∷ packs

-- the datagrams of these frames, in order
abbrev pub packs_of : {X : Type 0} → (X → ℕ) → ℕ → List X → List (Packed X)
packs_of size room frames = reverse (fold (packed_on size room) [] frames)

-- what is told of one
abbrev pub pack_of : {X : Type 0} → Packed X → Pack
pack_of packed = record { count = length packed.frames; chunked = packed.cut }

-- a pack has a frame; it fits, or it is one frame that doesn't
pub record IsSound {X : Type 0} (size : X → ℕ) (room : ℕ) (packed : Packed X) : Type 0 where
  pub some : 0 < length packed.frames
  pub uncut : packed.cut ≡ false → fits size room packed.frames ≡ true
  pub alone : packed.cut ≡ true → (frame : X) × (packed.frames ≡ frame ∷ []) × (room < size frame)

-- another pack follows only where this one is cut, or the other's first frame doesn't fit in it too
pub record IsFull {X : Type 0} (size : X → ℕ) (room : ℕ) (packed next : Packed X) : Type 0 where
  pub first : X
  pub later : List X
  pub begins : next.frames ≡ first ∷ later
  pub full : packed.cut ≡ false → fits size room (packed.frames ++ first ∷ []) ≡ false
