-- Which datagrams a turn makes, as loads.
use Rattle.std.specs.Prelude.{ℕ, ◌+◌, ◌-◌, ◌/◌, List, [], ◌∷◌, ◌++◌, map, slice_index_or, if◌then◌else◌}
use Rattle.std.specs.List.{range_with_len}
use Rattle.payload_layout.specs.declared.packing.Pack.{Pack}
use Rattle.payload_layout.specs.Packing.{packs_of, pack_of}
use Rattle.writer_group.specs.declared.load.Load.{Load}
use Rattle.writer_group.specs.declared.load.Load.TheVariants.{Frames, Chunk}

-- how many chunks a frame of this size has, with this room in each
abbrev pub chunk_count : ℕ → ℕ → ℕ
chunk_count room size = (size + room - 1) / room

abbrev pub chunk_loads : ℕ → ℕ → ℕ → List Load
chunk_loads room frame size = map (Chunk frame) (range_with_len 0 (chunk_count room size))

-- the loads of a pack whose first frame has this index and size
abbrev pub pack_loads : ℕ → ℕ → Pack → ℕ → List Load
pack_loads room first pack size = if pack.chunked then chunk_loads room first size else Frames first pack.count ∷ []

-- the loads of a pack, of frames of these sizes
abbrev pub pack_loads_of : ℕ → ℕ → Pack → List ℕ → List Load
pack_loads_of room first pack sizes = pack_loads room first pack (slice_index_or sizes first 0)

abbrev pub loads_from : ℕ → List ℕ → ℕ → List Pack → List Load
loads_from room sizes first [] = []
loads_from room sizes first (pack ∷ packs) =
    pack_loads_of room first pack sizes ++ loads_from room sizes (first + pack.count) packs

-- the loads of frames of these sizes
abbrev pub planned : ℕ → ℕ → List ℕ → List Load
planned frame_room room sizes = loads_from room sizes 0 (map pack_of (packs_of (λ size. size) frame_room sizes))
