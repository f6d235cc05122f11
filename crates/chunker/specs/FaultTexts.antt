-- What faults say of themselves.
use Rattle.std.specs.Prelude.{ℕ, List, codes}
use Rattle.chunker.specs.declared.payload.ChunkFault.{ChunkFault}
use Rattle.chunker.specs.declared.payload.ChunkFault.TheVariants as chunk_faults

abbrev pub chunk_fault : ChunkFault → List ℕ
chunk_fault chunk_faults.Short =
    codes "the bytes end before the chunk does"
chunk_fault chunk_faults.BadLength =
    codes "the length of the chunk's data is below -1"
