use Rattle.std.proofs.Common.{◌≤◌, length, take, drop, ap, ◌∙◌, arith}
use Rattle.std.proofs.lemmas.List.{length-drop, length-map, length-take}
use Rattle.uadp_header.specs.Headers.{ChunkOf, ListOf}
use Rattle.writer_group.specs.Holding.{cargo_in, frames_at, listed, spelled_at}
use Rattle.writer_group.specs.Loading.{AreSomeFrames, IsChunkOf}
use Rattle.writer_group.specs.Payloads.{Spelled}
use Rattle.writer_group.proofs.LoadBytes.{ids-read, length-id_bytes, length-ids}
use Rattle.writer_group.proofs.laying.Cargo.ids.Goals as goal

pub slice_bounds-result-end : goal.slice_bounds-result-end
slice_bounds-result-end c =
    let cargo = c.args.self.now in
    let is : AreSomeFrames (cargo_in cargo) c.in-Frames.first c.in-Frames.count = rw c.in-Frames.is at c.requires.load in
    omega (
      arith,
      is.within,
      length-map (listed cargo.frames.now) (spelled_at cargo.bytes.now),
      length-ids cargo.bytes.now cargo.frames.now c.requires.cargo.spelled,
      ap length c.ids.ensures,
      c.from-first.ensures,
      c.from.ensures,
    )

pub returns-in-Frames-clause-ids : goal.returns-in-Frames-clause-ids
returns-in-Frames-clause-ids c =
    let cargo = c.args.self.now in
    rw c.in-Frames.is (
    ap ListOf (ids-read cargo.bytes.now cargo.frames.now c.ids.result.now c.from-first.result c.from.result c.in-Frames.first c.in-Frames.count
    c.requires.cargo.spelled c.ids.ensures c.from-first.ensures c.from.ensures)
    )

pub returns-in-Frames-clause-are_ids : goal.returns-in-Frames-clause-are_ids
returns-in-Frames-clause-are_ids c =
    let cargo = c.args.self.now in
    let first = c.in-Frames.first in
    let count = c.in-Frames.count in
    let frames = frames_at cargo.bytes.now cargo.frames.now in
    let is : AreSomeFrames (cargo_in cargo) first count = rw c.in-Frames.is at c.requires.load in
    let mine = take count (drop first frames) in
    let long = ap length (ids-read cargo.bytes.now cargo.frames.now c.ids.result.now c.from-first.result c.from.result first count
    c.requires.cargo.spelled c.ids.ensures c.from-first.ensures c.from.ensures) in
    let size = length-id_bytes mine in
    let few : length mine ≤ 16 =
    omega (arith, length-take count (drop first frames), length-drop first frames, length-map (listed cargo.frames.now) (spelled_at cargo.bytes.now), c.requires.cargo.few) in
    (omega (arith, long, size, few), omega (arith, long, size))

pub frame-requires-clause-within : goal.frame-requires-clause-within
frame-requires-clause-within c =
    let cargo = c.args.self.now in
    let is : IsChunkOf (cargo_in cargo) c.in-Chunk.frame c.in-Chunk.index = rw c.in-Chunk.is at c.requires.load in
    omega (arith, is.within, length-map (listed cargo.frames.now) (spelled_at cargo.bytes.now))

pub returns-in-Chunk-clause-ids : goal.returns-in-Chunk-clause-ids
returns-in-Chunk-clause-ids c = rw c.in-Chunk.is (c.chunk_ids.ensures.ids ∙ ap (λ (frame : Spelled). ChunkOf frame.id) c.frame.ensures.frame)
