use Rattle.std.proofs.Common.{◌+◌, ℕ, List, length, refl, ap, ◌∙◌}
use Rattle.std.specs.Prelude.{slice_range}
use Rattle.uadp_header.proofs.Puttings.{Puts-same}
use Rattle.chunker.specs.Chunks.{cut_at}
use Rattle.chunker.specs.Spelling.{chunk_bytes}
use Rattle.writer_group.specs.Payloads.{Spelled}
use Rattle.writer_group.proofs.LoadBytes.{chunk-read}
use Rattle.writer_group.proofs.laying.Cargo.put_chunk.Goals as goal

pub returns : goal.returns
returns c =
    let cargo = c.args.self.now in
    let frame = c.frame-frame.result.now in
    let message : List ℕ = slice_range cargo.bytes.now frame.start frame.end in
    let offset = c.cut-offset.result.0 in
    let len = c.cut-offset.result.1 in
    let is = chunk-read cargo.room frame.number c.args.index offset len (length message) message (slice_range message offset (offset + len)) c.cut-offset.ensures.offset c.cut-offset.ensures.len refl refl in
    Puts-same c.args.pen.now c.put_chunk_payload.new.pen _ _ c.put_chunk_payload.ensures
    (ap chunk_bytes is ∙ ap (λ (f : Spelled). chunk_bytes (cut_at cargo.room f.number f.bytes c.args.index)) c.frame-frame.ensures.frame)
