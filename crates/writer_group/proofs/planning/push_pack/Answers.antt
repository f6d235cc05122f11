use Rattle.std.proofs.Common.{ℕ, ap, arith}
use Rattle.std.specs.Prelude.{slice_index_or}
use Rattle.writer_group.specs.Planning.{chunk_count}
use Rattle.writer_group.proofs.PackLoads.{length-chunked}
use Rattle.writer_group.proofs.planning.push_pack.Goals as goal

pub push_chunks-requires-clause-left : goal.push_chunks-requires-clause-left
push_chunks-requires-clause-left c =
    let size = slice_index_or c.args.sizes.now c.args.first 0 in
    omega (
      arith,
      c.requires.left,
      length-chunked c.args.room c.args.first c.args.pack size c.if-pack.true,
      ap (λ (n : ℕ). chunk_count c.args.room (slice_index_or c.args.sizes.now n 0)) c.from.ensures,
    )
