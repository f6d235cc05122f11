use Rattle.std.proofs.Common.{◌++◌, ◌∷◌, [], List, length, map, sym, ap, ◌∙◌, append_assoc, arith}
use Rattle.std.specs.List.{range_with_len}
use Rattle.std.proofs.lemmas.List.{length-append}
use Rattle.std.proofs.lemmas.List.FromFn.{map-range_with_len_more, length-map-range_with_len}
use Rattle.writer_group.specs.declared.load.Load.{Load}
use Rattle.writer_group.specs.declared.load.Load.TheVariants.{Chunk}
use Rattle.writer_group.proofs.planning.push_chunks.Goals as goal

pub push_load-requires : goal.push_load-requires
push_load-requires c =
    omega (
      arith,
      ap length c.loop-index.invariant.pushed,
      length-append c.args.loads.now.items (map (Chunk c.args.frame) (range_with_len 0 c.loop-index.index)),
      length-map-range_with_len (Chunk c.args.frame) 0 c.loop-index.index,
      c.loop-index.invariant.capacity,
      c.requires.left,
      c.chunks-count.ensures,
    )

pub loop-index-preserved : goal.loop-index-preserved
loop-index-preserved c =
    let old = c.args.loads.now.items in
    let so_far = map (Chunk c.args.frame) (range_with_len 0 c.loop-index.index) in
    record {
      pushed = c.push_load.ensures.pushed ∙ ap (λ (l : List Load). l ++ Chunk c.args.frame c.loop-index.index ∷ []) c.loop-index.invariant.pushed
          ∙ append_assoc old so_far (Chunk c.args.frame c.loop-index.index ∷ [])
          ∙ ap (λ (l : List Load). old ++ l) (sym (map-range_with_len_more (Chunk c.args.frame) 0 c.loop-index.index c.loop-index.index (omega arith)));
      capacity = omega (arith, c.loop-index.invariant.capacity, c.push_load.ensures.capacity);
    }
