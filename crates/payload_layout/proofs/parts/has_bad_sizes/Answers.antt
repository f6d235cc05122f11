use Rattle.std.proofs.Common.{◌≡◌, ◌*◌, ◌<◌, take, drop, ◌∙◌, arith}
use Rattle.std.specs.Int.{w16, from_le_bytes}
use Rattle.payload_layout.proofs.Pieces.{sum-step}
use Rattle.payload_layout.proofs.parts.has_bad_sizes.Goals as goal

pub loop-index-preserved : goal.loop-index-preserved
loop-index-preserved c =
    let below : c.loop-index.index < c.args.count = omega arith in
    let size : c.from-end-in-loop-index.result ≡ from_le_bytes w16 (take 2 (drop (2 * c.loop-index.index) c.args.payload.now)) = c.from-end-in-loop-index.ensures ∙ c.size_at.ensures in
    let sums = sum-step c.args.count c.loop-index.index c.from-end-in-loop-index.result c.args.payload.now below size in
    record {
      sums = omega (arith, c.loop-index.invariant.sums, sums);
      small = omega (arith, c.loop-index.invariant.small);
      enough = c.loop-index.invariant.enough;
      several = c.loop-index.invariant.several;
    }
