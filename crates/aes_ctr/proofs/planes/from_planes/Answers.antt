use Rattle.std.proofs.Common.{◌≡◌, ℕ, ◌<◌, [], slice_index_or, subst, sym}
use Rattle.aes_ctr.specs.InPlanes.{AreLanes, block_in}
use Rattle.aes_ctr.proofs.Packing.{flipped, unpacked_lanes, unpacked}
use Rattle.aes_ctr.proofs.planes.from_planes.Goals as goal

pub returns-clause-lanes : goal.returns-clause-lanes
returns-clause-lanes c =
    subst (λ t. AreLanes (flipped t)) (sym c.transpose-blocks.ensures.lanes) (unpacked_lanes c.args.q c.transpose-blocks.ensures.given)

pub returns-clause-blocks : goal.returns-clause-blocks
returns-clause-blocks c =
    subst (λ t. (j : ℕ) → j < 8 → slice_index_or (flipped t) j [] ≡ block_in c.args.q j) (sym c.transpose-blocks.ensures.lanes)
    (unpacked c.args.q c.transpose-blocks.ensures.given)
