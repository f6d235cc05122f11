use Rattle.std.proofs.Common.{◌≡◌, ℕ, ◌+◌, ◌%◌, ap, ap₂, sym, subst, ◌∙◌}
use Rattle.aes_ctr.specs.Cipher.{mix_columns}
use Rattle.aes_ctr.specs.InPlanes.{IsPlanes, block_in, doubled_planes, moved, sums}
use Rattle.aes_ctr.proofs.Rounds.{mixed_planes, mixed_full, mixed_block}
use Rattle.aes_ctr.proofs.planes.mix_columns.Goals as goal

pub returns : goal.returns
returns c =
    let below = c.one_down-below.ensures in
    let pairs = c.sums-pairs.ensures ∙ ap (sums c.args.q) below in
    let whole : c.sums-2.result ≡ mixed_planes c.args.q =
    c.sums-2.ensures
    ∙ ap₂ sums (c.sums.ensures ∙ ap₂ sums below (c.two_down.ensures ∙ ap (moved (λ i. (i + 8) % 16)) pairs)) (c.doubled.ensures ∙ ap doubled_planes pairs) in
    record {
      full = subst IsPlanes (sym whole) (mixed_full c.args.q c.requires);
      blocks = subst (λ t. (j : ℕ) → block_in t j ≡ mix_columns (block_in c.args.q j)) (sym whole) (mixed_block c.args.q c.requires);
    }
