use Rattle.std.proofs.Common.{◌≡◌, [], slice_index_or, replicate, refl, ◌∙◌}
use Rattle.aes_ctr.specs.InPlanes.{byte_of}
use Rattle.aes_ctr.proofs.Lists.{below_eight}
use Rattle.aes_ctr.proofs.cipher.RoundKey.new.Goals as goal

pub returns-clause-blocks : goal.returns-clause-blocks
unfolding byte_of
returns-clause-blocks c j hj =
    c.to_planes-q.ensures.blocks j hj
    ∙ below_eight (λ j. slice_index_or (replicate 8 c.args.key.now) j [] ≡ c.args.key.now) (refl, refl, refl, refl, refl, refl, refl, refl) j hj
