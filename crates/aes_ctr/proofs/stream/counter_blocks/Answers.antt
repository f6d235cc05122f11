use Rattle.aes_ctr.proofs.Lists.{below_eight}
use Rattle.aes_ctr.proofs.stream.counter_blocks.Goals as goal

pub returns-clause-blocks : goal.returns-clause-blocks
returns-clause-blocks c =
    below_eight _ (
      c.counter_block.ensures.block,
      c.counter_block-2.ensures.block,
      c.counter_block-3.ensures.block,
      c.counter_block-4.ensures.block,
      c.counter_block-5.ensures.block,
      c.counter_block-6.ensures.block,
      c.counter_block-7.ensures.block,
      c.counter_block-8.ensures.block,
    )
