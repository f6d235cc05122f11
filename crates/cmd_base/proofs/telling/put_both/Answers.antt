use Rattle.cmd_base.proofs.Pieces.{then_put, cut_short}
use Rattle.cmd_base.proofs.telling.put_both.Goals as goal

pub returns-then-put-clause-told : goal.returns-then-put-clause-told
returns-then-put-clause-told g c = then_put _ _ _ _ _ _ _ c.args.front.now c.args.back.now c.if-put.ensures.told c.put-then-put.ensures.told

pub returns-else-put-clause-told : goal.returns-else-put-clause-told
returns-else-put-clause-told g c = rw c.if-put.false (cut_short _ _ _ _ c.args.front.now c.args.back.now c.if-put.ensures.told)
