use Rattle.std.proofs.Common.{◌++◌}
use Rattle.cmd_base.proofs.Pieces.{then_put, cut_short}
use Rattle.cmd_base.proofs.telling.put_three.Goals as goal

pub returns-then-put_both-clause-told : goal.returns-then-put_both-clause-told
returns-then-put_both-clause-told g c = then_put _ _ _ _ _ _ _ (c.args.front.now ++ c.args.middle.now) c.args.back.now c.if-put_both.ensures.told c.put.ensures.told

pub returns-else-put_both-clause-told : goal.returns-else-put_both-clause-told
returns-else-put_both-clause-told g c = rw c.if-put_both.false (cut_short _ _ _ _ (c.args.front.now ++ c.args.middle.now) c.args.back.now c.if-put_both.ensures.told)
