use Rattle.std.proofs.Common.{◌++◌, sym}
use Rattle.std.specs.Prelude.{codes}
use Rattle.cmd_base.specs.Statuses.{line_feed}
use Rattle.cmd_base.proofs.Pieces.{then_put, cut_short}
use Rattle.cmd_base.proofs.telling.put_fault.Goals as goal

pub returns-then-put_three-clause-told : goal.returns-then-put_three-clause-told
returns-then-put_three-clause-told g c =
    rw (sym c.number.ensures, sym c.name.ensures, sym c.format.ensures.text) (then_put _ _ _ _ _ _ _ (c.format.result.now ++ codes " " ++ c.name.result.now) line_feed c.if-put_three.ensures.told c.put.ensures.told)

pub returns-else-put_three-clause-told : goal.returns-else-put_three-clause-told
returns-else-put_three-clause-told g c =
    rw (c.if-put_three.false, sym c.number.ensures, sym c.name.ensures, sym c.format.ensures.text) (cut_short _ _ _ _ (c.format.result.now ++ codes " " ++ c.name.result.now) line_feed c.if-put_three.ensures.told)
