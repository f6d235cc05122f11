use Rattle.std.proofs.Common.{sym, subst, arith}
use Rattle.std.specs.Prelude.{All}
use Rattle.std.proofs.lemmas.List.Elements.{All-push}
use Rattle.message_guard.specs.Senders.{IsSender}
use Rattle.ps_config.specs.Sound.{IsKeyGroup}
use Rattle.cases_group.proofs.senders.senders_of.Goals as goal

pub sender_of-requires : goal.sender_of-requires
sender_of-requires c = subst IsKeyGroup (sym c.part-item.is) (c.requires c.loop-part.part-index c.part-item.result (omega arith))

pub loop-part-preserved : goal.loop-part-preserved
loop-part-preserved c =
    subst (All IsSender) (sym c.in_ok-push.ensures.items)
    (All-push IsSender c.loop-part.senders.items c.sender_of.result c.loop-part.invariant c.sender_of.ensures)
