use Rattle.std.specs.Prelude.{All}
use Rattle.message_guard.specs.Senders.{IsSender}
use Rattle.cases_group.proofs.senders.senders_of.Given as goal

abbrev pub invariant-loop-part : goal.invariant-loop-part
invariant-loop-part l = All IsSender l.senders.items
