use Rattle.std.proofs.Common.{◌≡◌, take, map}
use Rattle.std.specs.Prelude.{All}
use Rattle.message_guard.specs.Senders.{IsSender}
use Rattle.session_model.specs.Deeds.{opening_sender}
use Rattle.session_parts.proofs.making.senders_of.Given as goal

abbrev pub invariant-loop-keygroup : goal.invariant-loop-keygroup
invariant-loop-keygroup l = record {
  senders : l.senders.items ≡ map opening_sender (take l.keygroup-index l.keygroups);
  are : All IsSender l.senders.items;
}
