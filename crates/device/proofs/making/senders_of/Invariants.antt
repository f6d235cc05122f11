use Rattle.std.proofs.Common.{◌≡◌, length, take}
use Rattle.std.specs.Prelude.{All}
use Rattle.std.specs.List.{AllZip}
use Rattle.message_guard.specs.Senders.{IsSender}
use Rattle.device.specs.Sides.{IsOpeningSender}
use Rattle.device.proofs.making.senders_of.Given as goal

abbrev pub invariant-loop-keygroup : goal.invariant-loop-keygroup
invariant-loop-keygroup l = record {
  senders : All IsSender l.senders.items;
  opening : AllZip IsOpeningSender (take l.keygroup-index l.keygroups) l.senders.items;
  count : length l.senders.items ≡ l.keygroup-index;
}
