use Rattle.std.proofs.Common.{◌≡◌, ◌+◌, ◌++◌, length, map}
use Rattle.std.specs.List.{range_with_len}
use Rattle.app_threads.specs.declared.done.Done.{Done}
use Rattle.script_player.specs.declared.hand.Hand.{Hand}
use Rattle.script_player.proofs.player.dones_of.Given as goal

abbrev pub invariant-loop-hand : goal.invariant-loop-hand
invariant-loop-hand l = record {
  watches : l.watches ≡ l.fn.watches;
  count : length l.dones.items + length l.hand-iterator.rest.items ≡ length l.fn.hands.items;
  lists : map (λ (done : Done). done.list) l.dones.items ≡ range_with_len 0 (length l.dones.items);
  versions : map (λ (done : Done). done.versions) l.dones.items ++ map (λ (hand : Hand). hand.versions.items) l.hand-iterator.rest.items
      ≡ map (λ (hand : Hand). hand.versions.items) l.fn.hands.items;
  looks : map (λ (done : Done). done.looks) l.dones.items ++ map (λ (hand : Hand). hand.looks.items) l.hand-iterator.rest.items
      ≡ map (λ (hand : Hand). hand.looks.items) l.fn.hands.items;
}
