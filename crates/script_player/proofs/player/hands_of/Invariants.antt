use Rattle.std.proofs.Common.{◌≡◌, List, [], ◌++◌, map}
use Rattle.std.specs.Prelude.{All}
use Rattle.version_cell.specs.Known.{Known}
use Rattle.script_player.specs.declared.hand.Hand.{Hand}
use Rattle.script_player.proofs.player.hands_of.Given as goal

abbrev pub invariant-loop-own : goal.invariant-loop-own
invariant-loop-own l = record {
  passes : map (λ (hand : Hand). hand.passes) l.hands.items ++ map (λ (own : List Known). own) l.own-iterator.rest.items ≡ l.fn.passes.items;
  versions : All (λ (hand : Hand). hand.versions.items ≡ []) l.hands.items;
  looks : All (λ (hand : Hand). hand.looks.items ≡ []) l.hands.items;
}
