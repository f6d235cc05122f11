use Rattle.std.proofs.Common.{◌≡◌, map}
use Rattle.group_keys.specs.Ring.{key_sets}
use Rattle.message_guard.specs.Protection.{keys_in}
use Rattle.session_parts.proofs.Each.{EachTo}
use Rattle.session_parts.proofs.Rekeying.{RekeysAt}
use Rattle.session_parts.proofs.subscriber.Subscriber.renew.Given as goal

abbrev pub invariant-loop-r : goal.invariant-loop-r
invariant-loop-r l = record {
  each : EachTo (RekeysAt l.config l.key_group (map keys_in (key_sets l.ring))) l.r l.fn.self.groups.items l.self.groups.items;
  rest : l.self ≡ record l.fn.self { groups = l.self.groups };
}
