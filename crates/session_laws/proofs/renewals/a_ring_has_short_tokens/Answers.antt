use Rattle.std.specs.Prelude.{◌<◌, ◌^◌}
use Rattle.std.proofs.lemmas.List.Elements.{All-weaker}
use Rattle.group_keys.specs.declared.key_set.KeySet.{KeySet}
use Rattle.group_keys.specs.InMemory.{IsKeySet}
use Rattle.group_keys.specs.Ring.{key_sets}
use Rattle.session_laws.proofs.renewals.a_ring_has_short_tokens.Goals as goal

pub returns : goal.returns
returns c = All-weaker IsKeySet (λ (set : KeySet). set.token < 2 ^ 32) (λ set is. is.token) (key_sets c.args.ring.now) c.key_sets-sets.ensures.in_memory.each
