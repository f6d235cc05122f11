use Rattle.std.proofs.Common.{sym, ◌∙◌, ap, List, Option}
use Rattle.std.specs.Option.{option_map}
use Rattle.group_keys.specs.declared.key_set.KeySet.{KeySet}
use Rattle.group_keys.specs.Ring.{key_sets}
use Rattle.message_guard.specs.declared.keys.TokenKeys.{TokenKeys}
use Rattle.message_guard.specs.Protection.{keys_in, keys_with}
use Rattle.message_guard.proofs.Rings.{keys_with-map}
use Rattle.message_guard.proofs.ring_keys.RingKeys.find.Goals as goal

pub returns-clause-keys : goal.returns-clause-keys
returns-clause-keys c =
    ap (λ (keys : List TokenKeys). keys_with keys c.args.token) (sym c.self.view_is)
    ∙ keys_with-map (key_sets c.self.inside.ring) c.args.token
    ∙ ap (λ (o : Option KeySet). option_map keys_in o) (sym c.find.ensures.by_token)
