use Rattle.std.proofs.Common.{◌≡◌, List, All, length, position, sym, ap, subst, ◌∙◌, arith}
use Rattle.std.specs.Str.{bytes_eq}
use Rattle.pubsub_states.specs.declared.component.Component.{Component}
use Rattle.pubsub_states.specs.Components.{counts_of, components, IsAmong}
use Rattle.pubsub_states.specs.Names.{name_of}
use Rattle.pubsub_states.proofs.Places.{all-among}
use Rattle.pubsub_states.proofs.Few.{few-listed}
use Rattle.pubsub_states.proofs.components.Components.id_named.Goals as goal

pub position_named-requires-clause-among : goal.position_named-requires-clause-among
position_named-requires-clause-among c =
    let list : c.deref.result.now ≡ components (counts_of c.args.config.now) =
    cc (c.deref.ensures.value, c.self.invariant.list, c.self.view_is, c.requires) in
    subst (λ (cs : List Component). All (IsAmong (counts_of c.args.config.now)) cs) (sym list) (all-among (counts_of c.args.config.now))

pub position_named-requires-clause-few : goal.position_named-requires-clause-few
position_named-requires-clause-few c =
    let e = ap length c.deref.ensures.value in
    omega (arith, e, few-listed _ _ _ _ _ c.self.invariant)

pub returns-clause-named : goal.returns-clause-named
returns-clause-named c =
    let list : c.deref.result.now ≡ components (counts_of c.args.config.now) =
    cc (c.deref.ensures.value, c.self.invariant.list, c.self.view_is, c.requires) in
    c.position_named.ensures ∙ ap (position (λ component. bytes_eq (name_of c.args.config.now component) c.args.name.now)) list
