-- Components are found by their names.
use Rattle.std.proofs.Common.{◌≡◌, ◌<◌, Bool, true, false, [], length, map, get_or, slice_get, Some, sym, ap, ◌∙◌, refl, arith}
use Rattle.std.specs.Str.{bytes_eq}
use Rattle.std.proofs.lemmas.List.{length-map, get_or-map}
use Rattle.std.proofs.lemmas.Option.{slice_get_within, get_or_from_slice_get}
use Rattle.std.proofs.lemmas.Slice.Eq.{bytes_eq-Decides}
use Rattle.ps_config.specs.declared.parts.Config.{Config}
use Rattle.pubsub_states.specs.declared.component.Component.{Component}
use Rattle.pubsub_states.specs.declared.component.Component.TheVariants.{Root}
use Rattle.pubsub_states.specs.Components.{counts_of, components, IsAmong, id_of}
use Rattle.pubsub_states.specs.Names.{name_of, id_named, HaveOwnNames}
use Rattle.pubsub_states.proofs.Places.{component_at}
use Rattle.pubsub_states.proofs.Positions.{position-found}

false_unless : (b : Bool) → (b ≡ true → ⊥) → b ≡ false
false_unless true h = absurd (h refl)
false_unless false h = refl

pub found_by_name : (config : Config) (component : Component) → HaveOwnNames config → IsAmong (counts_of config) component
    → id_named config (name_of config component) ≡ Some (id_of (counts_of config) component)
found_by_name config component own among =
    let all = components (counts_of config) in
    let id = id_of (counts_of config) component in
    let at : slice_get all id ≡ Some component = component_at (counts_of config) component among in
    let within : id < length all = slice_get_within all id component at in
    let is : get_or all id Root ≡ component = get_or_from_slice_get all id component Root at in
    let within_names : id < length (map (name_of config) all) = omega (arith, within, length-map all (name_of config)) in
    let here : bytes_eq (name_of config (get_or all id Root)) (name_of config component) ≡ true =
    (bytes_eq-Decides (name_of config (get_or all id Root)) (name_of config component)).1 (ap (name_of config) is) in
    position-found (λ c. bytes_eq (name_of config c) (name_of config component)) all id Root within
    (λ k before.
    let early : k < length all = omega (arith, before, within) in
    false_unless (bytes_eq (name_of config (get_or all k Root)) (name_of config component))
    (λ e.
    own k id [] before within_names
    (get_or-map (name_of config) all k Root [] early
    ∙ (bytes_eq-Decides (name_of config (get_or all k Root)) (name_of config component)).0 e
    ∙ sym (get_or-map (name_of config) all id Root [] within ∙ ap (name_of config) is))))
    here
