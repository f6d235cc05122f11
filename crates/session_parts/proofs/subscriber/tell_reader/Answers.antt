use Rattle.std.proofs.Common.{ap, ◌∙◌}
use Rattle.pubsub_states.specs.Components.{Counts, id_of}
use Rattle.pubsub_states.specs.declared.component.Component.TheVariants.{Reader}
use Rattle.session_parts.proofs.TellingReaders.{tells-reader}
use Rattle.session_parts.proofs.subscriber.tell_reader.Goals as goal

pub returns : goal.returns
returns c =
    tells-reader c.ids_are_places_in_order.ensures.place c.args.group.now c.args.read_group c.args.reader c.id-id.result c.is_late.result c.is_ready.result c.args.tree.now c.fault.new.self c.ready.new.self
    c.requires.there (c.id-id.ensures.id ∙ ap (λ (k : Counts). id_of k (Reader c.args.read_group c.args.reader)) c.components.ensures) c.is_late.ensures c.is_ready.ensures c.fault.ensures c.ready.ensures
