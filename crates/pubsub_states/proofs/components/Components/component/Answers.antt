use Rattle.std.proofs.Common.{◌≡◌, get_or, refl}
use Rattle.std.proofs.lemmas.Option.{slice_get_read}
use Rattle.pubsub_states.specs.Components.{components}
use Rattle.pubsub_states.proofs.Places.{placed}
use Rattle.pubsub_states.proofs.components.Components.component.Goals as goal

pub returns-clause-among : goal.returns-clause-among
returns-clause-among c =
    let list : c.self.inside.in_order.items ≡ components c.args.self.now = cc (c.self.invariant.list, c.self.view_is) in
    let read : c.index.result.now ≡ get_or (components c.args.self.now) c.args.id c.index.result.now = cc (c.index.ensures, c.from.ensures, list) in
    let at = slice_get_read (components c.args.self.now) _ c.args.id c.index.result.now refl c.requires read in
    (placed c.args.self.now c.args.id c.index.result.now at).0

pub returns-clause-id : goal.returns-clause-id
returns-clause-id c =
    let list : c.self.inside.in_order.items ≡ components c.args.self.now = cc (c.self.invariant.list, c.self.view_is) in
    let read : c.index.result.now ≡ get_or (components c.args.self.now) c.args.id c.index.result.now = cc (c.index.ensures, c.from.ensures, list) in
    let at = slice_get_read (components c.args.self.now) _ c.args.id c.index.result.now refl c.requires read in
    (placed c.args.self.now c.args.id c.index.result.now at).1
