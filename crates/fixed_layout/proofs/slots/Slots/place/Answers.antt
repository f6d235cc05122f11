use Rattle.std.proofs.Common.{◌≡◌, ap, ◌∙◌, subst}
use Rattle.fixed_layout.specs.Slots.{Layout, AreApart}
use Rattle.fixed_layout.proofs.PlaceLaws.{is-placed, placed-here, placed-held, placed-others, placed-header}
use Rattle.fixed_layout.proofs.slots.Slots.place.Goals as goal

pub returns-clause-placed : goal.returns-clause-placed
returns-clause-placed c =
    let slots = c.args.self.now.slots in
    let same : c.as_slice.result.now ≡ slots = c.as_slice.ensures.value ∙ ap (λ (l : Layout). l.slots) c.self.view_is in
    let is = rw (c.from.ensures, same) at c.fill_slot.ensures in
    placed-here slots c.args.index c.args.datagram.now c.fill_slot.new.datagram c.args.bytes.now (is-placed slots c.args.index c.args.datagram.now c.fill_slot.new.datagram c.args.bytes.now c.requires.index c.requires.fits c.requires.room is)

pub returns-clause-held : goal.returns-clause-held
returns-clause-held c =
    let slots = c.args.self.now.slots in
    let same : c.as_slice.result.now ≡ slots = c.as_slice.ensures.value ∙ ap (λ (l : Layout). l.slots) c.self.view_is in
    let is = rw (c.from.ensures, same) at c.fill_slot.ensures in
    placed-held slots c.args.index c.args.datagram.now c.fill_slot.new.datagram c.args.bytes.now (is-placed slots c.args.index c.args.datagram.now c.fill_slot.new.datagram c.args.bytes.now c.requires.index c.requires.fits c.requires.room is)

pub returns-clause-others : goal.returns-clause-others
returns-clause-others c =
    let slots = c.args.self.now.slots in
    let same : c.as_slice.result.now ≡ slots = c.as_slice.ensures.value ∙ ap (λ (l : Layout). l.slots) c.self.view_is in
    let is = rw (c.from.ensures, same) at c.fill_slot.ensures in
    let apart : AreApart c.args.self.now.start slots = subst (λ (l : Layout). AreApart l.start l.slots) c.self.view_is c.self.invariant.apart in
    placed-others c.args.self.now.start slots c.args.index c.args.datagram.now c.fill_slot.new.datagram c.args.bytes.now apart
    (is-placed slots c.args.index c.args.datagram.now c.fill_slot.new.datagram c.args.bytes.now c.requires.index c.requires.fits c.requires.room is)

pub returns-clause-header : goal.returns-clause-header
returns-clause-header c =
    let slots = c.args.self.now.slots in
    let same : c.as_slice.result.now ≡ slots = c.as_slice.ensures.value ∙ ap (λ (l : Layout). l.slots) c.self.view_is in
    let is = rw (c.from.ensures, same) at c.fill_slot.ensures in
    let apart : AreApart c.args.self.now.start slots = subst (λ (l : Layout). AreApart l.start l.slots) c.self.view_is c.self.invariant.apart in
    placed-header c.args.self.now.start slots c.args.index c.args.datagram.now c.fill_slot.new.datagram c.args.bytes.now apart
    (is-placed slots c.args.index c.args.datagram.now c.fill_slot.new.datagram c.args.bytes.now c.requires.index c.requires.fits c.requires.room is)
