use Rattle.std.proofs.Common.{◌≡◌, List, length, refl, sym, subst, ap, ◌∙◌, arith}
use Rattle.std.specs.Prelude.{All}
use Rattle.std.specs.List.{AllZip}
use Rattle.std.specs.Vec.{with_item, with_items}
use Rattle.std.proofs.lemmas.List.{get_or_default, with_items_is}
use Rattle.std.proofs.lemmas.List.Elements.{All-set}
use Rattle.message_guard.specs.Senders.{IsSender, SenderState}
use Rattle.device.specs.Looking.{IsFrom}
use Rattle.device.specs.Sides.{HasRing, IsSide}
use Rattle.device.specs.declared.publisher.Publisher.{Publisher}
use Rattle.device.specs.declared.side.Side.{Side}
use Rattle.device.proofs.Looks.{did-index, looked-publisher, looked-so}
use Rattle.device.proofs.Placing.{placed-set}
use Rattle.device.proofs.Rings.{rings-left}
use Rattle.device.proofs.publisher.Publisher.look_at.Goals as goal
use Rattle.device.proofs.publisher.Publisher.look_at.Goals.{After-count}

-- the senders behind the look
kept : (c : After-count) → (with_items c.args.self.now.senders c.look-looked.new.senders).items ≡ c.look-looked.new.senders
kept c =
    with_items_is c.args.self.now.senders c.look-looked.new.senders
    (omega (arith, c.look-looked.auto.senders, c.args.self.now.senders.ok.0, ap (λ (l : List SenderState). length l) c.deref_mut.ensures.value))

pub returns-clause-looked : goal.returns-clause-looked
returns-clause-looked c =
    let self = c.args.self.now in
    let look = c.look-looked in
    looked-so c.args.index c.args.now look.result self (record self { sides = with_item self.sides c.args.index look.new.side; senders = with_items self.senders look.new.senders; out = look.new.out })
    c.count.new.self c.index_mut.result.now look.new.side c.deref.result.now c.deref_mut.result.now look.new.senders refl c.count.ensures.rest c.count.ensures.counts
    (subst (λ (side : Side). IsFrom look.result side.index c.count.new.self)
    (c.index.ensures ∙ get_or_default self.sides.items c.args.index c.index.result.now c.index_mut.result.now c.requires.index ∙ sym c.index_mut.ensures.value) c.count.ensures.from) c.requires.index
    c.index_mut.ensures.value c.deref.ensures.value c.deref_mut.ensures.value refl (kept (goal.at.returns-clause-looked c).After-count) look.ensures.did look.ensures.numbers

pub returns-clause-publisher : goal.returns-clause-publisher
returns-clause-publisher c =
    let self = c.args.self.now in
    let look = c.look-looked in
    let senders = kept (goal.at.returns-clause-publisher c).After-count in
    looked-publisher look.result self (record self { sides = with_item self.sides c.args.index look.new.side; senders = with_items self.senders look.new.senders; out = look.new.out })
    c.count.new.self c.requires.publisher refl c.count.ensures.rest c.count.ensures.counts look.ensures.out
    (subst (λ (l : List SenderState). All IsSender l) (sym senders) look.ensures.senders)
    (ap (λ (l : List SenderState). length l) senders ∙ look.auto.senders ∙ ap (λ (l : List SenderState). length l) c.deref_mut.ensures.value)
    (subst (λ (l : List SenderState). AllZip HasRing l self.rings.items) (sym senders)
    (rings-left look.result self.config c.index_mut.result.now.index c.deref_mut.result.now look.new.senders self.rings.items look.ensures.numbers
    (subst (λ (l : List SenderState). AllZip HasRing l self.rings.items) (sym c.deref_mut.ensures.value) c.requires.publisher.rings_are)))
    (All-set (IsSide self.config) self.sides.items c.args.index look.new.side look.ensures.side c.requires.publisher.sides_are)
    (placed-set self.sides.items c.args.index c.index_mut.result.now look.new.side c.requires.index c.index_mut.ensures.value
    (did-index self.config c.args.now c.deref.result.now c.deref_mut.result.now look.new.out look.result c.index_mut.result.now look.new.side look.ensures.did) c.requires.publisher.places)
    look.ensures.reserved

pub returns-clause-store : goal.returns-clause-store
returns-clause-store c = ap (λ (p : Publisher). p.store) c.count.ensures.rest
