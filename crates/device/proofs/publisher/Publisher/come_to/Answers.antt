use Rattle.std.proofs.Common.{◌≡◌, List, length, sym, subst, ap, ◌∙◌, arith}
use Rattle.std.specs.Prelude.{All}
use Rattle.std.specs.List.{AllZip}
use Rattle.std.specs.Vec.{with_items}
use Rattle.std.proofs.lemmas.List.{with_items_is}
use Rattle.message_guard.specs.Senders.{IsSender, SenderState}
use Rattle.device.specs.Coming.{Comes, IsRefreshedFor, turned_to}
use Rattle.device.specs.Sides.{ArePlaced, HasRing, IsSide}
use Rattle.device.specs.declared.side.Side.{Side}
use Rattle.device.proofs.Placing.{placed-refreshed}
use Rattle.device.proofs.Rings.{rings-turned}
use Rattle.device.proofs.publisher.Publisher.come_to.Goals as goal
use Rattle.device.proofs.publisher.Publisher.come_to.Goals.{After-turn_senders}

sides-kept : (c : After-turn_senders) → (with_items c.args.self.now.sides c.turn_senders.new.sides).items ≡ c.turn_senders.new.sides
sides-kept c =
    with_items_is c.args.self.now.sides c.turn_senders.new.sides
    (omega (arith, c.turn_senders.auto.sides, c.args.self.now.sides.ok.0, ap (λ (l : List Side). length l) c.deref_mut.ensures.value))

senders-kept : (c : After-turn_senders) → (with_items c.args.self.now.senders c.turn_senders.new.senders).items ≡ c.turn_senders.new.senders
senders-kept c =
    with_items_is c.args.self.now.senders c.turn_senders.new.senders
    (omega (arith, c.turn_senders.auto.senders, c.args.self.now.senders.ok.0, ap (λ (l : List SenderState). length l) c.deref_mut-2.ensures.value))

pub turn_senders-requires-clause-few : goal.turn_senders-requires-clause-few
turn_senders-requires-clause-few c =
    omega (arith, c.requires.senders_count, c.requires.good.sound.few.keygroups, ap (λ (l : List SenderState). length l) c.deref_mut-2.ensures.value)

pub turn_due-requires-clause-publisher : goal.turn_due-requires-clause-publisher
turn_due-requires-clause-publisher c =
    let self = c.args.self.now in
    let sides = sides-kept (goal.at.turn_due-requires-clause-publisher c).After-turn_senders in
    let senders = senders-kept (goal.at.turn_due-requires-clause-publisher c).After-turn_senders in
    record {
      good = c.requires.good;
      rows_are = c.requires.rows_are;
      rows_count = c.requires.rows_count;
      senders_are = subst (λ (l : List SenderState). All IsSender l) (sym senders) c.turn_senders.ensures.senders;
      senders_count = ap (λ (l : List SenderState). length l) senders ∙ c.turn_senders.auto.senders ∙ ap (λ (l : List SenderState). length l) c.deref_mut-2.ensures.value ∙ c.requires.senders_count;
      rings_are = subst (λ (l : List SenderState). AllZip HasRing l self.rings.items)
          (sym (senders ∙ c.turn_senders.ensures.state ∙ ap (λ (l : List SenderState). turned_to c.args.now l) c.deref_mut-2.ensures.value))
          (rings-turned c.args.now self.senders.items self.rings.items c.requires.rings_are);
      sides_are = subst (λ (l : List Side). All (IsSide self.config) l) (sym sides) c.turn_senders.ensures.sides;
      places = subst ArePlaced (sym sides) (placed-refreshed self.config c.args.now c.deref_mut-2.result.now c.deref_mut.result.now c.turn_senders.new.sides c.turn_senders.ensures.refreshed
          (subst ArePlaced (sym c.deref_mut.ensures.value) c.requires.places));
      reserved = c.requires.reserved;
      made_is = c.requires.made_is;
      handed_is = c.requires.handed_is;
    }

pub returns-clause-came : goal.returns-clause-came
returns-clause-came c = λ none.
    let self = c.args.self.now in
    let sides = sides-kept (goal.at.returns-clause-came c).After-turn_senders in
    let senders = senders-kept (goal.at.returns-clause-came c).After-turn_senders in
    let mid = (with_items self.sides c.turn_senders.new.sides).items in
    record {
      config = c.turn_due.ensures.config;
      rows = c.turn_due.ensures.rows;
      sides = mid;
      refreshed = subst (λ (l : List Side). AllZip (IsRefreshedFor self.config c.args.now self.senders.items) self.sides.items l) (sym sides)
          (subst (λ (l : List Side). AllZip (IsRefreshedFor self.config c.args.now self.senders.items) l c.turn_senders.new.sides) c.deref_mut.ensures.value
          (subst (λ (l : List SenderState). AllZip (IsRefreshedFor self.config c.args.now l) c.deref_mut.result.now c.turn_senders.new.sides) c.deref_mut-2.ensures.value
          c.turn_senders.ensures.refreshed));
      sides_are = subst (λ (l : List Side). All (IsSide self.config) l) (sym sides) c.turn_senders.ensures.sides;
      came = subst (λ (l : List SenderState). Comes c.args.now c.turn_due.result l mid c.turn_due.new.self)
          (senders ∙ c.turn_senders.ensures.state ∙ ap (λ (l : List SenderState). turned_to c.args.now l) c.deref_mut-2.ensures.value) c.turn_due.ensures.came;
    }
