use Rattle.std.proofs.Common.{◌≡◌, ℕ, ◌<◌, length, get_or, refl, set, subst, ap, arith, ◌∙◌}
use Rattle.std.specs.Vec.{with_item}
use Rattle.ps_config.specs.Beginning.{config_beginning}
use Rattle.ps_config.specs.declared.parts.Config.{Config}
use Rattle.device.specs.Restarts.{IsTurned, IsUnturned}
use Rattle.device.specs.Sides.{HasWriter, IsSide}
use Rattle.device.specs.declared.side.Side.{Side}
use Rattle.device.proofs.Begins.{begun-at, begun-publisher, same-read}
use Rattle.device.proofs.Places.{holds-at}
use Rattle.device.proofs.publisher.Publisher.begin_at.Goals as goal

pub returns-then-not-is_unturned-clause-refused : goal.returns-then-not-is_unturned-clause-refused
returns-then-not-is_unturned-clause-refused c =
    let self = c.args.self.now in
    let low : c.from-index.result < length self.sides.items = omega (arith, c.if-index-len.false, c.len.ensures, self.sides.ok.0) in
    λ within.
    holds-at (λ (side : Side). HasWriter c.args.writer side → IsTurned self.config side) self.sides.items self.sides.items c.from-index.result c.args.group c.index-2.result.now refl c.from-index.ensures low
    c.index-2.ensures (λ has. c.if-not-is_unturned.ensures.turned)

pub returns-clause-publisher : goal.returns-clause-publisher
returns-clause-publisher c =
    let self = c.args.self.now in
    let group = c.args.group in
    let sides = self.sides.items in
    let was = c.index_mut.result.now in
    let is = c.begin_at.new.self in
    let at = c.from-index.ensures in
    let low : group < length sides = omega (arith, c.if-index-len.false, c.len.ensures, self.sides.ok.0, at) in
    let was_is : was ≡ get_or sides group was = subst (λ (k : ℕ). was ≡ get_or sides k was) at c.index_mut.ensures.value in
    let law = c.a_first_number_keeps_a_configuration_sound.ensures in
    let index : was.index ≡ group = ap (λ (s : Side). s.index) was_is ∙ c.requires.places group was low in
    begun-publisher self _ group c.args.writer c.args.number was is c.requires low was_is
    (ap (λ (config : Config). record self { config = config; sides = with_item self.sides c.from-index.result is }) c.begin_at-2.ensures) (ap (λ (k : ℕ). set sides k is) at)
    (record {
      sound = law.sound group c.args.writer c.args.number self.config c.requires.good.sound;
      fixed = law.fixed group c.args.writer c.args.number self.config c.requires.good.fixed;
    }) (subst (λ (k : ℕ). IsSide (config_beginning k c.args.writer c.args.number self.config) is) index c.begin_at.ensures.side) (ap (λ (s : Side). s.index) c.begin_at.ensures.begun.rest)

pub returns-clause-begun : goal.returns-clause-begun
returns-clause-begun c =
    let self = c.args.self.now in
    let group = c.args.group in
    let sides = self.sides.items in
    let was = c.index_mut.result.now in
    let is = c.begin_at.new.self in
    let at = c.from-index.ensures in
    let low_at : c.from-index.result < length sides = omega (arith, c.if-index-len.false, c.len.ensures, self.sides.ok.0) in
    let low : group < length sides = omega (arith, low_at, at) in
    let was_is : was ≡ get_or sides group was = subst (λ (k : ℕ). was ≡ get_or sides k was) at c.index_mut.ensures.value in
    begun-at self _ group c.args.writer c.args.number was is low was_is refl c.begin_at-2.ensures (ap (λ (k : ℕ). set sides k is) at)
    (subst (HasWriter c.args.writer) (same-read sides c.from-index.result c.index.result.now was low_at c.index.ensures c.index_mut.ensures.value) c.if-not-has_writer.ensures.there)
    (subst (IsUnturned self.config) (same-read sides c.from-index.result c.index-2.result.now was low_at c.index-2.ensures c.index_mut.ensures.value) c.if-not-is_unturned.ensures.unturned)
    c.begin_at.ensures.begun
