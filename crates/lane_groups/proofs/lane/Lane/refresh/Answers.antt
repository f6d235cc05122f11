use Rattle.std.proofs.Common.{◌≡◌, ◌<◌, ℕ, length, refl, ap, sym, subst, arith, ◌∙◌}
use Rattle.std.specs.Prelude.{Option, IfSome}
use Rattle.std.specs.Vec.{with_item}
use Rattle.writer_group.specs.Parts.{group_at}
use Rattle.session_parts.proofs.Each.{EachTo, each-more, each-none}
use Rattle.lane_groups.specs.declared.lane.Lane.{Lane}
use Rattle.lane_groups.specs.declared.place.Place.{Place}
use Rattle.lane_groups.specs.Places.{HasWriters, IsRefreshedIf}
use Rattle.lane_groups.proofs.Refreshing.{few-writers}
use Rattle.lane_groups.proofs.lane.Lane.refresh.Goals as goal

pub writers_in-requires : goal.writers_in-requires
writers_in-requires c = omega (arith, c.loop-g-test.true, c.len-g-end.ensures, c.args.self.now.places.ok.0, c.requires.count)

pub refresh-requires-clause-few : goal.refresh-requires-clause-few
refresh-requires-clause-few c =
    let low : c.loop-g.g < length c.args.config.now.group = omega (arith, c.loop-g-test.true, c.len-g-end.ensures, c.args.self.now.places.ok.0, c.requires.count) in
    omega (arith, c.writers_in.ensures, few-writers c.args.config.now c.loop-g.g c.requires.good low)

pub refresh-requires-clause-made : goal.refresh-requires-clause-made
refresh-requires-clause-made c =
    let low : c.loop-g.g < length c.args.config.now.group = omega (arith, c.loop-g-test.true, c.len-g-end.ensures, c.args.self.now.places.ok.0, c.requires.count) in
    let mid = c.loop-g.self.places.items in
    let x = c.index_mut.result.now in
    let there : c.loop-g.g < length mid = omega (arith, c.loop-g-test.true, c.len-g-end.ensures, c.args.self.now.places.ok.0, c.loop-g.invariant.each.count) in
    subst (λ (n : ℕ). IfSome x (λ p. HasWriters n p.group)) (sym c.writers_in.ensures)
    (subst (λ (o : Option Place). IfSome o (λ p. HasWriters (length (group_at c.args.config.now c.loop-g.g).writer) p.group))
    (sym (c.index_mut.ensures.value ∙ c.loop-g.invariant.each.left c.loop-g.g (omega arith) x))
    (c.requires.placed c.loop-g.g low x))

pub loop-g-init : goal.loop-g-init
loop-g-init c = record {
  each = each-none (λ (g : ℕ) (old new : Option Place). IsRefreshedIf (length (group_at c.args.config.now g).writer) old new) c.args.self.now.places.items;
  rest = refl;
}

pub loop-g-preserved : goal.loop-g-preserved
loop-g-preserved c =
    let x = c.index_mut.result.now in
    let mid = c.loop-g.self.places.items in
    let low : c.loop-g.g < length mid = omega (arith, c.loop-g-test.true, c.len-g-end.ensures, c.args.self.now.places.ok.0, c.loop-g.invariant.each.count) in
    record {
      each = each-more (λ (g : ℕ) (old new : Option Place). IsRefreshedIf (length (group_at c.args.config.now g).writer) old new) c.loop-g.g c.args.self.now.places.items mid x c.refresh.new.place low
          c.index_mut.ensures.value (subst (λ (n : ℕ). IsRefreshedIf n x c.refresh.new.place) c.writers_in.ensures c.refresh.ensures) c.loop-g.invariant.each;
      rest = ap (λ (l : Lane). record l { places = with_item c.loop-g.self.places c.loop-g.g c.refresh.new.place }) c.loop-g.invariant.rest;
    }

pub returns-clause-refreshed : goal.returns-clause-refreshed
returns-clause-refreshed c =
    let old = c.args.self.now.places.items in
    let all : c.loop-g.g ≡ length old = omega (arith, c.loop-g-test.false, c.loop-g.auto.g-end, c.len-g-end.ensures, c.args.self.now.places.ok.0) in
    let each = subst (λ (n : ℕ). EachTo (λ (g : ℕ) (old new : Option Place). IsRefreshedIf (length (group_at c.args.config.now g).writer) old new) n old c.loop-g.self.places.items) all c.loop-g.invariant.each in
    record { count = each.count; each = λ g low d. each.done g low low d; left = each.left }
