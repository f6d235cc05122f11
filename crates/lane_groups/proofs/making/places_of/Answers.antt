use Rattle.std.proofs.Common.{◌≡◌, ℕ, List, length, ◌+◌, ap, sym, subst, arith, ◌∙◌}
use Rattle.std.specs.Prelude.{Option}
use Rattle.session_parts.proofs.MadeTo.{MadeTo, made-more, made-none}
use Rattle.lane_groups.specs.declared.place.Place.{Place}
use Rattle.lane_groups.specs.Making.{IsNewPlaceIf, is_member}
use Rattle.lane_groups.proofs.making.places_of.Goals as goal

pub loop-g-init : goal.loop-g-init
loop-g-init c =
    let P : ℕ → Option Place → Type 0 = λ g place. IsNewPlaceIf c.args.config.now g c.args.turns (is_member c.args.config.now c.args.members g) place in
    subst (λ (l : List (Option Place)). MadeTo P 0 l) (sym c.new-places.ensures.items) (made-none P)

pub loop-g-preserved : goal.loop-g-preserved
loop-g-preserved c =
    let P : ℕ → Option Place → Type 0 = λ g place. IsNewPlaceIf c.args.config.now g c.args.turns (is_member c.args.config.now c.args.members g) place in
    subst (λ (l : List (Option Place)). MadeTo P (c.loop-g.g + 1) l) (sym c.in_ok-push.ensures.items)
    (made-more P c.loop-g.g c.loop-g.places.items c.in_ok-place_if.field-0 c.loop-g.invariant c.in_ok-place_if.ensures)

pub returns : goal.returns
returns c =
    let all : c.loop-g.g ≡ length c.args.config.now.group = omega (arith, c.loop-g-test.false, c.loop-g.auto.g-end, ap length c.as_slice-g-end.ensures) in
    record { count = c.loop-g.invariant.count ∙ all; each = λ g low. c.loop-g.invariant.each g (omega (arith, low, all)) }
