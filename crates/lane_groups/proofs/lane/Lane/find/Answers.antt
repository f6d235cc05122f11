use Rattle.std.proofs.Common.{◌<◌, ◌+◌, ◌-◌, length, sym, subst, ℕ, arith}
use Rattle.std.proofs.lemmas.List.{get_or_read}
use Rattle.lane_groups.proofs.Finding.{IsLeft, left-all, left-here, left-more, left-none}
use Rattle.lane_groups.proofs.lane.Lane.find.Goals as goal

pub loop-g-init : goal.loop-g-init
loop-g-init c = left-all c.args.self.now.places.items c.args.index c.requires.index

pub returns-then-left-count : goal.returns-then-left-count
returns-then-left-count c =
    let places = c.args.self.now.places.items in
    let low : c.loop-g.g < length places = omega (arith, c.loop-g-test.true, c.len-g-end.ensures, c.args.self.now.places.ok.0) in
    left-here places c.requires.has_made.each c.loop-g.g low c.index-place.result.now (λ d. get_or_read places c.loop-g.g c.index-place.result.now low c.index-place.ensures d) c.args.index c.loop-g.left
    c.loop-g.invariant (omega (arith, c.if-left-count.true, c.count_in-count.ensures))

pub loop-g-preserved : goal.loop-g-preserved
loop-g-preserved c =
    let places = c.args.self.now.places.items in
    let low : c.loop-g.g < length places = omega (arith, c.loop-g-test.true, c.len-g-end.ensures, c.args.self.now.places.ok.0) in
    subst (λ (n : ℕ). IsLeft places c.args.index (c.loop-g.g + 1) (c.loop-g.left - n)) (sym c.count_in-count.ensures)
    (left-more places c.requires.has_made.each c.loop-g.g low c.index-place.result.now (λ d. get_or_read places c.loop-g.g c.index-place.result.now low c.index-place.ensures d) c.args.index c.loop-g.left
    c.loop-g.invariant (omega (arith, c.if-left-count.false, c.count_in-count.ensures)))

pub unreachable-unreachable : goal.unreachable-unreachable
unreachable-unreachable c =
    left-none c.args.self.now.places.items c.args.index c.loop-g.g c.loop-g.left (omega (arith, c.loop-g-test.false, c.len-g-end.ensures, c.args.self.now.places.ok.0)) c.loop-g.invariant
