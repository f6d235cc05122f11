use Rattle.std.proofs.Common.{◌<◌, ◌+◌, length, sym, subst, ℕ, arith}
use Rattle.std.proofs.lemmas.List.{get_or_read}
use Rattle.lane_groups.proofs.Finding.{IsCounted, counted-all, counted-low, counted-more, counted-none}
use Rattle.lane_groups.proofs.Made.{from-few}
use Rattle.lane_groups.proofs.lane.LaneMakerWork.count.Goals as goal

pub loop-g-init : goal.loop-g-init
loop-g-init c = counted-none c.args.self.now.places.items

pub overflow_add-count : goal.overflow_add-count
overflow_add-count c =
    let places = c.args.self.now.places.items in
    let low : c.loop-g.g < length places = omega (arith, c.loop-g-test.true, c.len-g-end.ensures, c.args.self.now.places.ok.0) in
    let most = counted-low places c.requires.each c.loop-g.g low c.index-place.result.now (λ d. get_or_read places c.loop-g.g c.index-place.result.now low c.index-place.ensures d) c.loop-g.count c.loop-g.invariant in
    let few = from-few 0 places c.requires.each in
    omega (arith, most, few, c.requires.few, c.count_in-count.ensures)

pub loop-g-preserved : goal.loop-g-preserved
loop-g-preserved c =
    let places = c.args.self.now.places.items in
    let low : c.loop-g.g < length places = omega (arith, c.loop-g-test.true, c.len-g-end.ensures, c.args.self.now.places.ok.0) in
    subst (λ (n : ℕ). IsCounted places (c.loop-g.g + 1) (c.loop-g.count + n)) (sym c.count_in-count.ensures)
    (counted-more places c.requires.each c.loop-g.g low c.index-place.result.now (λ d. get_or_read places c.loop-g.g c.index-place.result.now low c.index-place.ensures d) c.loop-g.count c.loop-g.invariant)

pub returns : goal.returns
returns c = counted-all c.args.self.now.places.items c.loop-g.g c.loop-g.count (omega (arith, c.loop-g-test.false, c.len-g-end.ensures, c.args.self.now.places.ok.0)) c.loop-g.invariant
