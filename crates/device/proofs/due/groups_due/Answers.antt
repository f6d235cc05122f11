use Rattle.std.proofs.Common.{ℕ, ◌+◌, Option, refl, sym, subst, arith}
use Rattle.std.specs.Prelude.{All}
use Rattle.std.specs.List.{AllWithin, Any}
use Rattle.std.proofs.lemmas.List.Elements.{AllWithin-more, AllWithin-none}
use Rattle.device.specs.Due.{HasTurnDue, SitsOut, TellsFirst}
use Rattle.device.proofs.Dues.{first-both, first-then}
use Rattle.device.proofs.Places.{holds-at}
use Rattle.device.proofs.due.groups_due.Goals as goal

pub loop-g-init : goal.loop-g-init
loop-g-init c = λ t low high. AllWithin-none (SitsOut c.args.config.now c.args.rows.now c.args.senders.now t) c.args.sides.now 0

pub loop-g-preserved : goal.loop-g-preserved
loop-g-preserved c =
    let now = c.args.now in
    let sides = c.args.sides.now in
    let g = c.loop-g.g in
    let side = c.index-sides-g.result in
    let calm = SitsOut c.args.config.now c.args.rows.now c.args.senders.now in
    let due = HasTurnDue c.args.config.now c.args.rows.now c.args.senders.now in
    let low = c.loop-g-test.true in
    subst (λ (o : Option ℕ). TellsFirst now (λ t. AllWithin (calm t) sides 0 (g + 1)) (λ t. Any (due t) sides) o) (sym c.earlier-first.ensures)
    (first-both now (λ t. AllWithin (calm t) sides 0 (g + 1)) (λ t. Any (due t) sides) (λ t. AllWithin (calm t) sides 0 g) (λ t. Any (due t) sides) (λ t. calm t side) (λ t. due t side)
    c.loop-g.first c.next_due-due.result
    (λ t far one. AllWithin-more (calm t) sides 0 g far (holds-at (calm t) sides sides g g side refl refl low c.index-sides-g.is one))
    (λ t some. some) (λ t one. (g, side, low, sym c.index-sides-g.is, one)) c.loop-g.invariant c.next_due-due.ensures)

pub returns : goal.returns
returns c =
    let sides = c.args.sides.now in
    let calm = SitsOut c.args.config.now c.args.rows.now c.args.senders.now in
    let due = HasTurnDue c.args.config.now c.args.rows.now c.args.senders.now in
    first-then c.args.now (λ t. AllWithin (calm t) sides 0 c.loop-g.g) (λ t. Any (due t) sides) (λ t. All (calm t) sides) (λ t. Any (due t) sides) c.loop-g.first
    (λ t far k d low. far k d (omega arith) (omega (arith, low, c.loop-g-test.false))) (λ t some. some) c.loop-g.invariant
