use Rattle.std.proofs.Common.{ℕ, ◌+◌, ◌<◌, Option, length, refl, sym, subst, arith}
use Rattle.std.specs.Prelude.{All}
use Rattle.std.specs.List.{AllWithin, Any}
use Rattle.std.proofs.lemmas.List.Elements.{AllWithin-more, AllWithin-none}
use Rattle.device.specs.Due.{AreInTime, HasTimeout, TellsFirst}
use Rattle.device.proofs.Dues.{first-both, first-then}
use Rattle.device.proofs.Places.{holds-at}
use Rattle.device.proofs.subscriber.Subscriber.due.Goals as goal

pub loop-g-init : goal.loop-g-init
loop-g-init c = λ t low high. AllWithin-none (AreInTime t) c.args.self.now.groups.items 0

pub loop-g-preserved : goal.loop-g-preserved
loop-g-preserved c =
    let now = c.args.now in
    let groups = c.args.self.now.groups.items in
    let g = c.loop-g.g in
    let listening = c.index.result.now in
    let low : g < length groups = omega (arith, c.loop-g-test.true, c.len-g-end.ensures, c.args.self.now.groups.ok.0) in
    subst (λ (o : Option ℕ). TellsFirst now (λ t. AllWithin (AreInTime t) groups 0 (g + 1)) (λ t. Any (HasTimeout t) groups) o) (sym c.earlier-first.ensures)
    (first-both now (λ t. AllWithin (AreInTime t) groups 0 (g + 1)) (λ t. Any (HasTimeout t) groups) (λ t. AllWithin (AreInTime t) groups 0 g) (λ t. Any (HasTimeout t) groups)
    (λ t. AreInTime t listening) (λ t. HasTimeout t listening) c.loop-g.first c.due-due.result
    (λ t far one. AllWithin-more (AreInTime t) groups 0 g far (holds-at (AreInTime t) groups groups g g listening refl refl low c.index.ensures one))
    (λ t some. some) (λ t one. (g, listening, low, sym c.index.ensures, one)) c.loop-g.invariant c.due-due.ensures)

pub returns : goal.returns
returns c =
    let groups = c.args.self.now.groups.items in
    first-then c.args.now (λ t. AllWithin (AreInTime t) groups 0 c.loop-g.g) (λ t. Any (HasTimeout t) groups) (λ t. All (AreInTime t) groups) (λ t. Any (HasTimeout t) groups)
    c.loop-g.first (λ t far k d low. far k d (omega arith) (omega (arith, low, c.loop-g-test.false, c.len-g-end.ensures, c.args.self.now.groups.ok.0))) (λ t some. some) c.loop-g.invariant
