use Rattle.std.proofs.Common.{◌≡◌, subst, ⊎_elim, ◌∙◌}
use Rattle.version_cell.specs.Known.{Known}
use Rattle.version_cell.specs.Passes.{HasLeft, IsFull, SeesMore}
use Rattle.version_cell.proofs.Retries.{still_left, sees_itself}
use Rattle.version_cell.proofs.cell.Cell.write.Goals as goal

pub returns-in-Wrote-clause-placed : goal.returns-in-Wrote-clause-placed
returns-in-Wrote-clause-placed g c =
    let t = c.in-Wrote.ensures.tried in
    ⊎_elim
    (λ (e : c.loop.pass ≡ c.args.pass.now). (subst HasLeft e t.0, record { before = c.loop.pass; more = subst (λ (k : Known). SeesMore k c.loop.pass) e (sees_itself c.loop.pass); adds = t.1 }, t.2))
    (λ (s : HasLeft c.args.pass.now × SeesMore c.args.pass.now c.loop.pass). (s.0, record { before = c.loop.pass; more = s.1; adds = t.1 }, t.2))
    c.loop.invariant

pub returns-in-Full-clause-placed : goal.returns-in-Full-clause-placed
returns-in-Full-clause-placed g c =
    let t = c.in-Full.ensures.tried in
    ⊎_elim
    (λ (e : c.loop.pass ≡ c.args.pass.now). (t.0 ∙ e, subst (λ (k : Known). IsFull k c.in-Full.quota) e t.1))
    (λ (s : HasLeft c.args.pass.now × SeesMore c.args.pass.now c.loop.pass). absurd (still_left c.args.pass.now c.loop.pass c.in-Full.quota c.requires.numbered s.0 s.1 t.1))
    c.loop.invariant
