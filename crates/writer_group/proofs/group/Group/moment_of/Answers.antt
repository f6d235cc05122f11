use Rattle.std.proofs.Common.{◌≡◌, ℕ, ◌%◌, ◌-◌, sym, subst, arith}
use Rattle.writer_group.specs.Standing.{IsMomentOf}
use Rattle.writer_group.proofs.Moments.{is-moment}
use Rattle.writer_group.proofs.group.Group.moment_of.Goals as goal

pub returns-clause-moment : goal.returns-clause-moment
returns-clause-moment c = λ config part made some.
    let same : c.max-interval.result ≡ part.interval = omega (arith, made.interval, c.max-interval.ensures, c.from.ensures, some) in
    subst (λ (n : ℕ). IsMomentOf part.interval c.args.now (c.args.now - c.args.now % n)) (sym same) (is-moment part.interval c.args.now some)
