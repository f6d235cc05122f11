use Rattle.std.proofs.Common.{List, sym, subst}
use Rattle.version_cell.specs.Known.{Known}
use Rattle.pubsub_engine.specs.Holding.{AreTargetsOf, IsSession}
use Rattle.pubsub_engine.specs.Standing.{Stands}
use Rattle.pubsub_engine.specs.Living.{StandsIn}
use Rattle.pubsub_engine.proofs.session.Session.level.Goals as goal

pub returns-clause-session : goal.returns-clause-session
returns-clause-session g c =
    let old = c.args.self.now in
    subst (λ (k : List Known). IsSession (record old { stores = record old.stores { keeper = k } })) (sym c.level.ensures.same) c.requires.session

pub returns-clause-targets : goal.returns-clause-targets
returns-clause-targets g c =
    let old = c.args.self.now in
    subst (λ (k : List Known). AreTargetsOf (record old { stores = record old.stores { keeper = k } }) c.args.targets.now) (sym c.level.ensures.same) c.requires.targets

pub returns-clause-stands : goal.returns-clause-stands
returns-clause-stands g c =
    λ p steps stands.
    let old = c.args.self.now in
    subst (λ (k : List Known). Stands p steps (record old { stores = record old.stores { keeper = k } })) (sym c.level.ensures.same) stands

pub returns-clause-lives : goal.returns-clause-lives
returns-clause-lives g c =
    λ p life stands.
    let old = c.args.self.now in
    subst (λ (k : List Known). StandsIn p life (record old { stores = record old.stores { keeper = k } })) (sym c.level.ensures.same) stands
