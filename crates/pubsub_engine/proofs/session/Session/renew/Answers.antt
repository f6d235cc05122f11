use Rattle.std.proofs.Common.{subst, ◌<◌, length}
use Rattle.group_keys.specs.Ring.{key_sets}
use Rattle.session_model.specs.Steps.{Plan}
use Rattle.session_model.specs.Lives.{account_in}
use Rattle.pubsub_engine.proofs.Rings.{renewed-lives, renewed-session}
use Rattle.pubsub_engine.proofs.session.Session.renew.Goals as goal

pub returns-clause-session : goal.returns-clause-session
returns-clause-session c = renewed-session c.args.self.now c.renew.new.self c.requires.session c.renew.ensures.holds c.renew.ensures.groups c.renew.ensures.moment

pub returns-clause-kept : goal.returns-clause-kept
returns-clause-kept c =
    λ p life stands.
    c.renew.ensures.kept p.config (account_in p life).deeds
    (subst (λ (q : Plan). c.args.key_group < length q.config.keygroup) stands.parts.plan c.requires.there) stands.parts.round.senders

pub returns-clause-lives : goal.returns-clause-lives
returns-clause-lives c = renewed-lives c.args.key_group (key_sets c.args.ring) c.args.self.now c.renew.new.self c.renew.ensures.renewed
