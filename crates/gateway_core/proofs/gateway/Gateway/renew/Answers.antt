use Rattle.std.proofs.Common.{ap, subst, ◌<◌, length}
use Rattle.group_keys.specs.Ring.{key_sets}
use Rattle.ps_config.specs.declared.parts.Config.{Config}
use Rattle.session_model.specs.Steps.{Plan}
use Rattle.session_model.specs.Lives.{account_in}
use Rattle.gateway_core.specs.Lived.{plan_again}
use Rattle.gateway_core.proofs.Rings.{renewed-gateway, renewed-lives}
use Rattle.gateway_core.proofs.gateway.Gateway.renew.Goals as goal

pub returns-clause-gateway : goal.returns-clause-gateway
returns-clause-gateway c = renewed-gateway c.args.self.now c.renew.new.self c.requires.gateway c.renew.ensures.holds c.renew.ensures.groups c.renew.ensures.moment

pub returns-clause-kept : goal.returns-clause-kept
returns-clause-kept c =
    λ second lived life stands.
    c.renew.ensures.kept second (account_in (plan_again second) life).deeds
    (subst (λ (config : Config). c.args.key_group < length config.keygroup) (ap (λ (q : Plan). q.config) stands.session.parts.plan) c.requires.there) stands.session.parts.round.senders

pub returns-clause-lives : goal.returns-clause-lives
returns-clause-lives c = renewed-lives c.args.key_group (key_sets c.args.ring) c.args.self.now c.renew.new.self c.renew.ensures.renewed
