use Rattle.session_model.specs.Lives.{account_in, steps_in}
use Rattle.session_model.specs.Sends.{journal}
use Rattle.gateway_core.specs.Lived.{plan_again}
use Rattle.gateway_core.specs.Standing.{steps_of}
use Rattle.gateway_core.proofs.gateway.Gateway.link.Goals as goal

pub returns-clause-stands : goal.returns-clause-stands
returns-clause-stands c = λ second lived stands.
    let steps = steps_of c.args.self.now lived in
    c.link_end.ensures (journal (plan_again second) steps) steps stands.session.round.sends stands.session.round.receives

pub returns-clause-lives : goal.returns-clause-lives
returns-clause-lives c = λ second lived life stands.
    c.link_end.ensures (account_in (plan_again second) life).journal (steps_in life) stands.session.parts.round.sends stands.session.parts.round.receives
