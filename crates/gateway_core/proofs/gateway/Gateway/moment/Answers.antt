use Rattle.gateway_core.proofs.gateway.Gateway.moment.Goals as goal

pub returns-clause-stands : goal.returns-clause-stands
returns-clause-stands c = λ second lived stands. stands.session.round.moment

pub returns-clause-lives : goal.returns-clause-lives
returns-clause-lives c = λ second lived life stands. stands.session.parts.round.moment
