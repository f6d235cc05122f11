use Rattle.pubsub_engine.proofs.session.Session.moment.Goals as goal

pub returns-clause-stands : goal.returns-clause-stands
returns-clause-stands c = λ p steps stands. stands.round.moment

pub returns-clause-lives : goal.returns-clause-lives
returns-clause-lives c = λ p life stands. stands.parts.round.moment
