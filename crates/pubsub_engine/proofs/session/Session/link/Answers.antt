use Rattle.session_model.specs.Lives.{account_in, steps_in}
use Rattle.session_model.specs.Sends.{journal}
use Rattle.pubsub_engine.proofs.session.Session.link.Goals as goal

pub returns-clause-stands : goal.returns-clause-stands
returns-clause-stands c = λ p steps stands. c.link_end.ensures (journal p steps) steps stands.round.sends stands.round.receives

pub returns-clause-lives : goal.returns-clause-lives
returns-clause-lives c = λ p life stands. c.link_end.ensures (account_in p life).journal (steps_in life) stands.parts.round.sends stands.parts.round.receives
