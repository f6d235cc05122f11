use Rattle.std.proofs.Common.{◌∙◌, sym, subst}
use Rattle.pubsub_states.specs.Components.{Counts, IsAmong}
use Rattle.session_model.specs.Lives.{account_in, flags_by, steps_in}
use Rattle.session_model.specs.States.{flags_at}
use Rattle.session_parts.proofs.Rounds.{flags-behind}
use Rattle.session_parts.proofs.StatesTold.{state-told}
use Rattle.pubsub_engine.proofs.session.Session.state.Goals as goal

pub returns-clause-stands : goal.returns-clause-stands
returns-clause-stands c = λ p steps stands.
    let there : IsAmong c.args.self.now.round.tree.counts c.args.component = subst (λ (counts : Counts). IsAmong counts c.args.component) (sym c.requires.session.round.tree) c.requires.there in
    c.state_of.ensures ∙ state-told (flags_at p steps) c.args.self.now.round.tree c.args.component there (flags-behind p steps c.args.self.now.round stands.round)

pub returns-clause-lives : goal.returns-clause-lives
returns-clause-lives c = λ p life stands.
    let there : IsAmong c.args.self.now.round.tree.counts c.args.component = subst (λ (counts : Counts). IsAmong counts c.args.component) (sym c.requires.session.round.tree) c.requires.there in
    c.state_of.ensures ∙ state-told (flags_by p.config (steps_in life) (account_in p life)) c.args.self.now.round.tree c.args.component there stands.parts.round.flags
