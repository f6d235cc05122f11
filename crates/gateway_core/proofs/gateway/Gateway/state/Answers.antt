use Rattle.std.proofs.Common.{◌∙◌, sym, subst}
use Rattle.pubsub_states.specs.Components.{Counts, IsAmong}
use Rattle.session_model.specs.Lives.{account_in, flags_by, steps_in}
use Rattle.session_model.specs.States.{flags_at}
use Rattle.session_parts.proofs.Rounds.{flags-behind}
use Rattle.session_parts.proofs.StatesTold.{state-told}
use Rattle.gateway_core.specs.Lived.{plan_again}
use Rattle.gateway_core.specs.Standing.{steps_of}
use Rattle.gateway_core.proofs.gateway.Gateway.state.Goals as goal

pub returns-clause-stands : goal.returns-clause-stands
returns-clause-stands c = λ second lived stands.
    let s = c.args.self.now in
    let there : IsAmong s.round.tree.counts c.args.component = subst (λ (counts : Counts). IsAmong counts c.args.component) (sym c.requires.gateway.round.tree) c.requires.there in
    c.state_of.ensures ∙ state-told (flags_at (plan_again second) (steps_of s lived)) s.round.tree c.args.component there (flags-behind (plan_again second) (steps_of s lived) s.round stands.session.round)

pub returns-clause-lives : goal.returns-clause-lives
returns-clause-lives c = λ second lived life stands.
    let s = c.args.self.now in
    let there : IsAmong s.round.tree.counts c.args.component = subst (λ (counts : Counts). IsAmong counts c.args.component) (sym c.requires.gateway.round.tree) c.requires.there in
    c.state_of.ensures ∙ state-told (flags_by second (steps_in life) (account_in (plan_again second) life)) s.round.tree c.args.component there stands.session.parts.round.flags
