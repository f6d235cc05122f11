use Rattle.std.proofs.Common.{Bool, refl, sym, ap, ◌∙◌, subst}
use Rattle.std.specs.Prelude.{if◌then◌else◌}
use Rattle.pubsub_states.specs.declared.tree.Switched.TheVariants.{Done, InvalidState}
use Rattle.pubsub_states.specs.Changes.{TreeValue}
use Rattle.session_model.specs.Lives.{account_in, steps_in}
use Rattle.pubsub_engine.specs.declared.session.Session.{Session}
use Rattle.pubsub_engine.specs.Holding.{IsSession}
use Rattle.pubsub_engine.proofs.Switches.{DoesEnable, component-is, enabled-as, enabled-session, enabled-stands, off-where-done, switched-lives, was-on, was-on-as}
use Rattle.pubsub_engine.proofs.session.Session.enable.Goals as goal

pub returns-in-Done-clause-session : goal.returns-in-Done-clause-session
returns-in-Done-clause-session c =
    enabled-session c.args.self.now c.enable.new.self c.refresh_below.new.self c.requires.session c.enable.ensures.change.counts c.refresh_below.ensures.rest
    c.refresh_below.ensures.groups c.refresh_below.ensures.goes_on c.refresh_below.ensures.logs

pub returns-in-Done-clause-answer : goal.returns-in-Done-clause-answer
returns-in-Done-clause-answer c =
    λ p before stands.
    c.in-Done.ensures.answer ∙ ap (λ (on : Bool). if on then InvalidState else Done) (was-on c.args.self.now c.args.id c.requires.session c.requires.there p before stands)

pub returns-in-Done-clause-stands : goal.returns-in-Done-clause-stands
returns-in-Done-clause-stands c =
    λ is p before stands.
    let old = c.args.self.now in
    let new : Session = record old { round = record old.round { tree = c.enable.new.self; publisher = c.refresh_below.new.self } } in
    let component = c.component-component.result in
    let does : DoesEnable c.args.id component old new = record {
      changed = refl;
      parts = c.refresh_below.ensures.rest;
      there = c.requires.there;
      running = c.requires.running;
      is_component = component-is old.config.now c.components.result.now c.args.id component
          (c.components.ensures ∙ c.enable.ensures.change.counts ∙ c.requires.session.round.tree) c.component-component.ensures.place;
      counts = c.requires.session.round.tree;
      was = off-where-done _ c.in-Done.ensures.answer;
      switched = c.enable.ensures.change;
      past = c.refresh_below.ensures.past;
    } in
    enabled-stands p before c.args.id component old new does stands

pub returns-in-Done-clause-lives : goal.returns-in-Done-clause-lives
returns-in-Done-clause-lives c =
    λ is p life stands.
    let old = c.args.self.now in
    let new : Session = record old { round = record old.round { tree = c.enable.new.self; publisher = c.refresh_below.new.self } } in
    let component = c.component-component.result in
    let does : DoesEnable c.args.id component old new = record {
      changed = refl;
      parts = c.refresh_below.ensures.rest;
      there = c.requires.there;
      running = c.requires.running;
      is_component = component-is old.config.now c.components.result.now c.args.id component
          (c.components.ensures ∙ c.enable.ensures.change.counts ∙ c.requires.session.round.tree) c.component-component.ensures.place;
      counts = c.requires.session.round.tree;
      was = off-where-done _ c.in-Done.ensures.answer;
      switched = c.enable.ensures.change;
      past = c.refresh_below.ensures.past;
    } in
    switched-lives p life c.args.id old new stands (enabled-as p (steps_in life) (account_in p life) c.args.id component old new does stands.parts)

pub returns-in-InvalidState-clause-session : goal.returns-in-InvalidState-clause-session
returns-in-InvalidState-clause-session c =
    let old = c.args.self.now in
    subst (λ (tree : TreeValue). IsSession (record old { round = record old.round { tree = tree } })) (sym (c.in-InvalidState.ensures.refused refl)) c.requires.session

pub returns-in-InvalidState-clause-refused : goal.returns-in-InvalidState-clause-refused
returns-in-InvalidState-clause-refused c =
    λ is.
    let old = c.args.self.now in
    ap (λ (tree : TreeValue). record old { round = record old.round { tree = tree } }) (c.in-InvalidState.ensures.refused refl)

pub returns-in-InvalidState-clause-answer : goal.returns-in-InvalidState-clause-answer
returns-in-InvalidState-clause-answer c =
    λ p before stands.
    c.in-InvalidState.ensures.answer
    ∙ ap (λ (on : Bool). if on then InvalidState else Done) (was-on c.args.self.now c.args.id c.requires.session c.requires.there p before stands)

pub returns-in-Done-clause-answer_lives : goal.returns-in-Done-clause-answer_lives
returns-in-Done-clause-answer_lives c =
    λ p life stands.
    c.in-Done.ensures.answer ∙ ap (λ (on : Bool). if on then InvalidState else Done) (was-on-as c.args.self.now c.args.id c.requires.session c.requires.there p (steps_in life) (account_in p life) stands.parts)

pub returns-in-InvalidState-clause-answer_lives : goal.returns-in-InvalidState-clause-answer_lives
returns-in-InvalidState-clause-answer_lives c =
    λ p life stands.
    c.in-InvalidState.ensures.answer
    ∙ ap (λ (on : Bool). if on then InvalidState else Done) (was-on-as c.args.self.now c.args.id c.requires.session c.requires.there p (steps_in life) (account_in p life) stands.parts)
