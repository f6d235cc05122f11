use Rattle.std.proofs.Common.{Bool, refl, sym, ap, ◌∙◌, subst}
use Rattle.std.specs.Prelude.{if◌then◌else◌}
use Rattle.pubsub_states.specs.declared.tree.Switched.TheVariants.{Done, InvalidState}
use Rattle.pubsub_states.specs.Changes.{TreeValue}
use Rattle.session_model.specs.Lives.{account_in, steps_in}
use Rattle.session_parts.specs.declared.round.Round.{Round}
use Rattle.pubsub_engine.specs.declared.session.Session.{Session}
use Rattle.pubsub_engine.specs.Holding.{IsSession}
use Rattle.pubsub_engine.proofs.Switches.{DoesDisable, component-is, disabled-as, disabled-lives, disabled-session, disabled-stands, on-where-done, was-on, was-on-as}
use Rattle.pubsub_engine.proofs.session.Session.disable.Goals as goal

pub returns-in-Done-clause-session : goal.returns-in-Done-clause-session
returns-in-Done-clause-session c =
    disabled-session c.args.self.now c.disable.new.self c.stop_below.new.self c.requires.session c.disable.ensures.change.counts c.stop_below.ensures.rest c.stop_below.ensures.counts
    c.stop_below.ensures.subscriber

pub returns-in-Done-clause-answer : goal.returns-in-Done-clause-answer
returns-in-Done-clause-answer c =
    λ p before stands.
    c.in-Done.ensures.answer ∙ ap (λ (on : Bool). if on then Done else InvalidState) (was-on c.args.self.now c.args.id c.requires.session c.requires.there p before stands)

pub returns-in-Done-clause-stands : goal.returns-in-Done-clause-stands
returns-in-Done-clause-stands c =
    λ is p before stands.
    let old = c.args.self.now in
    let new : Session = record old { round = c.stop_below.new.self } in
    let component = c.component-component.result in
    let does : DoesDisable c.args.id component old new c.disable.new.self = record {
      changed = ap (λ (round : Round). record old { round = round }) c.stop_below.ensures.rest;
      parts = c.stop_below.ensures.groups;
      there = c.requires.there;
      running = c.requires.running;
      is_component = component-is old.config.now c.components.result.now c.args.id component
          (c.components.ensures ∙ c.disable.ensures.change.counts ∙ c.requires.session.round.tree) c.component-component.ensures.place;
      counts = c.requires.session.round.tree;
      was = on-where-done _ c.in-Done.ensures.answer;
      switched = c.disable.ensures.change;
      kept = c.stop_below.ensures.counts;
      stopped = c.stop_below.ensures.stopped;
      told = c.stop_below.ensures.told;
    } in
    disabled-stands p before c.args.id component old new c.disable.new.self does stands

pub returns-in-Done-clause-lives : goal.returns-in-Done-clause-lives
returns-in-Done-clause-lives c =
    λ is p life stands.
    let old = c.args.self.now in
    let new : Session = record old { round = c.stop_below.new.self } in
    let component = c.component-component.result in
    let does : DoesDisable c.args.id component old new c.disable.new.self = record {
      changed = ap (λ (round : Round). record old { round = round }) c.stop_below.ensures.rest;
      parts = c.stop_below.ensures.groups;
      there = c.requires.there;
      running = c.requires.running;
      is_component = component-is old.config.now c.components.result.now c.args.id component
          (c.components.ensures ∙ c.disable.ensures.change.counts ∙ c.requires.session.round.tree) c.component-component.ensures.place;
      counts = c.requires.session.round.tree;
      was = on-where-done _ c.in-Done.ensures.answer;
      switched = c.disable.ensures.change;
      kept = c.stop_below.ensures.counts;
      stopped = c.stop_below.ensures.stopped;
      told = c.stop_below.ensures.told;
    } in
    disabled-lives p life c.args.id old new stands
    (disabled-as p (steps_in life) (account_in p life) c.args.id component old new c.disable.new.self does stands.parts)

pub returns-in-InvalidState-clause-session : goal.returns-in-InvalidState-clause-session
returns-in-InvalidState-clause-session c =
    let old = c.args.self.now in
    subst (λ (tree : TreeValue). IsSession (record old { round = record old.round { tree = tree } })) (sym (c.in-InvalidState.ensures.refused refl)) c.requires.session

pub returns-in-InvalidState-clause-refused : goal.returns-in-InvalidState-clause-refused
returns-in-InvalidState-clause-refused c =
    λ is.
    let old = c.args.self.now in
    ap (λ (tree : TreeValue). record old { round = record old.round { tree = tree } }) (c.in-InvalidState.ensures.refused refl)

pub returns-in-InvalidState-clause-answer : goal.returns-in-InvalidState-clause-answer
returns-in-InvalidState-clause-answer c =
    λ p before stands.
    c.in-InvalidState.ensures.answer
    ∙ ap (λ (on : Bool). if on then Done else InvalidState) (was-on c.args.self.now c.args.id c.requires.session c.requires.there p before stands)

pub returns-in-Done-clause-answer_lives : goal.returns-in-Done-clause-answer_lives
returns-in-Done-clause-answer_lives c =
    λ p life stands.
    c.in-Done.ensures.answer ∙ ap (λ (on : Bool). if on then Done else InvalidState) (was-on-as c.args.self.now c.args.id c.requires.session c.requires.there p (steps_in life) (account_in p life) stands.parts)

pub returns-in-InvalidState-clause-answer_lives : goal.returns-in-InvalidState-clause-answer_lives
returns-in-InvalidState-clause-answer_lives c =
    λ p life stands.
    c.in-InvalidState.ensures.answer
    ∙ ap (λ (on : Bool). if on then Done else InvalidState) (was-on-as c.args.self.now c.args.id c.requires.session c.requires.there p (steps_in life) (account_in p life) stands.parts)
