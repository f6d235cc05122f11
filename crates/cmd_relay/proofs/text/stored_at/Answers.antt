use Rattle.std.proofs.Common.{List, ℕ, sym, ap, ◌∙◌, option_and_then}
use Rattle.pubsub_model.specs.Answers.{version_of as store_in}
use Rattle.session_model.specs.Deeds.{log_at}
use Rattle.gateway_core.specs.Lived.{plan_again, session_steps, version_in}
use Rattle.gateway_core.specs.Holding.{logged_of, sources_of}
use Rattle.cmd_relay.specs.Texts.{kept_by_index}
use Rattle.cmd_relay.proofs.Lining.{whole-log}
use Rattle.cmd_relay.proofs.text.stored_at.Goals as goal

pub returns-in-Some : goal.returns-in-Some
returns-in-Some c = λ second lived stands.
    let whole = log_at (plan_again second) c.args.g c.args.w (session_steps (sources_of c.args.gateway.now) lived) in
    let log = whole-log _ (logged_of c.args.gateway.now) c.log.result.now whole (c.log.ensures.first _ _ _ (c.writer.ensures.lived second lived stands)) c.writer.ensures.logged
    (c.writer.ensures.all c.requires.keeps second lived stands) in (
      sym c.in-Some.is ∙ c.version_at-store.ensures ∙ ap (λ (l : List (ℕ × ℕ)). option_and_then (store_in l) c.args.number) log,
      c.version_of-version.ensures.all c.requires.keeps second lived stands,
    )

pub returns-in-None : goal.returns-in-None
returns-in-None c = λ second lived stands.
    let whole = log_at (plan_again second) c.args.g c.args.w (session_steps (sources_of c.args.gateway.now) lived) in
    let log = whole-log _ (logged_of c.args.gateway.now) c.log.result.now whole (c.log.ensures.first _ _ _ (c.writer.ensures.lived second lived stands)) c.writer.ensures.logged
    (c.writer.ensures.all c.requires.keeps second lived stands) in (
      c.version_at-store.ensures ∙ ap (λ (l : List (ℕ × ℕ)). option_and_then (store_in l) c.args.number) log,
      ap (option_and_then (version_in (kept_by_index (sources_of c.args.gateway.now) lived c.args.set))) (sym c.in-None.is),
    )
