use Rattle.std.proofs.Common.{Bool, ℕ, List, ◌∙◌, sym, ap, subst}
use Rattle.session_model.specs.Steps.{Plan}
use Rattle.session_model.specs.Sets.{metas_at}
use Rattle.session_model.specs.Deeds.{deeds, logs_cut}
use Rattle.session_model.specs.Lives.{account_in, steps_in}
use Rattle.session_model.specs.Stores.{stores}
use Rattle.session_model.proofs.Ticks.{logs-whole}
use Rattle.pubsub_engine.specs.Holding.{logged_of, ticks_of}
use Rattle.pubsub_engine.specs.LifeEnds.{logs_in}
use Rattle.pubsub_engine.specs.Logs.{logs_told}
use Rattle.pubsub_engine.specs.Standing.{IsOriginFrom, IsOriginWith}
use Rattle.pubsub_engine.proofs.Whole.{logs-lived, versions-told}
use Rattle.pubsub_engine.proofs.session.Session.origin.Goals as goal

pub returns : goal.returns
returns c =
    let s = c.args.self.now in
    record {
      origin = λ p steps place stands at.
          subst (λ (versions : Bool). IsOriginWith (logs_told versions (logs_cut (logged_of s) p steps)) p steps place c.origin.result) c.tells_versions-versions.ensures
          (c.origin.ensures (logged_of s) p (metas_at p.config steps) (deeds p steps) (λ it. stores p.config it.0 it.1 steps) place (sym (ap (λ (plan : Plan). plan.config) stands.plan))
          c.requires.session.logged stands.round.groups stands.stores_are at);
      whole = λ keeps p steps place stands at.
          subst (λ (logs : ℕ → ℕ → List (ℕ × ℕ)). IsOriginWith logs p steps place c.origin.result) (logs-whole (logged_of s) (ticks_of s) p steps stands.steps_are keeps)
          (subst (λ (versions : Bool). IsOriginWith (logs_told versions (logs_cut (logged_of s) p steps)) p steps place c.origin.result) (c.tells_versions-versions.ensures ∙ versions-told s keeps)
          (c.origin.ensures (logged_of s) p (metas_at p.config steps) (deeds p steps) (λ it. stores p.config it.0 it.1 steps) place (sym (ap (λ (plan : Plan). plan.config) stands.plan))
          c.requires.session.logged stands.round.groups stands.stores_are at));
      lives = λ p life place stands at.
          subst (λ (versions : Bool). IsOriginFrom (logs_told versions (logs_in (logged_of s) p life)) p place ((account_in p life).stores place.0 place.1) c.origin.result) c.tells_versions-versions.ensures
          (c.origin.ensures (logged_of s) p (metas_at p.config (steps_in life)) (account_in p life).deeds (λ it. (account_in p life).stores it.0 it.1) place
          (sym (ap (λ (plan : Plan). plan.config) stands.parts.plan)) c.requires.session.logged stands.parts.round.groups stands.parts.stores_are at);
      whole_lives = λ keeps p life place stands at.
          subst (λ (logs : ℕ → ℕ → List (ℕ × ℕ)). IsOriginFrom logs p place ((account_in p life).stores place.0 place.1) c.origin.result) (logs-lived p life s keeps stands.steps_are)
          (subst (λ (versions : Bool). IsOriginFrom (logs_told versions (logs_in (logged_of s) p life)) p place ((account_in p life).stores place.0 place.1) c.origin.result) (c.tells_versions-versions.ensures ∙ versions-told s keeps)
          (c.origin.ensures (logged_of s) p (metas_at p.config (steps_in life)) (account_in p life).deeds (λ it. (account_in p life).stores it.0 it.1) place
          (sym (ap (λ (plan : Plan). plan.config) stands.parts.plan)) c.requires.session.logged stands.parts.round.groups stands.parts.stores_are at));
    }
