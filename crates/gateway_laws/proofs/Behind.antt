-- What holds of a session holds of each beginning of it.
use Rattle.std.proofs.Common.{ℕ, List, [], ◌∷◌, ◌++◌, inr}
use Rattle.dataset_meta.specs.DataValues.{DataValue}
use Rattle.dataset_meta.specs.Metas.{MetaData}
use Rattle.writer_group.specs.declared.sampled.Sampled.{Sampled}
use Rattle.session_model.specs.Steps.{Plan, Step, Enable, Disable, Append, Tick, Pump}
use Rattle.session_model.specs.Keeping.{AreSteps}
use Rattle.session_model.specs.Sends.{IsRun}
use Rattle.session_laws.specs.Headline.{InSession}
use Rattle.session_laws.specs.Sessions.{AreVersions, HasSample, SamplesRise, TakesWhatWasSent}
use Rattle.session_laws.proofs.HeldRows.Taking.{taken-before}

module _ (p : Plan) where
  pub steps-behind : (later now : List Step) → AreSteps p (later ++ now) → AreSteps p now
  steps-behind [] now are = are
  steps-behind (Enable id ∷ later) now are = steps-behind later now are.1
  steps-behind (Disable id ∷ later) now are = steps-behind later now are.1
  steps-behind (Append set field ∷ later) now are = steps-behind later now are.1
  steps-behind (Tick ms closing samples done ∷ later) now are = steps-behind later now are.1
  steps-behind (Pump entries ∷ later) now are = steps-behind later now are.1

  pub run-behind : (later now : List Step) → IsRun p (later ++ now) → IsRun p now
  run-behind [] now is = is
  run-behind (Enable id ∷ later) now is = run-behind later now is
  run-behind (Disable id ∷ later) now is = run-behind later now is
  run-behind (Append set field ∷ later) now is = run-behind later now is
  run-behind (Tick ms closing samples done ∷ later) now is = run-behind later now is.1
  run-behind (Pump entries ∷ later) now is = run-behind later now is.1

  pub rise-behind : (later now : List Step) → SamplesRise p (later ++ now) → SamplesRise p now
  rise-behind [] now is = is
  rise-behind (Enable id ∷ later) now is = rise-behind later now is
  rise-behind (Disable id ∷ later) now is = rise-behind later now is
  rise-behind (Append set field ∷ later) now is = rise-behind later now is
  rise-behind (Tick ms closing samples done ∷ later) now is = rise-behind later now is.1
  rise-behind (Pump entries ∷ later) now is = rise-behind later now is

  sample-behind : (later now : List Step) (set : ℕ) (meta : MetaData) (sample : Sampled) → HasSample p now set meta sample → HasSample p (later ++ now) set meta sample
  sample-behind [] now set meta sample has = has
  sample-behind (Enable id ∷ later) now set meta sample has = sample-behind later now set meta sample has
  sample-behind (Disable id ∷ later) now set meta sample has = sample-behind later now set meta sample has
  sample-behind (Append at field ∷ later) now set meta sample has = sample-behind later now set meta sample has
  sample-behind (Tick ms closing samples done ∷ later) now set meta sample has = inr (sample-behind later now set meta sample has)
  sample-behind (Pump entries ∷ later) now set meta sample has = sample-behind later now set meta sample has

  pub versions-behind : (later now : List Step) (rows : ℕ → ℕ → List DataValue) → AreVersions p (later ++ now) rows → AreVersions p now rows
  versions-behind later now rows are set meta sample has = are set meta sample (sample-behind later now set meta sample has)

  pub honest-behind : (r : ℕ) (later now : List Step) → TakesWhatWasSent p r (later ++ now) → TakesWhatWasSent p r now
  honest-behind r [] now taken = taken
  honest-behind r (step ∷ later) now taken = honest-behind r later now (taken-before p r step (later ++ now) taken)

  pub session-behind : (r i g w : ℕ) (later now : List Step) → InSession p r i g w (later ++ now) → InSession p r i g w now
  session-behind r i g w later now is = record {
    plan = is.plan;
    steps_are = steps-behind later now is.steps_are;
    run = run-behind later now is.run;
    rise = rise-behind later now is.rise;
    there = is.there;
    matched = is.matched;
    honest = honest-behind r later now is.honest;
  }
