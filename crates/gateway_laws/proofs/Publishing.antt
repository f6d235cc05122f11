-- A gateway is a session, and so the laws of sessions are its.
use Rattle.std.proofs.Common.{◌≡◌, ℕ, ◌<◌, true, List, ◌∷◌, ◌++◌, length, Some}
use Rattle.std.specs.List.Sorted.{IsNonDecreasingBy}
use Rattle.dataset_meta.specs.DataValues.{DataValue}
use Rattle.pubsub_model.specs.Cadence.{WriterDeed, WriterTurn, HadTurn, is_data}
use Rattle.ps_config.specs.declared.parts.Config.{Config}
use Rattle.writer_group.specs.Payloads.{writer_at}
use Rattle.session_model.specs.Steps.{Plan, Step}
use Rattle.session_model.specs.Deeds.{log_at, writer_deeds}
use Rattle.writer_group.specs.Parts.{group_at}
use Rattle.session_model.specs.Events.{reader_at}
use Rattle.session_model.specs.Keeping.{AreSteps, IsPlan}
use Rattle.session_laws.specs.Reading.{IsMatchedIn, ReadsByRecords, first_number_of}
use Rattle.session_laws.specs.Headline.{InSession, IsPublished, PublishesVersion, answered_turn}
use Rattle.session_laws.specs.Pasts.{settings_at}
use Rattle.session_laws.specs.Sessions.{AreVersions, SamplesRise}
use Rattle.gateway_laws.specs.Sources.{Source}
use Rattle.gateway_laws.specs.Relays.{RelayStep, WasCounted, firsts, seconds, stored_rows}
use Rattle.gateway_laws.specs.Gateways.{IsRelay, IsHonestAgain}
use Rattle.gateway_laws.proofs.Collecting.{are-versions, rises, steps-again, was-counted}
use Rattle.gateway_core.specs.Lived.{plan_again}

-- the laws of sessions, as `session_laws` has them
abbrev pub ReadsLaw : Type 0
ReadsLaw = (p : Plan) (r i g w : ℕ) (steps : List Step) → InSession p r i g w steps → ReadsByRecords p.config r i (first_number_of p.config g w) steps

abbrev pub HoldsLaw : Type 0
HoldsLaw = (p : Plan) (r i g w : ℕ) (steps : List Step) (rows : ℕ → ℕ → List DataValue) (row : List DataValue) → InSession p r i g w steps → AreVersions p steps rows → (reader_at p.config r i steps).kept.row ≡ Some row
    → IsPublished p r i g w steps rows (reader_at p.config r i steps).kept.number row

abbrev pub PublishLaw : Type 0
PublishLaw = (p : Plan) (g w : ℕ) (steps : List Step) (rows : ℕ → ℕ → List DataValue) (later before : List WriterDeed) (turn : WriterTurn) → IsPlan p → AreSteps p steps → SamplesRise p steps → AreVersions p steps rows
    → w < length (group_at p.config g).writer → writer_deeds p g w steps ≡ later ++ HadTurn turn ∷ before → is_data (answered_turn (settings_at (group_at p.config g) w) before turn) ≡ true
    → PublishesVersion p steps (settings_at (group_at p.config g) w) (writer_at (group_at p.config g) w).dataset rows before turn

abbrev pub OlderLaw : Type 0
OlderLaw = (p : Plan) (g w : ℕ) (steps : List Step) → IsPlan p → AreSteps p steps → SamplesRise p steps → w < length (group_at p.config g).writer → IsNonDecreasingBy (λ (entry : ℕ × ℕ). entry.1) (log_at p g w steps)

pub is-session : (p : Plan) (second : Config) (sources : List Source) (relay : List RelayStep) → IsRelay p second sources relay
    → AreSteps (plan_again second) (seconds relay) × SamplesRise (plan_again second) (seconds relay) × AreVersions (plan_again second) (seconds relay) (stored_rows p.config second sources (firsts relay))
is-session p second sources relay is = (
  steps-again p.config second sources p relay is.steps_are is.collects,
  rises p.config second sources relay is.collects,
  are-versions p.config second sources relay is.collects,
)

pub in-second : (p : Plan) (second : Config) (sources : List Source) (relay : List RelayStep) (r i g w : ℕ) → IsRelay p second sources relay → IsMatchedIn second r i g w → g < length second.group → IsHonestAgain second r relay
    → InSession (plan_again second) r i g w (seconds relay)
in-second p second sources relay r i g w is matched there honest =
    let h = is-session p second sources relay is in
    record {
      plan = is.again_plan;
      steps_are = h.0;
      run = is.again_run;
      rise = h.1;
      there = there;
      matched = matched;
      honest = honest;
    }

pub second-reads : ReadsLaw → (p : Plan) (second : Config) (sources : List Source) (relay : List RelayStep) (r i g w : ℕ) → IsRelay p second sources relay → IsMatchedIn second r i g w → g < length second.group → IsHonestAgain second r relay
    → ReadsByRecords second r i (first_number_of second g w) (seconds relay)
second-reads law p second sources relay r i g w is matched there honest = law (plan_again second) r i g w (seconds relay) (in-second p second sources relay r i g w is matched there honest)

pub second-holds : HoldsLaw → (p : Plan) (second : Config) (sources : List Source) (relay : List RelayStep) (r i g w : ℕ) (row : List DataValue) → IsRelay p second sources relay → IsMatchedIn second r i g w → g < length second.group
    → IsHonestAgain second r relay → (reader_at second r i (seconds relay)).kept.row ≡ Some row
    → IsPublished (plan_again second) r i g w (seconds relay) (stored_rows p.config second sources (firsts relay)) (reader_at second r i (seconds relay)).kept.number row
second-holds law p second sources relay r i g w row is matched there honest e =
    law (plan_again second) r i g w (seconds relay) (stored_rows p.config second sources (firsts relay)) row (in-second p second sources relay r i g w is matched there honest) (is-session p second sources relay is).2 e

pub second-publishes : PublishLaw → (p : Plan) (second : Config) (sources : List Source) (relay : List RelayStep) (g w : ℕ) (later before : List WriterDeed) (turn : WriterTurn) → IsRelay p second sources relay
    → w < length (group_at second g).writer → writer_deeds (plan_again second) g w (seconds relay) ≡ later ++ HadTurn turn ∷ before → is_data (answered_turn (settings_at (group_at second g) w) before turn) ≡ true
    → PublishesVersion (plan_again second) (seconds relay) (settings_at (group_at second g) w) (writer_at (group_at second g) w).dataset (stored_rows p.config second sources (firsts relay)) before turn
second-publishes law p second sources relay g w later before turn is within split e =
    let h = is-session p second sources relay is in
    law (plan_again second) g w (seconds relay) (stored_rows p.config second sources (firsts relay)) later before turn is.again_plan h.0 h.1 h.2 within split e

pub second-never-falls : OlderLaw → (p : Plan) (second : Config) (sources : List Source) (relay : List RelayStep) (g w : ℕ) → IsRelay p second sources relay → w < length (group_at second g).writer
    → IsNonDecreasingBy (λ (entry : ℕ × ℕ). entry.1) (log_at (plan_again second) g w (seconds relay))
second-never-falls law p second sources relay g w is within =
    let h = is-session p second sources relay is in law (plan_again second) g w (seconds relay) is.again_plan h.0 h.1 within

pub second-counts : (p : Plan) (second : Config) (sources : List Source) (relay : List RelayStep) (set : ℕ) (now : Rattle.dataset_meta.specs.Metas.MetaData) (sample : Rattle.writer_group.specs.declared.sampled.Sampled.Sampled) → IsRelay p second sources relay
    → set < length second.dataset → Rattle.session_laws.specs.Sessions.HasSample (plan_again second) (seconds relay) set now sample → WasCounted p.config sources relay set sample
second-counts p second sources relay set now sample is lt has = was-counted p.config second sources relay set now sample lt is.collects has
