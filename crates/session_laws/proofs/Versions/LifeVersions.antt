-- What a writer lived through in a life, in which rings renew the session's keys: its turns have rows of one meta from one refresh to the next, of versions that were
-- sampled and never fall, as in a session that no ring renews.
use Rattle.std.proofs.Common.{◌≡◌, refl, sym, subst, ℕ, ◌+◌, ◌<◌, true, List, [], ◌∷◌, ◌++◌, length, inr}
use Rattle.std.specs.Prelude.{◌==◌}
use Rattle.std.specs.List.Sorted.{IsNonDecreasingBy}
use Rattle.dataset_meta.specs.DataValues.{DataValue}
use Rattle.dataset_meta.specs.Metas.{MetaData}
use Rattle.pubsub_model.specs.Cadence.{WriterDeed, HadTurn, WriterTurn, is_data}
use Rattle.pubsub_model.proofs.LogVersions.{log-rises}
use Rattle.writer_group.specs.Parts.{group_at}
use Rattle.writer_group.specs.Payloads.{meta_at, writer_at}
use Rattle.writer_group.specs.Turns.{GroupDeed, writer_past}
use Rattle.session_model.specs.Deeds.{component_at, group_past, is_writer_below, is_writer_of, refreshed_where, writer_indexes}
use Rattle.session_model.specs.Keeping.{AreStepsOf, IsPlan}
use Rattle.session_model.specs.Lives.{Lived, Stepped, Renewed, account_in, log_in, steps_in}
use Rattle.session_model.specs.Sets.{metas_at}
use Rattle.session_model.specs.Steps.{Plan, Step, Enable, Disable, Append, Tick, Pump, moment_of}
use Rattle.session_laws.specs.Headline.{PublishesVersion, answered_turn}
use Rattle.session_laws.specs.Pasts.{settings_at}
use Rattle.session_laws.specs.Renewals.{deeds_in_life}
use Rattle.session_laws.specs.Sessions.{AreVersions, HasSample, SamplesRise}
use Rattle.session_laws.proofs.HeldRows.Published.{life-publishes}
use Rattle.session_laws.proofs.Versions.Living.{LifeOf, grow-life, life-more, refreshed-life, tick-life}
use Rattle.session_laws.proofs.Versions.Metas.{grown-is}
use Rattle.session_laws.proofs.Versions.Rowing.{WordLaws}

module _ (limit : ℕ) (words : WordLaws) (p : Plan) (plan : IsPlan p) (g w : ℕ) (within : w < length (group_at p.config g).writer) where
  abbrev past : List Lived → List GroupDeed
  past life = group_past p.config g (account_in p life).deeds

  -- where these steps were sampled
  abbrev Lives : List Step → List GroupDeed → Type 0
  Lives steps past = LifeOf p (HasSample p steps) (metas_at p.config steps) g w past

  lives-on : (life : List Lived) → AreStepsOf limit p (steps_in life) → SamplesRise p (steps_in life) → Lives (steps_in life) (past life)
  lives-on [] are rise = record { rows = tt; turns = tt; never = tt }
  lives-on (Renewed keygroup sets ∷ before) are rise = lives-on before are rise
  lives-on (Stepped (Enable id) ∷ before) are rise =
      refreshed-life p (HasSample p (steps_in before)) (metas_at p.config (steps_in before)) g w (is_writer_below (component_at p.config id) g) (past before) (writer_indexes (group_at p.config g)) (lives-on before are.1 rise)
  lives-on (Stepped (Disable id) ∷ before) are rise = lives-on before are.1 rise
  lives-on (Stepped (Append set field) ∷ before) are rise =
      let steps = steps_in before in
      subst (λ (metas : List MetaData). LifeOf p (HasSample p steps) metas g w (refreshed_where (is_writer_of (group_at p.config g) set) (past before) (writer_indexes (group_at p.config g)))) (sym (grown-is (metas_at p.config steps) set field are.0.may.there))
      (grow-life p (HasSample p steps) (metas_at p.config steps) g w set field (past before) ((writer_at (group_at p.config g) w).dataset == set) refl are.0.may.there within (lives-on before are.1 rise))
  lives-on (Stepped (Tick ms closing samples done) ∷ before) are rise =
      let steps = steps_in before in
      tick-life limit words p plan steps are.1 (moment_of steps + ms) closing samples are.0.rows rise.0 g w (account_in p before).deeds within
      (life-more p (HasSample p steps) (HasSample p (Tick ms closing samples done ∷ steps)) _ _ _ (writer_past w (past before)) (λ at sample has. inr has) (lives-on before are.1 rise.1))
  lives-on (Stepped (Pump entries) ∷ before) are rise = lives-on before are.1 rise

  -- each data frame publishes the row of its version
  pub publishes-in : (life : List Lived) (rows : ℕ → ℕ → List DataValue) (later before : List WriterDeed) (turn : WriterTurn) → AreStepsOf limit p (steps_in life) → SamplesRise p (steps_in life) → AreVersions p (steps_in life) rows
      → deeds_in_life p g w life ≡ later ++ HadTurn turn ∷ before → is_data (answered_turn (settings_at (group_at p.config g) w) before turn) ≡ true
      → PublishesVersion p (steps_in life) (settings_at (group_at p.config g) w) (writer_at (group_at p.config g) w).dataset rows before turn
  publishes-in life rows later before turn are rise versions split e =
      life-publishes p g w (steps_in life) (meta_at (group_at p.config g) (metas_at p.config (steps_in life)) w) (writer_past w (past life)) rows later before turn (lives-on life are rise) versions split e

  -- and the versions of its log never fall
  pub never-older-in : (life : List Lived) → AreStepsOf limit p (steps_in life) → SamplesRise p (steps_in life) → IsNonDecreasingBy (λ (entry : ℕ × ℕ). entry.1) (log_in p life g w)
  never-older-in life are rise = log-rises (settings_at (group_at p.config g) w) (writer_past w (past life)) (lives-on life are rise).never
