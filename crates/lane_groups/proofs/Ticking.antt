-- The turns of lanes are ticks of a session.
use Rattle.std.proofs.Common.{◌≡◌, refl, sym, ap, ◌∙◌, ℕ, ◌+◌, Bool, true, List, [], ◌∷◌, map}
use Rattle.std.specs.Prelude.{fold, ◌&&◌, ◌||◌}
use Rattle.std.proofs.lemmas.List.Sums.{fold_push}
use Rattle.dataset_meta.specs.Metas.{MetaData}
use Rattle.dataset_meta.specs.Rows.{cons_if}
use Rattle.ps_config.specs.declared.parts.Config.{Config}
use Rattle.pubsub_states.specs.Changes.{Change, is_enabled}
use Rattle.pubsub_states.specs.Components.{counts_of, id_of}
use Rattle.pubsub_states.specs.declared.component.Component.{Component}
use Rattle.pubsub_states.specs.declared.component.Component.TheVariants.{Group, Writer}
use Rattle.pubsub_states.specs.declared.flags.Flags.{Flags}
use Rattle.pubsub_states.specs.States.{is_operational, state_of}
use Rattle.writer_group.specs.declared.sampled.Sampled.{Sampled}
use Rattle.writer_group.specs.Parts.{group_at}
use Rattle.writer_group.specs.Turns.{is_due, told_of, turned}
use Rattle.session_model.specs.Deeds.{Deed, TookTurn, deeds, group_indexes, group_past, is_spent_at, rekeyed, sender_of, tick_deeds, writer_indexes}
use Rattle.session_model.specs.Sets.{metas_at, rows_cut}
use Rattle.session_model.specs.Steps.{Plan, Step, Enable, Disable, Append, Tick, Pump, moment_of, switches_in}
use Rattle.lane_groups.specs.declared.turn.TurnIn.{TurnIn}
use Rattle.lane_groups.specs.Deeds.{plan_of, ticked, turns_deeds}
use Rattle.lane_groups.specs.Turns.{AreTurns}

-- ---- a tick by the switches and the data sets before it

module _ (p : Plan) (switches : List Change) (metas : List MetaData) (now : ℕ) (closing : Bool) (samples : List Sampled) where
  flags-by : List Deed → Component → Flags
  flags-by earlier component = record { enabled = is_enabled switches (id_of (counts_of p.config) component); fault = is_spent_at p.config earlier component; ready = true }

  works-by : List Deed → Component → Bool
  works-by earlier component = is_operational (state_of (flags-by earlier) component)

  turned-by : List Deed → ℕ → List Deed
  turned-by earlier g =
      cons_if (works-by earlier (Group g) && (closing || is_due (group_at p.config g) (group_past p.config g earlier) now))
      (TookTurn g
      (turned p.config (group_at p.config g) (group_past p.config g earlier)
      (record {
        told = told_of now closing metas (rows_cut metas p.full samples);
        on = map (λ w. works-by earlier (Writer g w)) (writer_indexes (group_at p.config g));
        sender = sender_of p.config g earlier;
      }))) earlier

  tick-by : List Deed → List Deed
  tick-by earlier = fold turned-by (rekeyed p.config now earlier) (group_indexes p.config)

-- behind steps with the same switches and the same data sets a tick is the same
pub tick-same : (p : Plan) (one two : List Step) (now : ℕ) (closing : Bool) (samples : List Sampled) (earlier : List Deed)
    → switches_in one ≡ switches_in two → metas_at p.config one ≡ metas_at p.config two
    → tick_deeds p one now closing samples earlier ≡ tick_deeds p two now closing samples earlier
unfolding flags-by works-by turned-by tick-by
tick-same p one two now closing samples earlier switches metas =
    ap (λ (s : List Change). tick-by p s (metas_at p.config one) now closing samples earlier) switches
    ∙ ap (λ (m : List MetaData). tick-by p (switches_in two) m now closing samples earlier) metas

-- ---- steps that only tick and pump

module _ (config : Config) where
  no-switches : (steps : List Step) (turns : List TurnIn) → AreTurns steps turns → switches_in steps ≡ []
  no-switches [] turns are = refl
  no-switches (Enable id ∷ before) turns are = absurd are
  no-switches (Disable id ∷ before) turns are = absurd are
  no-switches (Append set field ∷ before) turns are = absurd are
  no-switches (Tick ms closing samples done ∷ before) turns are = no-switches before are.0 are.2
  no-switches (Pump entries ∷ before) turns are = no-switches before turns are

  same-metas : (steps : List Step) (turns : List TurnIn) → AreTurns steps turns → metas_at config steps ≡ config.dataset
  same-metas [] turns are = refl
  same-metas (Enable id ∷ before) turns are = absurd are
  same-metas (Disable id ∷ before) turns are = absurd are
  same-metas (Append set field ∷ before) turns are = absurd are
  same-metas (Tick ms closing samples done ∷ before) turns are = same-metas before are.0 are.2
  same-metas (Pump entries ∷ before) turns are = same-metas before turns are

  pub same-deeds : (steps : List Step) (turns : List TurnIn) → AreTurns steps turns → deeds (plan_of config) steps ≡ turns_deeds config turns
  same-deeds [] turns are = sym (ap (turns_deeds config) are)
  same-deeds (Enable id ∷ before) turns are = absurd are
  same-deeds (Disable id ∷ before) turns are = absurd are
  same-deeds (Append set field ∷ before) turns are = absurd are
  same-deeds (Pump entries ∷ before) turns are = same-deeds before turns are
  same-deeds (Tick ms closing samples done ∷ before) turns are =
      let now = moment_of before + ms in
      let of = are.3 in
      tick-same (plan_of config) before [] now closing samples (deeds (plan_of config) before) (no-switches before are.0 are.2) (same-metas before are.0 are.2)
      ∙ ap (tick_deeds (plan_of config) [] now closing samples) (same-deeds before are.0 are.2)
      ∙ sym (ap (λ (n : ℕ). tick_deeds (plan_of config) [] n are.1.closing are.1.rows.items (turns_deeds config are.0)) of.now_is
      ∙ ap (λ (b : Bool). tick_deeds (plan_of config) [] now b are.1.rows.items (turns_deeds config are.0)) of.closing_is
      ∙ ap (λ (rows : List Sampled). tick_deeds (plan_of config) [] now closing rows (turns_deeds config are.0)) of.rows_are)
      ∙ sym (fold_push (ticked config) [] are.0 are.1)
      ∙ sym (ap (turns_deeds config) are.4)
