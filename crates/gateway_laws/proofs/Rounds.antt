-- Each turn of a gateway's writer is one of some round, of as many stores as its source had there.
use Rattle.std.proofs.Common.{◌≡◌, refl, sym, ap, ◌∙◌, subst, arith, ℕ, zero, suc, ◌+◌, ◌<◌, ◌≤◌, Bool, true, false, List, [], ◌∷◌, ◌++◌, length, Option, Some, None, inl, inr}
use Rattle.std.specs.Prelude.{◌⊎◌, ◌==◌, option_map, slice_index_or, if◌then◌else◌}
use Rattle.std.specs.List.{cons_option}
use Rattle.std.proofs.lemmas.Bool.Decides.{nat_tests}
use Rattle.dataset_meta.specs.Metas.{MetaData}
use Rattle.dataset_meta.specs.Rows.{cons_if}
use Rattle.pubsub_model.specs.Cadence.{HadTurn, Refreshed, WriterDeed, WriterTurn}
use Rattle.pubsub_states.specs.declared.component.Component.TheVariants.{Group}
use Rattle.ps_config.specs.declared.parts.Config.{Config}
use Rattle.writer_group.specs.declared.sampled.Sampled.{Sampled}
use Rattle.writer_group.specs.Parts.{group_at}
use Rattle.writer_group.specs.Payloads.{writer_at}
use Rattle.writer_group.specs.Turns.{GroupDeed, GroupTurn, HadGroupTurn, no_sample, took_by, writer_past}
use Rattle.session_model.specs.Counts.{most_ticks}
use Rattle.session_model.specs.Steps as steps
use Rattle.session_model.specs.Steps.{Plan, Step, moment_of}
use Rattle.session_model.specs.Sets.{AreRowsOf}
use Rattle.session_model.specs.Deeds.{Deed, deeds, group_past, is_writer_below, tick_deeds, turn_of, writer_deeds, writer_indexes}
use Rattle.session_model.specs.Keeping.{AreSteps, IsPlan}
use Rattle.session_model.proofs.Deeds.{TickKeeps, refreshed-keeps, tick-keeps}
use Rattle.session_laws.proofs.Versions.Living.{TurnsAre}
use Rattle.session_laws.proofs.Versions.Rowing.{WordLaws, took-sampled}
use Rattle.gateway_core.specs.Lived.{plan_again}
use Rattle.gateway_laws.specs.Gateways.{set_of}
use Rattle.gateway_laws.specs.Relays.{Append, Collects, Disable, Enable, RelayStep, Round, firsts, seconds, stores_of}
use Rattle.gateway_laws.specs.Sources.{Source}
use Rattle.gateway_laws.specs.Telling.{IsTurnOf}

-- ---- what a tick adds to a writer's deeds

-- turns of this version, and refreshes
record IsSince (version : ℕ) (old new : List WriterDeed) : Type 0 where
  since : List WriterDeed
  is : new ≡ since ++ old
  versions : TurnsAre (λ turn. turn.version ≡ version) since

none-since : (version : ℕ) (old : List WriterDeed) → IsSince version old old
none-since version old = record { since = []; is = refl; versions = tt }

since-if : (version : ℕ) (old past : List WriterDeed) (b : Bool) → IsSince version old past → IsSince version old (cons_option (if b then Some Refreshed else None) past)
since-if version old past true h = record { since = Refreshed ∷ h.since; is = ap (λ (l : List WriterDeed). Refreshed ∷ l) h.is; versions = h.versions }
since-if version old past false h = h

since-turn : (version : ℕ) (old past : List WriterDeed) (o : Option WriterTurn) → ((turn : WriterTurn) → o ≡ Some turn → turn.version ≡ version) → IsSince version old past
    → IsSince version old (cons_option (option_map HadTurn o) past)
since-turn version old past None are h = h
since-turn version old past (Some turn) are h = record { since = HadTurn turn ∷ h.since; is = ap (λ (l : List WriterDeed). HadTurn turn ∷ l) h.is; versions = (are turn refl, h.versions) }

module _ (words : WordLaws) (p : Plan) (plan : IsPlan p) (before : List Step) (are : AreSteps p before) (now : ℕ) (closing : Bool) (samples : List Sampled) (rows : AreRowsOf p.full samples) (g w : ℕ) (within : w < length (group_at p.config g).writer) where
  abbrev version_now : ℕ
  version_now = (slice_index_or samples (writer_at (group_at p.config g) w).dataset no_sample).version

  abbrev Kept : List GroupDeed → Type 0
  Kept past = IsSince version_now (writer_deeds p g w before) (writer_past w past)

  own-turn : (earlier : List Deed) → g < length p.config.group → Kept (group_past p.config g earlier) → Kept (HadGroupTurn (turn_of p before now closing samples earlier g) ∷ group_past p.config g earlier)
  own-turn earlier there h =
      since-turn version_now (writer_deeds p g w before) (writer_past w (group_past p.config g earlier)) (took_by w (turn_of p before now closing samples earlier g))
      (λ turn e. (took-sampled most_ticks words p before now closing samples earlier g w turn plan are rows there within e).version) h

  turn-if : (earlier : List Deed) (k : ℕ) (b : Bool) → (k == g) ≡ b → k < length p.config.group → Kept (group_past p.config g earlier)
      → Kept (cons_if b (HadGroupTurn (turn_of p before now closing samples earlier k)) (group_past p.config g earlier))
  turn-if earlier k false e there h = h
  turn-if earlier k true e there h =
      let same : k ≡ g = grind (arith, nat_tests) in
      subst (λ (n : ℕ). Kept (HadGroupTurn (turn_of p before now closing samples earlier n) ∷ group_past p.config g earlier)) (sym same)
      (own-turn earlier (subst (λ (n : ℕ). n < length p.config.group) same there) h)

  keeps : TickKeeps p before now closing samples (λ earlier. Kept (group_past p.config g earlier))
  keeps = record {
    came = λ earlier h. h;
    fresh = λ k earlier h.
        refreshed-keeps Kept (λ writer past has. since-if version_now (writer_deeds p g w before) (writer_past w past) (writer == w) has) (is_writer_below (Group k) g) (group_past p.config g earlier) (writer_indexes (group_at p.config g)) h;
    turn = λ k earlier there has h. turn-if earlier k (k == g) refl there h;
  }

  ticked : Kept (group_past p.config g (tick_deeds p before now closing samples (deeds p before)))
  ticked = tick-keeps p before now closing samples (deeds p before) (λ earlier. Kept (group_past p.config g earlier)) keeps (none-since version_now (writer_deeds p g w before))

-- ---- where a turn stands

-- among the newer deeds
record IsAmong (since old later before : List WriterDeed) (turn : WriterTurn) : Type 0 where
  mid : List WriterDeed
  is : since ≡ later ++ HadTurn turn ∷ mid
  behind : before ≡ mid ++ old

-- or among the old ones
record IsOld (old before : List WriterDeed) (turn : WriterTurn) : Type 0 where
  later : List WriterDeed
  is : old ≡ later ++ HadTurn turn ∷ before

divide : (since old later before : List WriterDeed) (turn : WriterTurn) → since ++ old ≡ later ++ HadTurn turn ∷ before → IsAmong since old later before turn ⊎ IsOld old before turn
divide [] old later before turn e = inr (record { later = later; is = e })
divide (x ∷ since) old [] before turn e = inl (record { mid = since; is = (let same : Path WriterDeed x (HadTurn turn) = cc in ap (λ (d : WriterDeed). d ∷ since) same); behind = cc })
divide (x ∷ since) old (y ∷ later) before turn e = on (divide since old later before turn cc)
  where
    on : IsAmong since old later before turn ⊎ IsOld old before turn → IsAmong (x ∷ since) old (y ∷ later) before turn ⊎ IsOld old before turn
    on (inl h) = inl (record { mid = h.mid; is = (let same : Path WriterDeed x y = cc in ap (λ (l : List WriterDeed). x ∷ l) h.is ∙ ap (λ (d : WriterDeed). d ∷ later ++ HadTurn turn ∷ h.mid) same); behind = h.behind })
    on (inr h) = inr h

turn-among : (P : WriterTurn → Type 0) (later mid : List WriterDeed) (turn : WriterTurn) → TurnsAre P (later ++ HadTurn turn ∷ mid) → P turn
turn-among P [] mid turn h = h.0
turn-among P (Refreshed ∷ later) mid turn h = turn-among P later mid turn h
turn-among P (HadTurn other ∷ later) mid turn h = turn-among P later mid turn h.1

-- ---- over a relay

pub record IsCounted (p : Plan) (second : Config) (sources : List Source) (relay : List RelayStep) (g w : ℕ) (turn : WriterTurn) (before : List WriterDeed) : Type 0 where
  pub of_round : IsTurnOf second relay g w turn before
  pub count : turn.version ≡ length (stores_of p.config sources (set_of second g w) (firsts (of_round.round ∷ of_round.older)))

module _ (words : WordLaws) (p : Plan) (second : Config) (plan : IsPlan (plan_again second)) (sources : List Source) (g w : ℕ) (within : w < length (group_at second g).writer) (there : set_of second g w < length second.dataset) where
  abbrev DeedsOf : List RelayStep → List WriterDeed
  DeedsOf relay = writer_deeds (plan_again second) g w (seconds relay)

  counted-on : (step : RelayStep) (relay : List RelayStep) (turn : WriterTurn) (before : List WriterDeed) → IsCounted p second sources relay g w turn before → IsCounted p second sources (step ∷ relay) g w turn before
  counted-on step relay turn before h =
      let of = h.of_round in
      record {
        of_round = record { newer = step ∷ of.newer; round = of.round; older = of.older; split = ap (λ (l : List RelayStep). step ∷ l) of.split; later = of.later; had = of.had; since = of.since; behind = of.behind };
        count = h.count;
      }

  pub counted : (relay : List RelayStep) (later before : List WriterDeed) (turn : WriterTurn) → AreSteps (plan_again second) (seconds relay) → Collects p.config second sources relay
      → DeedsOf relay ≡ later ++ HadTurn turn ∷ before → IsCounted p second sources relay g w turn before
  counted [] [] before turn are collects e = absurd (cc)
  counted [] (x ∷ later) before turn are collects e = absurd (cc)
  counted (Enable id ∷ relay) later before turn are collects e = counted-on (Enable id) relay turn before (counted relay later before turn are collects e)
  counted (Disable id ∷ relay) later before turn are collects e = counted-on (Disable id) relay turn before (counted relay later before turn are collects e)
  counted (Append set field ∷ relay) later before turn are collects e = counted-on (Append set field) relay turn before (counted relay later before turn are collects e)
  counted (Round ms closing samples done entries collected again back ∷ relay) later before turn are collects e =
      on (λ h. counted relay h.later before turn are.1.1 collects.1 h.is) (divide since.since (DeedsOf relay) later before turn (sym since.is ∙ e))
    where
      round : RelayStep
      round = Round ms closing samples done entries collected again back

      since : IsSince (slice_index_or collected (set_of second g w) no_sample).version (DeedsOf relay) (DeedsOf (round ∷ relay))
      since = ticked words (plan_again second) plan (seconds relay) are.1.1 (moment_of (seconds relay) + ms) closing collected are.1.0.rows g w within

      on : (IsOld (DeedsOf relay) before turn → IsCounted p second sources relay g w turn before) → IsAmong since.since (DeedsOf relay) later before turn ⊎ IsOld (DeedsOf relay) before turn
          → IsCounted p second sources (round ∷ relay) g w turn before
      on rest (inl h) = record {
        of_round = record { newer = []; round = round; older = relay; split = refl; later = later; had = e; since = h.mid; behind = h.behind };
        count =
            turn-among (λ (t : WriterTurn). t.version ≡ (slice_index_or collected (set_of second g w) no_sample).version) later h.mid turn
            (subst (TurnsAre (λ (t : WriterTurn). t.version ≡ (slice_index_or collected (set_of second g w) no_sample).version)) h.is since.versions)
            ∙ (collects.0.each (set_of second g w) there).version;
      }
      on rest (inr h) = counted-on round relay turn before (rest h)
