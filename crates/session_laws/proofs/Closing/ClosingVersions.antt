-- A closing turn of a writer has the version that the closing tick sampled of its data set.
use Rattle.std.proofs.Common.{◌≡◌, sym, ap, ◌∙◌, subst, arith, ℕ, ◌+◌, ◌<◌, Bool, true, false, List, [], ◌∷◌, ◌++◌, length, Option, Some, None, inl, inr}
use Rattle.std.specs.Prelude.{◌⊎◌, ◌==◌, slice_index_or, option_map, if◌then◌else◌}
use Rattle.std.specs.List.{cons_option}
use Rattle.std.proofs.lemmas.Bool.Decides.{nat_tests}
use Rattle.dataset_meta.specs.Rows.{cons_if}
use Rattle.pubsub_model.specs.Cadence.{HadTurn, Refreshed, WriterDeed, WriterTurn}
use Rattle.pubsub_states.specs.declared.component.Component.TheVariants.{Group}
use Rattle.writer_group.specs.declared.sampled.Sampled.{Sampled}
use Rattle.writer_group.specs.Parts.{group_at}
use Rattle.writer_group.specs.Payloads.{writer_at}
use Rattle.writer_group.specs.Turns.{GroupDeed, HadGroupTurn, TurnInput, no_sample, took_by, writer_past, writer_turn}
use Rattle.session_model.specs.Deeds.{Deed, component_at, deeds, group_past, is_writer_below, is_writer_of, refreshed_where, turn_input, turn_of, writer_deeds, writer_indexes}
use Rattle.session_model.specs.Keeping.{AreStepsOf, IsPlan}
use Rattle.session_model.specs.Sets.{AreRowsOf}
use Rattle.session_model.specs.Steps.{Plan, Step, Enable, Disable, Append, Tick, Pump, moment_of}
use Rattle.session_laws.specs.Sessions.{ClosesWith, pasts_at}
use Rattle.session_model.proofs.Deeds.{TickKeeps, refreshed-keeps, tick-keeps}
use Rattle.session_laws.proofs.Versions.Living.{TurnsAre, turns-more}
use Rattle.session_laws.proofs.Versions.Rowing.{WordLaws, took-sampled, turns-at}

-- a closing turn has a version of these
abbrev IfClosing : (ℕ → Type 0) → WriterTurn → Type 0
IfClosing S turn = turn.closing ≡ true → S turn.version

turns-if : (P : WriterTurn → Type 0) (b : Bool) (past : List WriterDeed) → TurnsAre P past → TurnsAre P (cons_option (if b then Some Refreshed else None) past)
turns-if P true past h = h
turns-if P false past h = h

turns-took : (P : WriterTurn → Type 0) (o : Option WriterTurn) (past : List WriterDeed) → ((t : WriterTurn) → o ≡ Some t → P t) → TurnsAre P past → TurnsAre P (cons_option (option_map HadTurn o) past)
turns-took P None past is h = h
turns-took P (Some t) past is h = (is t (λ i. Some t), h)

turn-there : (P : WriterTurn → Type 0) (later before : List WriterDeed) (turn : WriterTurn) → TurnsAre P (later ++ HadTurn turn ∷ before) → P turn
turn-there P [] before turn are = are.0
turn-there P (Refreshed ∷ later) before turn are = turn-there P later before turn are
turn-there P (HadTurn other ∷ later) before turn are = turn-there P later before turn are.1

module _ (words : WordLaws) (p : Plan) (g w : ℕ) (plan : IsPlan p) (there : g < length p.config.group) (within : w < length (group_at p.config g).writer) where
  abbrev index : ℕ
  index = (writer_at (group_at p.config g) w).dataset

  abbrev Past : (ℕ → Type 0) → List GroupDeed → Type 0
  Past S past = TurnsAre (IfClosing S) (writer_past w past)

  refreshed-past : (S : ℕ → Type 0) (test : ℕ → Bool) (past : List GroupDeed) (writers : List ℕ) → Past S past → Past S (refreshed_where test past writers)
  refreshed-past S test past writers h = refreshed-keeps (Past S) (λ writer past h. turns-if (IfClosing S) (writer == w) (writer_past w past) h) test past writers h

  module _ (limit : ℕ) (before : List Step) (are : AreStepsOf limit p before) (now : ℕ) (closing : Bool) (samples : List Sampled) (rows : AreRowsOf p.full samples) where
    abbrev Now : ℕ → Type 0
    Now version = ((closing ≡ true) × ((slice_index_or samples index no_sample).version ≡ version)) ⊎ ClosesWith before index version

    new-turn : (earlier : List Deed) (t : WriterTurn) → took_by w (turn_of p before now closing samples earlier g) ≡ Some t → IfClosing Now t
    new-turn earlier t e closes =
        let is = took-sampled limit words p before now closing samples earlier g w t plan are rows there within e in
        let input : TurnInput = turn_input p before now closing samples earlier g in
        let same : t ≡ writer_turn (group_at p.config g) input.told w =
        turns-at (group_at p.config g) input.told 0 w input.on t e ∙ ap (writer_turn (group_at p.config g) input.told) (omega arith) in
        inl (sym (ap (λ (t : WriterTurn). t.closing) same) ∙ closes, sym is.version)

    turn-on : (earlier : List Deed) (other : ℕ) (b : Bool) → (other == g) ≡ b → Past Now (group_past p.config g earlier)
        → Past Now (cons_if b (HadGroupTurn (turn_of p before now closing samples earlier other)) (group_past p.config g earlier))
    turn-on earlier other false e h = h
    turn-on earlier other true e h =
        let same : g ≡ other = grind (arith, nat_tests) in
        subst (λ (n : ℕ). Past Now (HadGroupTurn (turn_of p before now closing samples earlier n) ∷ group_past p.config g earlier)) same
        (turns-took (IfClosing Now) (took_by w (turn_of p before now closing samples earlier g)) (writer_past w (group_past p.config g earlier)) (λ t e. new-turn earlier t e) h)

    tick : TickKeeps p before now closing samples (λ earlier. Past Now (group_past p.config g earlier))
    tick = record {
      came = λ earlier h. h;
      fresh = λ k earlier h. refreshed-past Now (is_writer_below (Group k) g) (group_past p.config g earlier) (writer_indexes (group_at p.config g)) h;
      turn = λ other earlier lt has h. turn-on earlier other (other == g) (λ i. other == g) h;
    }

  closings : (limit : ℕ) (steps : List Step) → AreStepsOf limit p steps → Past (ClosesWith steps index) (pasts_at p steps g)
  closings limit [] are = tt
  closings limit (Enable id ∷ before) are =
      refreshed-past (ClosesWith before index) (is_writer_below (component_at p.config id) g) (pasts_at p before g) (writer_indexes (group_at p.config g)) (closings limit before are.1)
  closings limit (Disable id ∷ before) are = closings limit before are.1
  closings limit (Append set field ∷ before) are =
      refreshed-past (ClosesWith before index) (is_writer_of (group_at p.config g) set) (pasts_at p before g) (writer_indexes (group_at p.config g)) (closings limit before are.1)
  closings limit (Tick ms closing samples done ∷ before) are =
      let now = moment_of before + ms in
      tick-keeps p before now closing samples (deeds p before) (λ earlier. Past (ClosesWith (Tick ms closing samples done ∷ before) index) (group_past p.config g earlier))
      (tick limit before are.1 now closing samples are.0.rows)
      (turns-more (IfClosing (ClosesWith before index)) (IfClosing (ClosesWith (Tick ms closing samples done ∷ before) index)) (λ turn had closes. inr (had closes)) (writer_past w (pasts_at p before g))
      (closings limit before are.1))
  closings limit (Pump entries ∷ before) are = closings limit before are.1

pub closes-with : (limit : ℕ) → WordLaws → (p : Plan) (g w : ℕ) (steps : List Step) (later before : List WriterDeed) (turn : WriterTurn) → IsPlan p → AreStepsOf limit p steps → g < length p.config.group → w < length (group_at p.config g).writer
    → writer_deeds p g w steps ≡ later ++ HadTurn turn ∷ before → turn.closing ≡ true → ClosesWith steps (writer_at (group_at p.config g) w).dataset turn.version
closes-with limit words p g w steps later before turn plan are there within split closes =
    let P = IfClosing (ClosesWith steps (writer_at (group_at p.config g) w).dataset) in
    turn-there P later before turn (subst (TurnsAre P) split (closings words p g w plan there within limit steps are)) closes
