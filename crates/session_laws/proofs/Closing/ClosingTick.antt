-- A session that ends with a closing tick and its pumps: the group's last turn is that of the tick, and none of the chunks of its frame came before.
use Rattle.std.proofs.Common.{◌≡◌, ◌≢◌, sym, ap, ◌∙◌, subst, arith, ℕ, zero, suc, ◌+◌, ◌<◌, ◌≤◌, Bool, true, false, List, ◌∷◌, ◌++◌, map, length, Some, All}
use Rattle.std.specs.Prelude.{⊤}
use Rattle.ua_base.specs.Journal.{Entry}
use Rattle.pubsub_model.specs.Cadence.{WriterTurn}
use Rattle.pubsub_model.specs.Frames.{PlacedFrame}
use Rattle.ps_config.specs.declared.parts.Config.{Config}
use Rattle.reader_group.specs.Arrivals.{Mark, Way, arrivals_in, chunks_in, cut_on, marks, runs_out}
use Rattle.reader_group.specs.Settings.{setting_of}
use Rattle.writer_group.specs.declared.sampled.Sampled.{Sampled}
use Rattle.writer_group.specs.Parts.{group_at}
use Rattle.writer_group.specs.Turns.{GroupTurn, HadGroupTurn, took_by}
use Rattle.session_model.specs.Counts.{most_ticks}
use Rattle.session_model.specs.Steps.{Plan, Step, Pump, Tick, moment_of}
use Rattle.session_laws.specs.Headline.{InSession}
use Rattle.session_laws.specs.Pasts.{answered_by, settings_at}
use Rattle.session_laws.specs.Plays.{its_answers, its_way}
use Rattle.writer_group.specs.Payloads.{writer_at}
use Rattle.session_model.specs.Events.{events}
use Rattle.session_model.specs.Turns.{TurnsHold}
use Rattle.session_laws.specs.Newest.{closing_deeds, closing_turn}
use Rattle.session_laws.specs.Sessions.{pasts_at}
use Rattle.session_laws.proofs.Closing.SignedChunks.{lower}
use Rattle.chunker.specs.Chunks.{Chunk}
use Rattle.pubsub_model.specs.Answers.{IsAnswer}
use Rattle.session_laws.proofs.HeldRows.Published.{Laws, is-play, play_of}
use Rattle.session_laws.proofs.Versions.Rowing.{turn-is}
use Rattle.session_laws.proofs.Closing.ClosingSigned.{before-pumps, before-tick, deeds-behind, last-of-tick}
use Rattle.dataset_meta.specs.Rows.{cons_if}
use Rattle.std.specs.Prelude.{◌==◌}
use Rattle.std.proofs.lemmas.List.Elements.{All-nil, All-weaker}
use Rattle.pubsub_model.specs.Cadence.{Answered}
use Rattle.pubsub_model.specs.declared.reading.Why.TheVariants.{Timeout}
use Rattle.pubsub_states.specs.declared.component.Component.{Component}
use Rattle.pubsub_states.specs.declared.component.Component.TheVariants.{Group}
use Rattle.session_model.specs.Deeds.{Deed, RefreshedBelow, TookTurn, deeds, group_past, has_turn, is_writer_below, turn_of, writer_indexes}
use Rattle.session_model.specs.Turns.{deeds_before}
use Rattle.session_laws.specs.Plays.{its_meta}
use Rattle.session_laws.proofs.Versions.Anew.{same-writer}
use Rattle.session_laws.proofs.Versions.Answering.{answer-stays}
use Rattle.session_laws.proofs.Closing.ClosingGot as ClosingGot
use Rattle.session_laws.proofs.Closing.ClosingGot.{InChunks, LastTurn}
use Rattle.session_laws.proofs.Closing.ClosingParts.{OpensFirst, le, older-source}
use Rattle.session_model.proofs.Deeds.{HoldsTick, TickHolds, holds-before}
use Rattle.session_laws.proofs.HeldRows.Marks.{all-sent, its_bytes}
use Rattle.session_laws.proofs.Versions.Senders.{SendHolds, send-to, turn-at}
use Rattle.session_laws.proofs.HeldRows.Sources.{IsLaidOf, chunks-are}

less-by : (a b : ℕ) → a < b → (n : ℕ) × (b ≡ suc a + n)
less-by a zero lt = absurd (omega (arith, lt))
less-by zero (suc b) lt = (b, omega arith)
less-by (suc a) (suc b) lt = let rest = less-by a b (omega (arith, lt)) in let same = rest.1 in (rest.0, omega (arith, same))

-- ---- what a writer answered stays so, up to the turn of its group in a tick

module _ (p : Plan) (g w : ℕ) (before : List Step) (now : ℕ) (closing : Bool) (samples : List Sampled) where
  Stay : List Deed → Type 0
  Stay list =
      (frame : PlacedFrame) → IsAnswer (answered_by (group_at p.config g) w (group_past p.config g (deeds p before))) frame → IsAnswer (answered_by (group_at p.config g) w (group_past p.config g list)) frame

  fresh-stay : (component : Component) (earlier : List Deed) → Stay earlier → Stay (RefreshedBelow component ∷ earlier)
  unfolding Stay
  fresh-stay component earlier h = λ frame is.
      subst (λ (answered : List Answered). IsAnswer answered frame)
      (sym (same-writer (settings_at (group_at p.config g) w) w (is_writer_below component g) (group_past p.config g earlier) (writer_indexes (group_at p.config g)))) (h frame is)

  turn-stay : (other : ℕ) (turn : GroupTurn) (earlier : List Deed) → Stay earlier → Stay (TookTurn other turn ∷ earlier)
  unfolding Stay
  turn-stay other turn earlier h = λ frame is. on (other == g) frame (h frame is)
    where
      on : (b : Bool) (frame : PlacedFrame) → IsAnswer (answered_by (group_at p.config g) w (group_past p.config g earlier)) frame
          → IsAnswer (answered_by (group_at p.config g) w (cons_if b (HadGroupTurn turn) (group_past p.config g earlier))) frame
      on true frame is = answer-stays (group_at p.config g) w turn (group_past p.config g earlier) frame is
      on false frame is = is

  stay-keeps : TickHolds p before now closing samples Stay
  unfolding Stay
  stay-keeps = record {
    came = λ earlier h. h;
    fresh = λ other earlier h. fresh-stay (Group other) earlier h;
    turn = λ other earlier there has holds h. turn-stay other (turn_of p before now closing samples earlier other) earlier h;
  }

  answers-stay : HoldsTick p before now closing samples → g < length p.config.group → Stay (deeds_before p before now closing samples g)
  unfolding Stay
  answers-stay holds there = holds-before p before now closing samples Stay stay-keeps holds g (omega (arith, there)) (λ frame is. is)

  pub still-answered : HoldsTick p before now closing samples → g < length p.config.group → (frame : PlacedFrame) → IsAnswer (answered_by (group_at p.config g) w (group_past p.config g (deeds p before))) frame
      → IsAnswer (answered_by (group_at p.config g) w (group_past p.config g (deeds_before p before now closing samples g))) frame
  unfolding Stay
  still-answered holds there = answers-stay holds there

-- ---- a session that ends with a closing tick and its pumps

module _ (laws : Laws) (p : Plan) (r i g w ms : ℕ) (samples : List Sampled) (done : List Bool) (start : List Step) (pumps : List (List Entry)) (own : WriterTurn)
    (is : InSession p r i g w (map Pump pumps ++ Tick ms true samples done ∷ start)) (had : has_turn p start (moment_of start + ms) true (closing_deeds p start ms samples g) g ≡ true)
    (took : took_by w (closing_turn p start ms samples g) ≡ Some own) (closing : own.closing ≡ true) where
  abbrev config : Config
  config = p.config

  abbrev at_tick : ℕ
  at_tick = moment_of start + ms

  abbrev pub ticked_on : List Step
  ticked_on = Tick ms true samples done ∷ start

  abbrev steps : List Step
  steps = map Pump pumps ++ ticked_on

  abbrev earlier : List Deed
  earlier = closing_deeds p start ms samples g

  pub in-tick : InSession p r i g w ticked_on
  in-tick = before-pumps p r i g w pumps ticked_on is

  pub in-start : InSession p r i g w start
  in-start = before-tick p r i g w ms true samples done start in-tick

  -- the last turn of the group is that of the tick
  pub past-is : pasts_at p steps g ≡ HadGroupTurn (closing_turn p start ms samples g) ∷ group_past config g earlier
  past-is =
      let rest = less-by g (length config.group) is.there in
      ap (group_past config g) (deeds-behind p pumps ticked_on) ∙ last-of-tick p start at_tick true samples g had (length config.group) rest.0 rest.1

  pub holds-tick : HoldsTick p start at_tick true samples
  holds-tick = (laws.hold p ticked_on is.plan in-tick.steps_are).0

  pub holds-start : TurnsHold p start
  holds-start = laws.hold p start is.plan in-start.steps_are

  pub nothing-asked : SendHolds p start at_tick true samples (λ l. ⊤)
  nothing-asked = record { came = λ earlier h. tt; fresh = λ other earlier h. tt; turn = λ other earlier there holds h. tt }

  abbrev pub its_last : LastTurn config (group_at config g) (pasts_at p steps g)
  its_last = record {
    turn = closing_turn p start ms samples g;
    before = group_past config g earlier;
    past_is = past-is;
    of = turn-is most_ticks laws.words p start at_tick true samples earlier g is.plan in-start.steps_are is.there
        (turn-at laws.ring p start at_tick true samples g is.there is.plan holds-tick had (send-to laws.ring p start at_tick true samples (λ l. ⊤) g (let there = is.there in omega (arith, there)) is.plan nothing-asked holds-tick holds-start tt).0);
  }

  -- ---- where the frame is cut into chunks, none of them came before the tick

  module _ (opens_first : OpensFirst laws p r i g w ticked_on pumps own is closing its_last took)
      (chunks : InChunks laws.turns (play_of p r i g w steps) (is-play laws p r i g w steps is) own closing (le laws p r i g w ticked_on pumps own is closing its_last took) its_last took) where
    abbrev place : ℕ
    place = ClosingGot.place laws.turns (play_of p r i g w steps) (is-play laws p r i g w steps is) own closing (le laws p r i g w ticked_on pumps own is closing its_last took) its_last took

    abbrev way : Way
    way = its_way (play_of p r i g w steps)

    abbrev list : List Mark
    list = marks (setting_of config r) way (events config r start)

    new-start : All (λ c. c.place ≢ place) (chunks_in list)
    new-start =
        let was = play_of p r i g w start in
        let is_was = is-play laws p r i g w start in-start in
        let short : 16385 ≤ 65536 = omega arith in
        let sent = all-sent laws.turns 16385 was short is_was in
        let laid = IsLaidOf (its_meta was) (its_answers was) (its_bytes laws.turns 16385 was short is_was) in
        All-weaker laid (λ (c : Chunk). c.place ≢ place)
        (λ c l same.
        let answer = still-answered p g w start at_tick true samples holds-tick is.there l.placed l.answer in
        let lt = lower (writer_at (group_at config g) w).first_number place l.placed l.loud ((older-source laws p r i g w ticked_on pumps own is closing its_last took opens_first chunks).spans l.placed answer) in
        let at = l.place in
        absurd (omega (arith, lt, at, same)))
        (chunks_in list) (chunks-are laid list sent.chunks)

    pub new-first : All (λ c. c.place ≢ place) (chunks_in (marks (setting_of config r) way (events config r ticked_on)))
    new-first = on (runs_out way at_tick (arrivals_in list))
      where
        on : (b : Bool) → All (λ c. c.place ≢ place) (chunks_in (cut_on b Timeout list))
        on true = All-nil (λ (c : Chunk). c.place ≢ place)
        on false = new-start
