-- Under each new token a writer's first frame is a key frame, at whichever tick its group has a turn.
use Rattle.std.proofs.Common.{◌≡◌, ◌≢◌, refl, sym, ap, ◌∙◌, subst, arith, ℕ, ◌+◌, ◌<◌, ◌⊎◌, inl, inr, Bool, true, false, List, [], ◌∷◌, length, map, All, Option, Some, None}
use Rattle.std.specs.Prelude.{fold, not, ◌==◌, ◌||◌, ◌&&◌, is_none, option_map, if◌then◌else◌}
use Rattle.std.specs.List.{cons_option}
use Rattle.std.specs.Option.{option_map_or}
use Rattle.std.proofs.lemmas.Bool.Decides.{nat_tests}
use Rattle.std.proofs.lemmas.List.Elements.{All-head, All-tail}
use Rattle.dataset_meta.specs.Rows.{cons_if}
use Rattle.pubsub_model.specs.Cadence.{Answered, Settings, WriterDeed, WriterTurn, Refreshed, HadTurn, cadence, is_fresh, is_key}
use Rattle.message_guard.specs.declared.keys.TokenKeys.{TokenKeys}
use Rattle.message_guard.specs.declared.mode.Mode.{Mode}
use Rattle.message_guard.specs.Senders.{SenderState, turned as turned_to}
use Rattle.ps_config.specs.declared.parts.Config.{Config}
use Rattle.ps_config.specs.Headers.{mode_of}
use Rattle.pubsub_states.specs.declared.component.Component.{Component}
use Rattle.pubsub_states.specs.declared.component.Component.TheVariants.{Group}
use Rattle.writer_group.specs.declared.sampled.Sampled.{Sampled}
use Rattle.writer_group.specs.Parts.{group_at}
use Rattle.writer_group.specs.Turns.{GroupDeed, GroupTurn, RefreshedWriter, HadGroupTurn, is_refreshed, took_by, writer_past}
use Rattle.group_laws.proofs.TurnTaken.{advanced-keys}
use Rattle.session_model.specs.Steps.{Plan, Step, Enable, Disable, Append, Tick, Pump, moment_of}
use Rattle.session_model.specs.Deeds.{Deed, RefreshedBelow, RefreshedSet, CameTo, TookTurn, RenewedKeys, advanced_if, answered_at, component_at, deeds, group_indexes, group_past, has_turn, is_rekeyed, is_writer_below, is_writer_of, refreshed_where, rekeyed, sender_after, shares, turn_of, turned_on, writer_indexes}
use Rattle.session_laws.specs.Fresh.{BeginWithKeys, KeyedTurn, keyed_turn, keyed_turns, token_after}
use Rattle.session_laws.specs.Pasts.{settings_at}
use Rattle.session_model.proofs.Deeds.{refreshed-keeps}
use Rattle.session_laws.proofs.Versions.Telling.{writer-index}
use Rattle.session_laws.proofs.Versions.Tokens.{fresh-where, rekey-fresh}

-- ---- a refreshed writer's next turn is fresh

pub fresh-is : (w : ℕ) (past : List GroupDeed) → is_refreshed w past ≡ true → is_fresh (writer_past w past) ≡ true
fresh-is w [] e = refl
fresh-is w (RefreshedWriter other ∷ before) e = on (other == w) (fresh-is w before) e
  where
    on : (b : Bool) → (is_refreshed w before ≡ true → is_fresh (writer_past w before) ≡ true) → (b || is_refreshed w before) ≡ true
        → is_fresh (cons_option (if b then Some Refreshed else None) (writer_past w before)) ≡ true
    on true rest e = refl
    on false rest e = rest e
fresh-is w (HadGroupTurn turn ∷ before) e = on (took_by w turn) (fresh-is w before) e
  where
    on : (o : Option WriterTurn) → (is_refreshed w before ≡ true → is_fresh (writer_past w before) ≡ true) → (is_none o && is_refreshed w before) ≡ true
        → is_fresh (cons_option (option_map HadTurn o) (writer_past w before)) ≡ true
    on None rest e = rest e
    on (Some t) rest e = absurd (cc)

key-fresh : (config : Config) (k g w : ℕ) (before : List Deed) (turn : WriterTurn) → is_fresh (writer_past w (group_past config g before)) ≡ true → is_key (keyed_turn config k g w before turn).answered ≡ true
key-fresh config k g w before turn e =
    let s = settings_at (group_at config g) w in
    let past = writer_past w (group_past config g before) in
    ap (λ (b : Bool). is_key (record { turn = turn; answer = Rattle.pubsub_model.specs.Cadence.answer s b (cadence s past) turn })) e

-- ---- what each deed keeps

-- one of the turns has the token
abbrev HasToken : ℕ → List KeyedTurn → Type 0
HasToken token [] = ⊥
HasToken token (turn ∷ before) = (turn.token ≡ token) ⊎ HasToken token before

no-token : (token : ℕ) (turns : List KeyedTurn) → All (λ earlier. earlier.token ≢ token) turns → HasToken token turns → ⊥
no-token token [] all none = none
no-token token (turn ∷ before) all (inl here) = All-head (λ earlier. earlier.token ≢ token) turn before all here
no-token token (turn ∷ before) all (inr more) = no-token token before (All-tail (λ earlier. earlier.token ≢ token) turn before all) more

-- the writer's next turn is fresh, or it had one under the present token
record BeginsBy (w token : ℕ) (past : List GroupDeed) (turns : List KeyedTurn) : Type 0 where
  ready : (is_refreshed w past ≡ true) ⊎ HasToken token turns
  begin : BeginWithKeys turns

abbrev Begins : Config → ℕ → ℕ → ℕ → List Deed → Type 0
Begins config k g w deeds = BeginsBy w (token_after config k deeds) (group_past config g deeds) (keyed_turns config k g w deeds)

-- refreshes keep it
begins-where : (w token : ℕ) (test : ℕ → Bool) (past : List GroupDeed) (writers : List ℕ) (turns : List KeyedTurn) → BeginsBy w token past turns → BeginsBy w token (refreshed_where test past writers) turns
begins-where w token test past writers turns h = record { ready = on h.ready; begin = h.begin }
  where
    on : (is_refreshed w past ≡ true) ⊎ HasToken token turns → (is_refreshed w (refreshed_where test past writers) ≡ true) ⊎ HasToken token turns
    on (inl fresh) = inl (fresh-where test w past writers fresh)
    on (inr had) = inr had

begins-below : (config : Config) (k g w : ℕ) (component : Component) (earlier : List Deed) → Begins config k g w earlier → Begins config k g w (RefreshedBelow component ∷ earlier)
begins-below config k g w component earlier h =
    begins-where w (token_after config k earlier) (is_writer_below component g) (group_past config g earlier) (writer_indexes (group_at config g)) (keyed_turns config k g w earlier) h

begins-set : (config : Config) (k g w set : ℕ) (earlier : List Deed) → Begins config k g w earlier → Begins config k g w (RefreshedSet set ∷ earlier)
begins-set config k g w set earlier h =
    begins-where w (token_after config k earlier) (is_writer_of (group_at config g) set) (group_past config g earlier) (writer_indexes (group_at config g)) (keyed_turns config k g w earlier) h

begins-if : (config : Config) (k g w : ℕ) (b : Bool) (component : Component) (earlier : List Deed) → Begins config k g w earlier → Begins config k g w (cons_if b (RefreshedBelow component) earlier)
begins-if config k g w true component earlier h = begins-below config k g w component earlier h
begins-if config k g w false component earlier h = h

begins-among : (config : Config) (k g w now : ℕ) (before : List Deed) (gs : List ℕ) (earlier : List Deed) → Begins config k g w earlier
    → Begins config k g w (fold (λ deeds g. cons_if (is_rekeyed config now before g) (RefreshedBelow (Group g)) deeds) earlier gs)
begins-among config k g w now before [] earlier h = h
begins-among config k g w now before (other ∷ gs) earlier h =
    begins-among config k g w now before gs (cons_if (is_rekeyed config now before other) (RefreshedBelow (Group other)) earlier)
    (begins-if config k g w (is_rekeyed config now before other) (Group other) earlier h)

-- the turns of the writer are as they were
turns-among : (config : Config) (k g w now : ℕ) (before : List Deed) (gs : List ℕ) (earlier : List Deed)
    → keyed_turns config k g w (fold (λ deeds g. cons_if (is_rekeyed config now before g) (RefreshedBelow (Group g)) deeds) earlier gs) ≡ keyed_turns config k g w earlier
turns-among config k g w now before [] earlier = refl
turns-among config k g w now before (other ∷ gs) earlier =
    turns-among config k g w now before gs (cons_if (is_rekeyed config now before other) (RefreshedBelow (Group other)) earlier) ∙ on (is_rekeyed config now before other)
  where
    on : (b : Bool) → keyed_turns config k g w (cons_if b (RefreshedBelow (Group other)) earlier) ≡ keyed_turns config k g w earlier
    on true = refl
    on false = refl

same-token : (a b : ℕ) → not (a == b) ≡ false → a ≡ b
same-token a b e = grind (arith, nat_tests)

rekeyed-by : (config : Config) (k g now : ℕ) (before : List Deed) → (group_at config g).keygroup ≡ Some k
    → is_rekeyed config now before g ≡ not ((turned_to (sender_after config k before) now).keys.token == token_after config k before)
rekeyed-by config k g now before keyed =
    ap (λ (o : Option ℕ). option_map_or (λ (s : SenderState). not ((turned_to s now).keys.token == s.keys.token)) (option_map (λ k. sender_after config k before) o) false) keyed

-- a tick comes to its moment
begins-rekeyed : (config : Config) (k g w now : ℕ) (before : List Deed) → (group_at config g).keygroup ≡ Some k → w < length (group_at config g).writer → g < length config.group
    → Begins config k g w before → Begins config k g w (rekeyed config now before)
begins-rekeyed config k g w now before keyed within there h = on (is_rekeyed config now before g) refl
  where
    on : (b : Bool) → is_rekeyed config now before g ≡ b → Begins config k g w (rekeyed config now before)
    on true e = record {
      ready = inl (rekey-fresh config now before g w e there within);
      begin = subst BeginWithKeys (sym (turns-among config k g w now before (group_indexes config) (CameTo now ∷ before))) h.begin;
    }
    on false e =
        let same : token_after config k before ≡ (turned_to (sender_after config k before) now).keys.token =
        sym (same-token ((turned_to (sender_after config k before) now).keys.token) (token_after config k before) (sym (rekeyed-by config k g now before keyed) ∙ e)) in
        begins-among config k g w now before (group_indexes config) (CameTo now ∷ before)
        (subst (λ (t : ℕ). BeginsBy w t (group_past config g before) (keyed_turns config k g w before)) same h)

-- ---- a turn

same-if : (b : Bool) (mode : Mode) (count : ℕ) (s : SenderState) → (advanced_if b mode count s).keys ≡ s.keys
same-if true mode count s = advanced-keys mode s count
same-if false mode count s = refl

turn-token : (config : Config) (k other : ℕ) (turn : GroupTurn) (earlier : List Deed) → token_after config k earlier ≡ token_after config k (TookTurn other turn ∷ earlier)
turn-token config k other turn earlier =
    sym (ap (λ (keys : TokenKeys). keys.token) (same-if (shares (group_at config other) k) (mode_of (group_at config other).security) (length turn.made) (sender_after config k earlier)))

-- a turn that the writer has is fresh, or not the first under its token
key-here : (config : Config) (k g w : ℕ) (earlier : List Deed) (turn : WriterTurn) → (is_refreshed w (group_past config g earlier) ≡ true) ⊎ HasToken (token_after config k earlier) (keyed_turns config k g w earlier)
    → All (λ before. before.token ≢ token_after config k earlier) (keyed_turns config k g w earlier) → is_key (keyed_turn config k g w earlier turn).answered ≡ true
key-here config k g w earlier turn (inl fresh) none = key-fresh config k g w earlier turn (fresh-is w (group_past config g earlier) fresh)
key-here config k g w earlier turn (inr had) none = absurd (no-token (token_after config k earlier) (keyed_turns config k g w earlier) none had)

begins-took : (config : Config) (k g w : ℕ) (b : Bool) (o : Option WriterTurn) (turn : GroupTurn) (earlier : List Deed) → took_by w turn ≡ o → Begins config k g w earlier
    → BeginsBy w (token_after config k earlier) (cons_if b (HadGroupTurn turn) (group_past config g earlier))
    (cons_option (if b then option_map (keyed_turn config k g w earlier) o else None) (keyed_turns config k g w earlier))
begins-took config k g w false o turn earlier e h = h
begins-took config k g w true None turn earlier e h = record { ready = on h.ready; begin = h.begin }
  where
    on : (is_refreshed w (group_past config g earlier) ≡ true) ⊎ HasToken (token_after config k earlier) (keyed_turns config k g w earlier)
        → (is_refreshed w (HadGroupTurn turn ∷ group_past config g earlier) ≡ true) ⊎ HasToken (token_after config k earlier) (keyed_turns config k g w earlier)
    on (inl fresh) = inl (ap (λ (o : Option WriterTurn). is_none o && is_refreshed w (group_past config g earlier)) e ∙ fresh)
    on (inr had) = inr had
begins-took config k g w true (Some t) turn earlier e h = record { ready = inr (inl refl); begin = (key-here config k g w earlier t h.ready, h.begin) }

begins-turn : (config : Config) (k g w other : ℕ) (turn : GroupTurn) (earlier : List Deed) → Begins config k g w earlier → Begins config k g w (TookTurn other turn ∷ earlier)
begins-turn config k g w other turn earlier h =
    subst (λ (t : ℕ). BeginsBy w t (group_past config g (TookTurn other turn ∷ earlier)) (keyed_turns config k g w (TookTurn other turn ∷ earlier))) (turn-token config k other turn earlier)
    (begins-took config k g w (other == g) (took_by w turn) turn earlier refl h)

begins-if-turned : (config : Config) (k g w : ℕ) (b : Bool) (other : ℕ) (turn : GroupTurn) (earlier : List Deed) → Begins config k g w earlier → Begins config k g w (cons_if b (TookTurn other turn) earlier)
begins-if-turned config k g w true other turn earlier h = begins-turn config k g w other turn earlier h
begins-if-turned config k g w false other turn earlier h = h

begins-turned : (p : Plan) (k g w : ℕ) (before : List Step) (now : ℕ) (closing : Bool) (samples : List Sampled) (gs : List ℕ) (earlier : List Deed) → Begins p.config k g w earlier
    → Begins p.config k g w (fold (turned_on p before now closing samples) earlier gs)
begins-turned p k g w before now closing samples [] earlier h = h
begins-turned p k g w before now closing samples (other ∷ gs) earlier h =
    begins-turned p k g w before now closing samples gs (turned_on p before now closing samples earlier other)
    (begins-if-turned p.config k g w (has_turn p before now closing earlier other) other (turn_of p before now closing samples earlier other) earlier h)

-- ---- a session

all-begin : (p : Plan) (k g w : ℕ) (steps : List Step) → (group_at p.config g).keygroup ≡ Some k → w < length (group_at p.config g).writer → g < length p.config.group → Begins p.config k g w (deeds p steps)
all-begin p k g w [] keyed within there = record { ready = inl refl; begin = tt }
all-begin p k g w (Enable id ∷ before) keyed within there = begins-below p.config k g w (component_at p.config id) (deeds p before) (all-begin p k g w before keyed within there)
all-begin p k g w (Disable id ∷ before) keyed within there = all-begin p k g w before keyed within there
all-begin p k g w (Append set field ∷ before) keyed within there = begins-set p.config k g w set (deeds p before) (all-begin p k g w before keyed within there)
all-begin p k g w (Tick ms closing samples done ∷ before) keyed within there =
    let now = moment_of before + ms in
    begins-turned p k g w before now closing samples (group_indexes p.config) (rekeyed p.config now (deeds p before))
    (begins-rekeyed p.config k g w now (deeds p before) keyed within there (all-begin p k g w before keyed within there))
all-begin p k g w (Pump entries ∷ before) keyed within there = all-begin p k g w before keyed within there

pub anew : (p : Plan) (k g w : ℕ) (steps : List Step) → (group_at p.config g).keygroup ≡ Some k → w < length (group_at p.config g).writer → BeginWithKeys (keyed_turns p.config k g w (deeds p steps))
anew p k g w steps keyed within = (all-begin p k g w steps keyed within (writer-index p.config g w within)).begin

-- ---- the turns are the writer's

pub same-writer : (s : Settings) (w : ℕ) (test : ℕ → Bool) (past : List GroupDeed) (writers : List ℕ) → cadence s (writer_past w (refreshed_where test past writers)) ≡ cadence s (writer_past w past)
same-writer s w test past writers =
    refreshed-keeps (λ later. cadence s (writer_past w later) ≡ cadence s (writer_past w past)) (λ writer later e. on (writer == w) later ∙ e) test past writers refl
  where
    on : (b : Bool) (later : List GroupDeed) → cadence s (cons_option (if b then Some Refreshed else None) (writer_past w later)) ≡ cadence s (writer_past w later)
    on true later = refl
    on false later = refl

pub answers-of : (config : Config) (k g w : ℕ) (list : List Deed) → map (λ turn. turn.answered) (keyed_turns config k g w list) ≡ cadence (settings_at (group_at config g) w) (writer_past w (group_past config g list))
answers-of config k g w [] = refl
answers-of config k g w (RefreshedBelow component ∷ before) =
    answers-of config k g w before
    ∙ sym (same-writer (settings_at (group_at config g) w) w (is_writer_below component g) (group_past config g before) (writer_indexes (group_at config g)))
answers-of config k g w (RefreshedSet set ∷ before) =
    answers-of config k g w before
    ∙ sym (same-writer (settings_at (group_at config g) w) w (is_writer_of (group_at config g) set) (group_past config g before) (writer_indexes (group_at config g)))
answers-of config k g w (CameTo now ∷ before) = answers-of config k g w before
answers-of config k g w (RenewedKeys keygroup sets ∷ before) = answers-of config k g w before
answers-of config k g w (TookTurn other turn ∷ before) = on (answers-of config k g w before) (other == g) (took_by w turn) refl
  where
    s : Settings
    s = settings_at (group_at config g) w

    on : map (λ turn. turn.answered) (keyed_turns config k g w before) ≡ cadence s (writer_past w (group_past config g before)) → (b : Bool) (o : Option WriterTurn) → took_by w turn ≡ o
        → map (λ turn. turn.answered) (cons_option (if b then option_map (keyed_turn config k g w before) o else None) (keyed_turns config k g w before))
        ≡ cadence s (writer_past w (cons_if b (HadGroupTurn turn) (group_past config g before)))
    on rest false o e = rest
    on rest true None e = rest ∙ sym (ap (λ (o : Option WriterTurn). cadence s (cons_option (option_map HadTurn o) (writer_past w (group_past config g before)))) e)
    on rest true (Some t) e =
        ap (λ (l : List Answered). (keyed_turn config k g w before t).answered ∷ l) rest
        ∙ sym (ap (λ (o : Option WriterTurn). cadence s (cons_option (option_map HadTurn o) (writer_past w (group_past config g before)))) e)

pub answered-turns : (p : Plan) (k g w : ℕ) (steps : List Step) → map (λ turn. turn.answered) (keyed_turns p.config k g w (deeds p steps)) ≡ answered_at p g w steps
answered-turns p k g w steps = answers-of p.config k g w (deeds p steps)
