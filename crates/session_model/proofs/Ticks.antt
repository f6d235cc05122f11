-- A writer has at most one data frame a tick.
use Rattle.std.proofs.Common.{◌≡◌, refl, sym, subst, arith, ℕ, zero, suc, ◌+◌, ◌<◌, ◌≤◌, Bool, true, false, List, [], ◌∷◌, length, take, Option, Some, None}
use Rattle.std.specs.Prelude.{fold, ◌==◌, nat_lt, option_map, if◌then◌else◌}
use Rattle.std.specs.List.{cons_option}
use Rattle.std.proofs.lemmas.Bool.Decides.{nat_tests}
use Rattle.std.proofs.lemmas.List.{take_all}
use Rattle.dataset_meta.specs.Rows.{cons_if}
use Rattle.pubsub_model.specs.Frames.{PlacedFrame, Whole, Change, Alive}
use Rattle.pubsub_model.specs.Cadence.{Settings, WriterTurn, WriterDeed, Refreshed, HadTurn, cadence, answer, is_fresh, log_of, next_place}
use Rattle.pubsub_model.proofs.CadenceLaws.{length-log_of}
use Rattle.group_keys.specs.declared.key_set.KeySet.{KeySet}
use Rattle.ps_config.specs.declared.parts.Config.{Config}
use Rattle.pubsub_states.specs.declared.component.Component.{Component}
use Rattle.pubsub_states.specs.declared.component.Component.TheVariants.{Group}
use Rattle.writer_group.specs.declared.sampled.Sampled.{Sampled}
use Rattle.dataset_writer.specs.Turns.{model_settings}
use Rattle.writer_group.specs.Payloads.{writer_at}
use Rattle.writer_group.specs.Turns.{GroupDeed, GroupTurn, HadGroupTurn, settings_of, took_by, writer_past}
use Rattle.session_model.specs.Steps.{Plan, Step, Enable, Disable, Append, Tick, Pump, moment_of}
use Rattle.session_model.specs.Deeds.{Deed, RefreshedBelow, RefreshedSet, RenewedKeys, CameTo, TookTurn, deeds, component_at, group_past, group_indexes, writer_indexes, refreshed_where, is_writer_below, is_writer_of, is_rekeyed, rekeyed, has_turn, turn_of, log_at, logs_at, logs_cut, tick_deeds}
use Rattle.writer_group.specs.Parts.{group_at}
use Rattle.session_model.specs.Turns.{deeds_till}
use Rattle.session_model.specs.Counts.{ticks_in}
use Rattle.session_model.specs.Lives.{Lived, Renewed, Stepped, account_in, log_in, steps_in}
use Rattle.session_model.specs.Keeping.{AreStepsOf}
use Rattle.session_model.proofs.Lasting.{ticks-few}
use Rattle.session_model.proofs.Deeds.{next-till, refreshed-keeps}
use Rattle.pubsub_model.proofs.AnswerPlaces.{next-count}
use Rattle.pubsub_model.specs.Answers.{places_used}

had : List WriterDeed → ℕ
had [] = 0
had (Refreshed ∷ before) = had before
had (HadTurn turn ∷ before) = had before + 1

one-at-most : (o : Option PlacedFrame) → places_used o ≤ 1
one-at-most None = omega arith
one-at-most (Some (Whole place row)) = omega arith
one-at-most (Some (Change place patch)) = omega arith
one-at-most (Some (Alive next)) = omega arith

next-had : (s : Settings) (past : List WriterDeed) → next_place s (cadence s past) ≤ s.first_number + had past
unfolding had
next-had s [] = omega arith
next-had s (Refreshed ∷ before) = next-had s before
next-had s (HadTurn turn ∷ before) =
    let a = answer s (is_fresh before) (cadence s before) turn in
    let e = next-count s (cadence s before) turn a in let most = one-at-most a in let rest = next-had s before in omega (arith, e, most, rest)

AtMost : Config → ℕ → ℕ → ℕ → List Deed → Type 0
AtMost config g w most deeds = had (writer_past w (group_past config g deeds)) ≤ most

refresh-had : (b : Bool) (past : List WriterDeed) → had (cons_option (if b then Some Refreshed else None) past) ≡ had past
unfolding had
refresh-had true past = refl
refresh-had false past = refl

refreshed-most : (w most : ℕ) (test : ℕ → Bool) (past : List GroupDeed) (writers : List ℕ) → had (writer_past w past) ≤ most → had (writer_past w (refreshed_where test past writers)) ≤ most
refreshed-most w most test past writers le =
    refreshed-keeps (λ past. had (writer_past w past) ≤ most) (λ writer past h. let e = refresh-had (writer == w) (writer_past w past) in omega (arith, e, h)) test past writers le

most-below : (config : Config) (component : Component) (g w most : ℕ) (earlier : List Deed) → AtMost config g w most earlier → AtMost config g w most (RefreshedBelow component ∷ earlier)
unfolding AtMost
most-below config component g w most earlier h = refreshed-most w most (is_writer_below component g) (group_past config g earlier) (writer_indexes (group_at config g)) h

most-set : (config : Config) (set g w most : ℕ) (earlier : List Deed) → AtMost config g w most earlier → AtMost config g w most (RefreshedSet set ∷ earlier)
unfolding AtMost
most-set config set g w most earlier h = refreshed-most w most (is_writer_of (group_at config g) set) (group_past config g earlier) (writer_indexes (group_at config g)) h

most-came : (config : Config) (now g w most : ℕ) (earlier : List Deed) → AtMost config g w most earlier → AtMost config g w most (CameTo now ∷ earlier)
unfolding AtMost
most-came config now g w most earlier h = h

most-if : (config : Config) (g w most : ℕ) (b : Bool) (component : Component) (earlier : List Deed) → AtMost config g w most earlier → AtMost config g w most (cons_if b (RefreshedBelow component) earlier)
most-if config g w most true component earlier h = most-below config component g w most earlier h
most-if config g w most false component earlier h = h

most-rekeyed : (config : Config) (now : ℕ) (before : List Deed) (g w most : ℕ) (gs : List ℕ) (earlier : List Deed) → AtMost config g w most earlier
    → AtMost config g w most (fold (λ deeds k. cons_if (is_rekeyed config now before k) (RefreshedBelow (Group k)) deeds) earlier gs)
most-rekeyed config now before g w most [] earlier h = h
most-rekeyed config now before g w most (k ∷ gs) earlier h =
    most-rekeyed config now before g w most gs (cons_if (is_rekeyed config now before k) (RefreshedBelow (Group k)) earlier) (most-if config g w most (is_rekeyed config now before k) (Group k) earlier h)

turn-had : (took : Option WriterTurn) (past : List WriterDeed) (most : ℕ) → had past ≤ most → had (cons_option (option_map HadTurn took) past) ≤ most + 1
unfolding had
turn-had None past most le = omega (arith, le)
turn-had (Some turn) past most le = omega (arith, le)

own-most : (config : Config) (g w most k : ℕ) (own b : Bool) (turn : GroupTurn) (earlier : List Deed) → (k == g) ≡ own → AtMost config g w most earlier → AtMost config g w (most + (if own then 1 else 0)) (cons_if b (TookTurn k turn) earlier)
unfolding AtMost
own-most config g w most k true false turn earlier e h = omega (arith, h)
own-most config g w most k false false turn earlier e h = omega (arith, h)
own-most config g w most k true true turn earlier e h =
    subst (λ (t : Bool). had (writer_past w (cons_if t (HadGroupTurn turn) (group_past config g earlier))) ≤ most + 1) (sym e) (turn-had (took_by w turn) (writer_past w (group_past config g earlier)) most h)
own-most config g w most k false true turn earlier e h =
    subst (λ (t : Bool). had (writer_past w (cons_if t (HadGroupTurn turn) (group_past config g earlier))) ≤ most + 0) (sym e) (let same : most + 0 ≡ most = omega arith in omega (arith, h))

abbrev so_many : ℕ → ℕ → ℕ → ℕ
so_many most g k = most + (if nat_lt g k then 1 else 0)

step-many : (most g k : ℕ) (own : Bool) → (k == g) ≡ own → so_many most g k + (if own then 1 else 0) ≤ so_many most g (suc k)
step-many most g k true e = grind (arith, nat_tests)
step-many most g k false e = grind (arith, nat_tests)

most-wider : (config : Config) (g w less more : ℕ) (deeds : List Deed) → less ≤ more → AtMost config g w less deeds → AtMost config g w more deeds
unfolding AtMost
most-wider config g w less more deeds le h = omega (arith, le, h)

most-to : (p : Plan) (before : List Step) (now : ℕ) (closing : Bool) (samples : List Sampled) (earlier : List Deed) (g w most k : ℕ) → AtMost p.config g w most (rekeyed p.config now earlier)
    → AtMost p.config g w (so_many most g k) (deeds_till p before now closing samples earlier k)
most-to p before now closing samples earlier g w most zero h = most-wider p.config g w most (so_many most g 0) (deeds_till p before now closing samples earlier 0) (omega arith) h
most-to p before now closing samples earlier g w most (suc k) h =
    let so_far = deeds_till p before now closing samples earlier k in
    subst (AtMost p.config g w (so_many most g (suc k))) (sym (next-till p before now closing samples earlier k))
    (most-wider p.config g w (so_many most g k + (if k == g then 1 else 0)) (so_many most g (suc k)) (cons_if (has_turn p before now closing so_far k) (TookTurn k (turn_of p before now closing samples so_far k)) so_far) (step-many most g k (k == g) refl)
    (own-most p.config g w (so_many most g k) k (k == g) (has_turn p before now closing so_far k) (turn_of p before now closing samples so_far k) so_far refl (most-to p before now closing samples earlier g w most k h)))

most-tick : (p : Plan) (before : List Step) (now : ℕ) (closing : Bool) (samples : List Sampled) (earlier : List Deed) (g w most : ℕ) → AtMost p.config g w most earlier
    → AtMost p.config g w (most + 1) (tick_deeds p before now closing samples earlier)
most-tick p before now closing samples earlier g w most h =
    most-wider p.config g w (so_many most g (length p.config.group)) (most + 1) (tick_deeds p before now closing samples earlier) (grind (arith, nat_tests))
    (most-to p before now closing samples earlier g w most (length p.config.group)
    (most-rekeyed p.config now earlier g w most (group_indexes p.config) (CameTo now ∷ earlier) (most-came p.config now g w most earlier h)))

most-renewed : (config : Config) (k : ℕ) (sets : List KeySet) (g w most : ℕ) (earlier : List Deed) → AtMost config g w most earlier → AtMost config g w most (RenewedKeys k sets ∷ earlier)
unfolding AtMost
most-renewed config k sets g w most earlier h = h

most-none : (config : Config) (g w : ℕ) → AtMost config g w 0 []
unfolding AtMost had
most-none config g w = omega arith

most-at : (p : Plan) (g w : ℕ) (steps : List Step) → AtMost p.config g w (ticks_in steps) (deeds p steps)
most-at p g w [] = most-none p.config g w
most-at p g w (Enable id ∷ before) = most-below p.config (component_at p.config id) g w (ticks_in before) (deeds p before) (most-at p g w before)
most-at p g w (Disable id ∷ before) = most-at p g w before
most-at p g w (Append set field ∷ before) = most-set p.config set g w (ticks_in before) (deeds p before) (most-at p g w before)
most-at p g w (Tick ms closing samples done ∷ before) = most-tick p before (moment_of before + ms) closing samples (deeds p before) g w (ticks_in before) (most-at p g w before)
most-at p g w (Pump entries ∷ before) = most-at p g w before

-- in a life
most-in : (p : Plan) (g w : ℕ) (life : List Lived) → AtMost p.config g w (ticks_in (steps_in life)) (account_in p life).deeds
most-in p g w [] = most-none p.config g w
most-in p g w (Stepped (Enable id) ∷ before) = most-below p.config (component_at p.config id) g w (ticks_in (steps_in before)) (account_in p before).deeds (most-in p g w before)
most-in p g w (Stepped (Disable id) ∷ before) = most-in p g w before
most-in p g w (Stepped (Append set field) ∷ before) = most-set p.config set g w (ticks_in (steps_in before)) (account_in p before).deeds (most-in p g w before)
most-in p g w (Stepped (Tick ms closing samples done) ∷ before) =
    most-tick p (steps_in before) (moment_of (steps_in before) + ms) closing samples (account_in p before).deeds g w (ticks_in (steps_in before)) (most-in p g w before)
most-in p g w (Stepped (Pump entries) ∷ before) = most-in p g w before
most-in p g w (Renewed k sets ∷ before) = most-renewed p.config k sets g w (ticks_in (steps_in before)) (account_in p before).deeds (most-in p g w before)

most-use : (config : Config) (g w most : ℕ) (deeds : List Deed) → AtMost config g w most deeds → had (writer_past w (group_past config g deeds)) ≤ most
unfolding AtMost
most-use config g w most deeds h = h

few-of : (config : Config) (g w most : ℕ) (deeds : List Deed) → AtMost config g w most deeds
    → length (log_of (model_settings (settings_of (writer_at (group_at config g) w))) (writer_past w (group_past config g deeds))) ≤ most
few-of config g w most deeds h =
    let s = model_settings (settings_of (writer_at (group_at config g) w)) in
    let past = writer_past w (group_past config g deeds) in
    let count = length-log_of s past in let next = next-had s past in let turns = most-use config g w most deeds h in omega (arith, count, next, turns)

-- a log is no longer than there were ticks
pub log-few : (p : Plan) (g w : ℕ) (steps : List Step) → length (log_at p g w steps) ≤ ticks_in steps
log-few p g w steps = few-of p.config g w (ticks_in steps) (deeds p steps) (most-at p g w steps)

-- nor in a life
pub log-few-in : (p : Plan) (g w : ℕ) (life : List Lived) → length (log_in p life g w) ≤ ticks_in (steps_in life)
log-few-in p g w life = few-of p.config g w (ticks_in (steps_in life)) (account_in p life).deeds (most-in p g w life)

-- logs that keep more data frames than ticks may come, the closing one aside, keep all
pub logs-whole : (most ticks : ℕ) (p : Plan) (steps : List Step) → AreStepsOf ticks p steps → ticks < most → logs_cut most p steps ≡ logs_at p steps
logs-whole most ticks p steps are less = λ i g w. whole g w i
  where
    whole : (g w : ℕ) → take most (log_at p g w steps) ≡ log_at p g w steps
    whole g w =
        let few : length (log_at p g w steps) ≤ ticks_in steps = log-few p g w steps in
        let came : ticks_in steps ≤ ticks + 1 = ticks-few ticks p steps are in
        take_all most (log_at p g w steps) (omega (arith, few, came, less))

-- so do they in a life
pub log-whole-in : (most ticks : ℕ) (p : Plan) (life : List Lived) → AreStepsOf ticks p (steps_in life) → ticks < most → (g w : ℕ) → take most (log_in p life g w) ≡ log_in p life g w
log-whole-in most ticks p life are less g w =
    let few : length (log_in p life g w) ≤ ticks_in (steps_in life) = log-few-in p g w life in
    let came : ticks_in (steps_in life) ≤ ticks + 1 = ticks-few ticks p (steps_in life) are in
    take_all most (log_in p life g w) (omega (arith, few, came, less))
