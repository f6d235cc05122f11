-- Under each new token a writer's first frame is a key frame.
use Rattle.std.proofs.Common.{◌≡◌, ◌≢◌, refl, sym, ap, ◌∙◌, subst, arith, ℕ, zero, suc, ◌<◌, ◌≤◌, Bool, true, false, List, [], ◌∷◌, length, Some, Contains}
use Rattle.std.specs.Prelude.{fold, ◌==◌, ◌||◌}
use Rattle.std.proofs.lemmas.Bool.Decides.{nat_tests}
use Rattle.dataset_meta.specs.Rows.{cons_if}
use Rattle.pubsub_model.specs.Cadence.{WriterTurn, cadence, next_place}
use Rattle.pubsub_model.specs.Frames.{Whole}
use Rattle.dataset_writer.specs.Turns.{model_settings}
use Rattle.ps_config.specs.declared.parts.Config.{Config}
use Rattle.ps_config.specs.declared.parts.GroupPart.{GroupPart}
use Rattle.pubsub_states.specs.declared.component.Component.{Component}
use Rattle.pubsub_states.specs.declared.component.Component.TheVariants.{Group}
use Rattle.writer_group.specs.declared.sampled.Sampled.{Sampled}
use Rattle.writer_group.specs.Payloads.{writer_at}
use Rattle.writer_group.specs.Turns.{GroupDeed, GroupTurn, RefreshedWriter, HadGroupTurn, answer_of, is_refreshed, settings_of, writer_past}
use Rattle.session_model.specs.Steps.{Plan, Step}
use Rattle.session_model.specs.Deeds.{Deed, RefreshedBelow, CameTo, TookTurn, deeds, group_past, group_indexes, writer_indexes, refreshed_where, is_writer_below, is_rekeyed, rekeyed, has_turn, turn_of}
use Rattle.writer_group.specs.Parts.{group_at}
use Rattle.session_model.specs.Turns.{deeds_before}
use Rattle.session_model.proofs.Deeds.{next-turned, refreshed-keeps}
use Rattle.session_laws.proofs.Versions.Living.{writer-in}

-- the law of refreshed writers, as `writer_group` has it
abbrev pub FreshLaw : Type 0
FreshLaw =
    (part : GroupPart) (past : List GroupDeed) (writer : ℕ) (turn : WriterTurn) → is_refreshed writer past ≡ true
    → (let s = model_settings (settings_of (writer_at part writer)) in answer_of part past writer turn ≡ Some (Whole (next_place s (cadence s (writer_past writer past))) turn.row))

IsFreshAt : Config → ℕ → ℕ → List Deed → Type 0
IsFreshAt config g w deeds = is_refreshed w (group_past config g deeds) ≡ true

or-true : (a b : Bool) → b ≡ true → (a || b) ≡ true
or-true true b e = refl
or-true false b e = e

self : (n : ℕ) → (n == n) ≡ true
self n = grind (arith, nat_tests)

-- a refresh keeps it
pub fresh-where : (test : ℕ → Bool) (w : ℕ) (past : List GroupDeed) (writers : List ℕ) → is_refreshed w past ≡ true → is_refreshed w (refreshed_where test past writers) ≡ true
fresh-where test w past writers e = refreshed-keeps (λ past. is_refreshed w past ≡ true) (λ writer past h. or-true (writer == w) (is_refreshed w past) h) test past writers e

-- one of its own makes it
fresh-one : (w : ℕ) (b : Bool) (past : List GroupDeed) → b ≡ true → is_refreshed w (cons_if b (RefreshedWriter w) past) ≡ true
fresh-one w true past e = ap (λ (t : Bool). t || is_refreshed w past) (self w)
fresh-one w false past e = absurd (cc)

fresh-among : (test : ℕ → Bool) (w : ℕ) (past : List GroupDeed) (writers : List ℕ) → test w ≡ true → Contains writers w → is_refreshed w (refreshed_where test past writers) ≡ true
fresh-among test w past [] e has = absurd (let below = has.1 in omega (arith, below))
fresh-among test w past (v ∷ writers) e (zero, below, same) =
    fresh-where test w (cons_if (test v) (RefreshedWriter v) past) writers (subst (λ (n : ℕ). is_refreshed w (cons_if (test n) (RefreshedWriter n) past) ≡ true) (sym same) (fresh-one w (test w) past e))
fresh-among test w past (v ∷ writers) e (suc k, below, same) = fresh-among test w (cons_if (test v) (RefreshedWriter v) past) writers e (k, omega (arith, below), same)

below-group : (g w : ℕ) → is_writer_below (Group g) g w ≡ true
below-group g w = ap (λ (t : Bool). t || false) (self g)

fresh-below : (config : Config) (component : Component) (g w : ℕ) (earlier : List Deed) → IsFreshAt config g w earlier → IsFreshAt config g w (RefreshedBelow component ∷ earlier)
unfolding IsFreshAt
fresh-below config component g w earlier h = fresh-where (is_writer_below component g) w (group_past config g earlier) (writer_indexes (group_at config g)) h

fresh-own : (config : Config) (g w : ℕ) (earlier : List Deed) → w < length (group_at config g).writer → IsFreshAt config g w (RefreshedBelow (Group g) ∷ earlier)
unfolding IsFreshAt
fresh-own config g w earlier within = fresh-among (is_writer_below (Group g) g) w (group_past config g earlier) (writer_indexes (group_at config g)) (below-group g w) (writer-in (length (group_at config g).writer) w within)

-- among the groups whose token changes
abbrev rekey_on : Config → ℕ → List Deed → List Deed → ℕ → List Deed
rekey_on config now before so_far g = cons_if (is_rekeyed config now before g) (RefreshedBelow (Group g)) so_far

rekey-if : (config : Config) (k g w : ℕ) (b : Bool) (earlier : List Deed) → IsFreshAt config g w earlier → IsFreshAt config g w (cons_if b (RefreshedBelow (Group k)) earlier)
rekey-if config k g w true earlier h = fresh-below config (Group k) g w earlier h
rekey-if config k g w false earlier h = h

rekey-kept : (config : Config) (now : ℕ) (before : List Deed) (g w : ℕ) (gs : List ℕ) (earlier : List Deed) → IsFreshAt config g w earlier → IsFreshAt config g w (fold (rekey_on config now before) earlier gs)
rekey-kept config now before g w [] earlier h = h
rekey-kept config now before g w (k ∷ gs) earlier h = rekey-kept config now before g w gs (rekey_on config now before earlier k) (rekey-if config k g w (is_rekeyed config now before k) earlier h)

rekey-own : (config : Config) (g w : ℕ) (b : Bool) (earlier : List Deed) → b ≡ true → w < length (group_at config g).writer → IsFreshAt config g w (cons_if b (RefreshedBelow (Group g)) earlier)
rekey-own config g w true earlier e within = fresh-own config g w earlier within
rekey-own config g w false earlier e within = absurd (cc)

rekey-made : (config : Config) (now : ℕ) (before : List Deed) (g w : ℕ) (gs : List ℕ) (earlier : List Deed) → is_rekeyed config now before g ≡ true → w < length (group_at config g).writer → Contains gs g
    → IsFreshAt config g w (fold (rekey_on config now before) earlier gs)
rekey-made config now before g w [] earlier e within has = absurd (let below = has.1 in omega (arith, below))
rekey-made config now before g w (k ∷ gs) earlier e within (zero, below, same) =
    rekey-kept config now before g w gs (rekey_on config now before earlier k)
    (subst (λ (n : ℕ). IsFreshAt config g w (rekey_on config now before earlier n)) (sym same) (rekey-own config g w (is_rekeyed config now before g) earlier e within))
rekey-made config now before g w (k ∷ gs) earlier e within (suc n, below, same) = rekey-made config now before g w gs (rekey_on config now before earlier k) e within (n, omega (arith, below), same)

-- until the group's turn
other-turn : (config : Config) (g w k : ℕ) (b : Bool) (turn : GroupTurn) (earlier : List Deed) → k ≢ g → IsFreshAt config g w earlier → IsFreshAt config g w (cons_if b (TookTurn k turn) earlier)
unfolding IsFreshAt
other-turn config g w k false turn earlier differ h = h
other-turn config g w k true turn earlier differ h =
    let other : (k == g) ≡ false = grind (arith, nat_tests, differ) in
    ap (λ (t : Bool). is_refreshed w (cons_if t (HadGroupTurn turn) (group_past config g earlier))) other ∙ h

fresh-to : (p : Plan) (before : List Step) (now : ℕ) (closing : Bool) (samples : List Sampled) (g w k : ℕ) → k ≤ g → IsFreshAt p.config g w (rekeyed p.config now (deeds p before)) → IsFreshAt p.config g w (deeds_before p before now closing samples k)
fresh-to p before now closing samples g w zero le h = h
fresh-to p before now closing samples g w (suc k) le h =
    let earlier = deeds_before p before now closing samples k in
    let differ : k ≢ g = λ same. omega (arith, same, le) in
    subst (IsFreshAt p.config g w) (sym (next-turned p before now closing samples k))
    (other-turn p.config g w k (has_turn p before now closing earlier k) (turn_of p before now closing samples earlier k) earlier differ (fresh-to p before now closing samples g w k (omega (arith, le)) h))

fresh-use : (config : Config) (g w : ℕ) (deeds : List Deed) → IsFreshAt config g w deeds → is_refreshed w (group_past config g deeds) ≡ true
unfolding IsFreshAt
fresh-use config g w deeds h = h

-- once the senders came to a moment that changes the token of the group's key group
pub rekey-fresh : (config : Config) (now : ℕ) (before : List Deed) (g w : ℕ) → is_rekeyed config now before g ≡ true → g < length config.group → w < length (group_at config g).writer
    → is_refreshed w (group_past config g (rekeyed config now before)) ≡ true
rekey-fresh config now before g w e there within =
    fresh-use config g w (rekeyed config now before) (rekey-made config now before g w (group_indexes config) (CameTo now ∷ before) e within (writer-in (length config.group) g there))

-- at a tick that changes the token of the group's key group
pub new-token : FreshLaw → (p : Plan) (before : List Step) (now : ℕ) (closing : Bool) (samples : List Sampled) (g w : ℕ) (turn : WriterTurn) → g < length p.config.group → w < length (group_at p.config g).writer
    → is_rekeyed p.config now (deeds p before) g ≡ true
    → (let past = group_past p.config g (deeds_before p before now closing samples g) in let s = model_settings (settings_of (writer_at (group_at p.config g) w)) in
    answer_of (group_at p.config g) past w turn ≡ Some (Whole (next_place s (cadence s (writer_past w past))) turn.row))
new-token law p before now closing samples g w turn there within e =
    law (group_at p.config g) (group_past p.config g (deeds_before p before now closing samples g)) w turn
    (fresh-use p.config g w (deeds_before p before now closing samples g)
    (fresh-to p before now closing samples g w g (omega arith)
    (rekey-made p.config now (deeds p before) g w (group_indexes p.config) (CameTo now ∷ deeds p before) e within (writer-in (length p.config.group) g there))))
