-- The sender of a key group over all turns of its groups, whichever moments it comes to: under each token its numbers rise with the places of a writer.
use Rattle.std.proofs.Common.{◌≡◌, refl, sym, ap, ◌∙◌, subst, arith, ℕ, ◌+◌, ◌<◌, ◌≤◌, Bool, true, false, List, [], ◌∷◌, length, Option, Some, None, eq-eqb, eqb-true}
use Rattle.std.specs.Prelude.{◌==◌, ◌&&◌, nat_lt, if◌then◌else◌}
use Rattle.std.specs.Option.{option_map_or}
use Rattle.std.proofs.lemmas.Bool.Decides.{nat_tests}
use Rattle.dataset_meta.specs.Rows.{cons_if}
use Rattle.group_keys.specs.KeySets.{current}
use Rattle.group_keys.specs.declared.key_set.KeySet.{KeySet}
use Rattle.message_guard.specs.declared.keys.TokenKeys.{TokenKeys}
use Rattle.message_guard.specs.declared.mode.Mode.{Mode}
use Rattle.message_guard.specs.Protection.{keys_in}
use Rattle.message_guard.specs.Senders.{SenderState, turned_by}
use Rattle.pubsub_model.specs.Cadence.{Answered, Settings, next_place}
use Rattle.pubsub_model.specs.Frames.{PlacedFrame, place_of}
use Rattle.ps_config.specs.declared.parts.Config.{Config}
use Rattle.ps_config.specs.declared.parts.GroupPart.{GroupPart}
use Rattle.ps_config.specs.Headers.{mode_of}
use Rattle.ps_config.specs.Rooms.{lacks_room}
use Rattle.pubsub_states.specs.declared.component.Component.{Component}
use Rattle.pubsub_states.specs.declared.component.Component.TheVariants.{Group}
use Rattle.reader_group.specs.Agreeing.{RiseTogether, SendsRise}
use Rattle.writer_group.specs.declared.sampled.Sampled.{Sampled}
use Rattle.writer_group.specs.Parts.{group_at, no_group}
use Rattle.writer_group.specs.Sealing.{advanced_by}
use Rattle.writer_group.specs.Turns.{GroupDeed, GroupTurn, HadGroupTurn, answer_to, took_by}
use Rattle.session_model.specs.Deeds.{Deed, RefreshedBelow, RefreshedSet, CameTo, TookTurn, RenewedKeys, advanced_if, component_at, deeds, group_past, is_writer_below, is_writer_of, renewed_if, sender_after, shares, turn_input, turn_of, writer_indexes}
use Rattle.session_model.specs.Keeping.{IsPlan}
use Rattle.session_model.specs.Lives as lives
use Rattle.session_model.specs.Lives.{Lived, Stepped, account_in, steps_in}
use Rattle.session_model.specs.Steps.{Plan, Step, Enable, Disable, Append, Tick, Pump, moment_of}
use Rattle.session_model.proofs.Deeds.{TickKeeps, tick-keeps}
use Rattle.session_laws.specs.Pasts.{IsTurn, settings_at}
use Rattle.session_laws.proofs.Versions.Anew.{same-writer}
use Rattle.session_laws.proofs.Versions.Senders.{IsAdvanced, advanced-is}
use Rattle.turn_laws.specs.Makers.{AreOwnTurns, IsWriterUnder}
use Rattle.turn_laws.specs.Sent.{given_on, sends_in, sent_in}
use Rattle.turn_laws.proofs.Places.{further-to, input-makes, next_of, placed-to, quiet-to, turn-makes}
use Rattle.turn_laws.proofs.Rings.{AreRingTurns, ring-turns, with_rings}
use Rattle.turn_laws.proofs.Rising.{AreSpanned, IsPlacedAt, Upto, given-spanned, spanned-more, upto-given, upto-more}

-- ---- what a sender gave so far

-- under each token it rises, nothing is of a higher token than the one in use, and all of this one stand before the next place and number
pub record Risen (s : SenderState) (first next : ℕ) (sent : ℕ → List (ℕ × ℕ)) : Type 0 where
  pub each : (token : ℕ) → RiseTogether (sent token)
  pub high : (token : ℕ) → s.keys.token < token → sent token ≡ []
  pub here : Upto next s.used (sent s.keys.token)
  pub spans : (token : ℕ) → AreSpanned first next (sent token)

same-test : (n : ℕ) → (n == n) ≡ true
same-test n = eq-eqb n n refl

-- other keys of a higher token
risen-turned : (s : SenderState) (o : Option KeySet) (first next : ℕ) (sent : ℕ → List (ℕ × ℕ)) → Risen s first next sent → Risen (turned_by s o) first next sent
risen-turned s None first next sent h = h
risen-turned s (Some set) first next sent h = on (nat_lt s.keys.token set.token) refl
  where
    on : (b : Bool) → nat_lt s.keys.token set.token ≡ b → Risen (if b then record s { keys = keys_in set; used = 0; fronted = None } else s) first next sent
    on false e = h
    on true e =
        let up : s.keys.token < set.token = grind (arith, nat_tests, e) in
        record {
          each = h.each;
          high = λ token lt. h.high token (omega (arith, up, lt));
          here = subst (Upto next 0) (sym (h.high set.token up)) (record { rise = tt; under = tt });
          spans = h.spans;
        }

-- further numbers, of which the writer had none
risen-advanced : (s after : SenderState) (first next count : ℕ) (sent : ℕ → List (ℕ × ℕ)) → IsAdvanced s after count → Risen s first next sent → Risen after first next sent
risen-advanced s after first next count sent a h =
    let same : after.keys.token ≡ s.keys.token = ap (λ (k : TokenKeys). k.token) a.keys in
    let used : after.used ≡ s.used + count = a.used in
    record {
      each = h.each;
      high = λ token lt. h.high token (omega (arith, same, lt));
      here = subst (λ (t : ℕ). Upto next after.used (sent t)) (sym same) (upto-more next s.used next after.used (sent s.keys.token) (omega arith) (omega (arith, used)) h.here);
      spans = h.spans;
    }

risen-if : (b : Bool) (mode : Mode) (count : ℕ) (s : SenderState) (first next : ℕ) (sent : ℕ → List (ℕ × ℕ)) → Risen s first next sent → Risen (advanced_if b mode count s) first next sent
risen-if false mode count s first next sent h = h
risen-if true mode count s first next sent h = risen-advanced s (advanced_by mode s count) first next count sent (advanced-is mode s count) h

-- further numbers for a turn of the writer's group
risen-given : (s after : SenderState) (first next more count : ℕ) (answered : Option PlacedFrame) (sent : ℕ → List (ℕ × ℕ)) → IsAdvanced s after count
    → ((frame : PlacedFrame) → answered ≡ Some frame → IsPlacedAt first next more (place_of frame)) → ((frame : PlacedFrame) → answered ≡ Some frame → 0 < count) → (answered ≡ None → more ≡ next) → next ≤ more
    → Risen s first next sent → Risen after first more (λ token. given_on (s.keys.token == token) answered s.used count (sent token))
risen-given s after first next more count answered sent a placed some quiet le h = record {
  each = λ token. each-by token (s.keys.token == token) refl;
  high = high-by;
  here = here-by;
  spans = λ token. span-by token (s.keys.token == token);
}
  where
    same : after.keys.token ≡ s.keys.token
    same = ap (λ (k : TokenKeys). k.token) a.keys

    now : Upto more (s.used + count) (given_on true answered s.used count (sent s.keys.token))
    now = upto-given first next more s.used count answered (sent s.keys.token) placed some quiet h.here

    each-by : (token : ℕ) (b : Bool) → (s.keys.token == token) ≡ b → RiseTogether (given_on b answered s.used count (sent token))
    each-by token false e = h.each token
    each-by token true e = subst (λ (t : ℕ). RiseTogether (given_on true answered s.used count (sent t))) (eqb-true s.keys.token token e) now.rise

    high-by : (token : ℕ) → after.keys.token < token → given_on (s.keys.token == token) answered s.used count (sent token) ≡ []
    high-by token lt =
        let lower : s.keys.token < token = let is = same in omega (arith, is, lt) in
        let other : (s.keys.token == token) ≡ false = grind (arith, nat_tests, lower) in
        ap (λ (b : Bool). given_on b answered s.used count (sent token)) other ∙ h.high token lower

    here-by : Upto more after.used (given_on (s.keys.token == after.keys.token) answered s.used count (sent after.keys.token))
    here-by =
        subst (λ (t : ℕ). Upto more after.used (given_on (s.keys.token == t) answered s.used count (sent t))) (sym same)
        (subst (λ (b : Bool). Upto more after.used (given_on b answered s.used count (sent s.keys.token))) (sym (same-test s.keys.token))
        (subst (λ (n : ℕ). Upto more n (given_on true answered s.used count (sent s.keys.token))) (sym a.used) now))

    span-by : (token : ℕ) (b : Bool) → AreSpanned first more (given_on b answered s.used count (sent token))
    span-by token false = spanned-more first next more (sent token) le (h.spans token)
    span-by token true =
        given-spanned first more s.used count answered (sent token) (λ frame e. let at = placed frame e in (at.above, at.below)) (spanned-more first next more (sent token) le (h.spans token))

-- ---- behind these deeds

abbrev pub RisenAt : Config → ℕ → ℕ → ℕ → List Deed → Type 0
RisenAt config k g w list =
    Risen (sender_after config k list) (settings_at (group_at config g) w).first_number (next_of (group_at config g) w (group_past config g list)) (λ token. sent_in config k g w token list)

risen-none : (config : Config) (k g w : ℕ) → RisenAt config k g w []
risen-none config k g w = record { each = λ token. tt; high = λ token lt. refl; here = record { rise = tt; under = tt }; spans = λ token. tt }

risen-came : (config : Config) (k g w now : ℕ) (earlier : List Deed) → RisenAt config k g w earlier → RisenAt config k g w (CameTo now ∷ earlier)
risen-came config k g w now earlier h =
    let s = sender_after config k earlier in
    risen-turned s (current s.sets now) (settings_at (group_at config g) w).first_number (next_of (group_at config g) w (group_past config g earlier)) (λ token. sent_in config k g w token earlier) h

-- refreshes of writers leave the answers
risen-below : (config : Config) (k g w : ℕ) (component : Component) (earlier : List Deed) → RisenAt config k g w earlier → RisenAt config k g w (RefreshedBelow component ∷ earlier)
risen-below config k g w component earlier h =
    let group = group_at config g in
    let s = settings_at group w in
    subst (λ (answered : List Answered). Risen (sender_after config k earlier) s.first_number (next_place s answered) (λ token. sent_in config k g w token earlier))
    (sym (same-writer s w (is_writer_below component g) (group_past config g earlier) (writer_indexes group))) h

risen-set : (config : Config) (k g w set : ℕ) (earlier : List Deed) → RisenAt config k g w earlier → RisenAt config k g w (RefreshedSet set ∷ earlier)
risen-set config k g w set earlier h =
    let group = group_at config g in
    let s = settings_at group w in
    subst (λ (answered : List Answered). Risen (sender_after config k earlier) s.first_number (next_place s answered) (λ token. sent_in config k g w token earlier))
    (sym (same-writer s w (is_writer_of group set) (group_past config g earlier) (writer_indexes group))) h

-- rings leave the keys in use and the numbers
risen-sets : (b : Bool) (sets : List KeySet) (s : SenderState) (first next : ℕ) (sent : ℕ → List (ℕ × ℕ)) → Risen s first next sent → Risen (renewed_if b sets s) first next sent
risen-sets false sets s first next sent h = h
risen-sets true sets s first next sent h = record { each = h.each; high = h.high; here = h.here; spans = h.spans }

risen-renewed : (config : Config) (k g w keygroup : ℕ) (sets : List KeySet) (earlier : List Deed) → RisenAt config k g w earlier → RisenAt config k g w (RenewedKeys keygroup sets ∷ earlier)
risen-renewed config k g w keygroup sets earlier h =
    risen-sets (keygroup == k) sets (sender_after config k earlier) (settings_at (group_at config g) w).first_number (next_of (group_at config g) w (group_past config g earlier)) (λ token. sent_in config k g w token earlier) h

shared-by : (group : GroupPart) (k : ℕ) → group.keygroup ≡ Some k → shares group k ≡ true
shared-by group k keyed = ap (λ (o : Option ℕ). option_map_or (λ (other : ℕ). other == k) o false) keyed ∙ same-test k

-- a turn of whichever group
risen-turn : (config : Config) (k g w other : ℕ) (turn : GroupTurn) (earlier : List Deed) → (group_at config g).keygroup ≡ Some k
    → ((frame : PlacedFrame) → other ≡ g → answer_to (group_at config g) (group_past config g earlier) w (took_by w turn) ≡ Some frame → 0 < length turn.made)
    → RisenAt config k g w earlier → RisenAt config k g w (TookTurn other turn ∷ earlier)
risen-turn config k g w other turn earlier keyed some h = by (other == g) refl
  where
    group : GroupPart
    group = group_at config g

    past : List GroupDeed
    past = group_past config g earlier

    st : Settings
    st = settings_at group w

    s : SenderState
    s = sender_after config k earlier

    mode : Mode
    mode = mode_of (group_at config other).security

    count : ℕ
    count = length turn.made

    answered : Option PlacedFrame
    answered = answer_to group past w (took_by w turn)

    sent : ℕ → List (ℕ × ℕ)
    sent = λ token. sent_in config k g w token earlier

    own : other ≡ g
        → Risen (advanced_if (shares (group_at config other) k) mode count s) st.first_number (next_of group w (HadGroupTurn turn ∷ past)) (λ token. given_on (s.keys.token == token) answered s.used count (sent token))
    own same =
        let shared : shares (group_at config other) k ≡ true = ap (λ (n : ℕ). shares (group_at config n) k) same ∙ shared-by group k keyed in
        subst (λ (t : Bool). Risen (advanced_if t mode count s) st.first_number (next_of group w (HadGroupTurn turn ∷ past)) (λ token. given_on (s.keys.token == token) answered s.used count (sent token))) (sym shared)
        (risen-given s (advanced_by mode s count) st.first_number (next_of group w past) (next_of group w (HadGroupTurn turn ∷ past)) count answered sent (advanced-is mode s count)
        (λ frame e. placed-to group w (took_by w turn) past frame e) (λ frame e. some frame same e) (λ e. quiet-to group w (took_by w turn) past e) (further-to group w (took_by w turn) past) h)

    by : (b : Bool) → (other == g) ≡ b
        → Risen (advanced_if (shares (group_at config other) k) mode count s) st.first_number (next_of group w (cons_if b (HadGroupTurn turn) past)) (λ token. given_on (b && (s.keys.token == token)) answered s.used count (sent token))
    by false e = risen-if (shares (group_at config other) k) mode count s st.first_number (next_of group w past) sent h
    by true e = own (eqb-true other g e)

-- ---- over all steps, and over lives

module _ (p : Plan) (k g w : ℕ) (plan : IsPlan p) (there : g < length p.config.group) (within : w < length (group_at p.config g).writer) (keyed : (group_at p.config g).keygroup ≡ Some k) where
  room : lacks_room p.config.publisher.id p.config.dataset (group_at p.config g) ≡ false
  room = plan.fit.room g no_group there

  makes : (before : List Step) (now : ℕ) (closing : Bool) (samples : List Sampled) (earlier : List Deed) (other : ℕ) (frame : PlacedFrame) → other ≡ g
      → answer_to (group_at p.config g) (group_past p.config g earlier) w (took_by w (turn_of p before now closing samples earlier other)) ≡ Some frame → 0 < length (turn_of p before now closing samples earlier other).made
  makes before now closing samples earlier other frame same e =
      let group = group_at p.config g in
      let past = group_past p.config g earlier in
      let own = subst (λ (n : ℕ). answer_to group past w (took_by w (turn_of p before now closing samples earlier n)) ≡ Some frame) same e in
      subst (λ (n : ℕ). 0 < length (turn_of p before now closing samples earlier n).made) (sym same)
      (input-makes p.config group w past (turn_input p before now closing samples earlier g) frame within room own)

  tick-risen : (before : List Step) (now : ℕ) (closing : Bool) (samples : List Sampled) → TickKeeps p before now closing samples (RisenAt p.config k g w)
  tick-risen before now closing samples = record {
    came = λ earlier h. risen-came p.config k g w now earlier h;
    fresh = λ other earlier h. risen-below p.config k g w (Group other) earlier h;
    turn = λ other earlier here has h.
        risen-turn p.config k g w other (turn_of p before now closing samples earlier other) earlier keyed (λ frame same e. makes before now closing samples earlier other frame same e) h;
  }

  pub steps-risen : (steps : List Step) → RisenAt p.config k g w (deeds p steps)
  steps-risen [] = risen-none p.config k g w
  steps-risen (Enable id ∷ before) = risen-below p.config k g w (component_at p.config id) (deeds p before) (steps-risen before)
  steps-risen (Disable id ∷ before) = steps-risen before
  steps-risen (Append set field ∷ before) = risen-set p.config k g w set (deeds p before) (steps-risen before)
  steps-risen (Tick ms closing samples done ∷ before) =
      tick-keeps p before (moment_of before + ms) closing samples (deeds p before) (RisenAt p.config k g w) (tick-risen before (moment_of before + ms) closing samples) (steps-risen before)
  steps-risen (Pump entries ∷ before) = steps-risen before

  pub life-risen : (life : List Lived) → RisenAt p.config k g w (account_in p life).deeds
  life-risen [] = risen-none p.config k g w
  life-risen (Stepped (Enable id) ∷ before) = risen-below p.config k g w (component_at p.config id) (account_in p before).deeds (life-risen before)
  life-risen (Stepped (Disable id) ∷ before) = life-risen before
  life-risen (Stepped (Append set field) ∷ before) = risen-set p.config k g w set (account_in p before).deeds (life-risen before)
  life-risen (Stepped (Tick ms closing samples done) ∷ before) =
      let now = moment_of (steps_in before) + ms in
      tick-keeps p (steps_in before) now closing samples (account_in p before).deeds (RisenAt p.config k g w) (tick-risen (steps_in before) now closing samples) (life-risen before)
  life-risen (Stepped (Pump entries) ∷ before) = life-risen before
  life-risen (lives.Renewed keygroup sets ∷ before) = risen-renewed p.config k g w keygroup sets (account_in p before).deeds (life-risen before)

-- ---- over any deeds whose turns are those of the definitions

pub own-risen : (config : Config) (k g w : ℕ) → (group_at config g).keygroup ≡ Some k → w < length (group_at config g).writer → (list : List Deed) → AreRingTurns config k list → RisenAt config k g w list
own-risen config k g w keyed within [] are = risen-none config k g w
own-risen config k g w keyed within (RefreshedBelow component ∷ before) are = risen-below config k g w component before (own-risen config k g w keyed within before are)
own-risen config k g w keyed within (RefreshedSet set ∷ before) are = risen-set config k g w set before (own-risen config k g w keyed within before are)
own-risen config k g w keyed within (CameTo moment ∷ before) are = risen-came config k g w moment before (own-risen config k g w keyed within before are)
own-risen config k g w keyed within (RenewedKeys keygroup sets ∷ before) are = risen-renewed config k g w keygroup sets before (own-risen config k g w keyed within before are)
own-risen config k g w keyed within (TookTurn other turn ∷ before) are =
    risen-turn config k g w other turn before keyed
    (λ frame same e.
    let own = are.1 (subst (λ (n : ℕ). (group_at config n).keygroup ≡ Some k) (sym same) keyed) in
    turn-makes (with_rings config own.rings) (group_at config g) w (group_past config g before) turn frame
    (subst (λ (n : ℕ). IsTurn (with_rings config own.rings) (group_at config n) (group_past config n before) turn) same own.is) within e)
    (own-risen config k g w keyed within before are.2)

-- ---- what the laws say

pub steps-rise : (p : Plan) (k g w : ℕ) (steps : List Step) → IsPlan p → IsWriterUnder p.config k g w → SendsRise (sends_in p.config k g w (deeds p steps))
steps-rise p k g w steps plan under = (steps-risen p k g w plan under.there under.within under.keyed steps).each

pub life-rise : (p : Plan) (k g w : ℕ) (life : List Lived) → IsPlan p → IsWriterUnder p.config k g w → SendsRise (sends_in p.config k g w (account_in p life).deeds)
life-rise p k g w life plan under = (life-risen p k g w plan under.there under.within under.keyed life).each

pub any-rise : (config : Config) (k g w : ℕ) (list : List Deed) → IsWriterUnder config k g w → AreOwnTurns config list → SendsRise (sends_in config k g w list)
any-rise config k g w list under are = (own-risen config k g w under.keyed under.within list (ring-turns config k list are)).each
