-- In a life a writer's first frame under each token is a key frame, whichever rings renew its key group; and so is its next one behind a tick that changes the token.
use Rattle.std.proofs.Common.{◌≡◌, ◌≢◌, refl, sym, ap, ◌∙◌, subst, arith, ℕ, zero, suc, ◌+◌, ◌<◌, ◌≤◌, ◌⊎◌, inl, inr, Bool, true, false, List, [], ◌∷◌, ◌++◌, length, map, All, Option, Some, None}
use Rattle.std.specs.Prelude.{fold, not, ◌==◌, ◌||◌, ◌&&◌, is_none, option_map, if◌then◌else◌}
use Rattle.std.specs.List.{cons_option}
use Rattle.std.specs.Option.{option_map_or}
use Rattle.std.proofs.lemmas.Bool.Decides.{nat_tests}
use Rattle.std.proofs.lemmas.List.{length-append}
use Rattle.std.proofs.lemmas.List.Elements.{All-head, All-tail}
use Rattle.dataset_meta.specs.Rows.{cons_if}
use Rattle.group_keys.specs.declared.key_set.KeySet.{KeySet}
use Rattle.pubsub_model.specs.Cadence as model
use Rattle.pubsub_model.specs.Cadence.{Answered, HadTurn, Refreshed, Settings, WriterTurn, cadence, is_fresh, is_key}
use Rattle.message_guard.specs.declared.keys.TokenKeys.{TokenKeys}
use Rattle.message_guard.specs.declared.mode.Mode.{Mode}
use Rattle.message_guard.specs.Senders.{SenderState, turned as turned_to}
use Rattle.ps_config.specs.declared.parts.Config.{Config}
use Rattle.ps_config.specs.Headers.{mode_of}
use Rattle.pubsub_states.specs.declared.component.Component.{Component}
use Rattle.pubsub_states.specs.declared.component.Component.TheVariants.{Group}
use Rattle.writer_group.specs.declared.sampled.Sampled.{Sampled}
use Rattle.writer_group.specs.Parts.{group_at}
use Rattle.writer_group.specs.Turns.{GroupDeed, GroupTurn, HadGroupTurn, RefreshedWriter, is_refreshed, took_by, writer_past}
use Rattle.group_laws.proofs.TurnTaken.{advanced-keys}
use Rattle.session_model.specs.Deeds.{Deed, RefreshedBelow, RefreshedSet, CameTo, TookTurn, RenewedKeys, advanced_if, component_at, group_indexes, group_past, has_turn, is_rekeyed, is_writer_below, is_writer_of, refreshed_where, rekeyed, renewed_if, sender_after, shares, turn_of, turned_on, writer_indexes}
use Rattle.session_model.specs.Lives.{Lived, Renewed, Stepped, account_in, steps_in}
use Rattle.session_model.specs.Steps.{Plan, Step, Enable, Disable, Append, Tick, Pump, moment_of}
use Rattle.session_model.specs.Turns.{deeds_till}
use Rattle.session_model.proofs.Deeds.{TickKeeps, next-till, tick-keeps}
use Rattle.session_laws.specs.Fresh.{BeginWithKeys, IsAnsweredWhole, KeyedTurn, keyed_turn, keyed_turns, token_after}
use Rattle.session_laws.specs.Pasts.{settings_at}
use Rattle.session_laws.proofs.Versions.Anew.{answers-of, fresh-is, same-writer}
use Rattle.session_laws.proofs.Versions.Telling.{writer-index}
use Rattle.session_laws.proofs.Versions.Tokens.{FreshLaw, fresh-where, rekey-fresh}
use Rattle.turn_laws.specs.Anew.{IsRekeyedBy, answered_in, keyed_turns_in}

-- ---- a refreshed writer's next turn is fresh

key-fresh : (config : Config) (k g w : ℕ) (before : List Deed) (turn : WriterTurn) → is_refreshed w (group_past config g before) ≡ true → is_key (keyed_turn config k g w before turn).answered ≡ true
key-fresh config k g w before turn e =
    let s = settings_at (group_at config g) w in
    let past = writer_past w (group_past config g before) in
    ap (λ (b : Bool). is_key (record { turn = turn; answer = model.answer s b (cadence s past) turn })) (fresh-is w (group_past config g before) e)

-- a turn without the writer leaves it refreshed
still-fresh : (w : ℕ) (turn : GroupTurn) (past : List GroupDeed) → took_by w turn ≡ None → is_refreshed w past ≡ true → is_refreshed w (HadGroupTurn turn ∷ past) ≡ true
still-fresh w turn past e fresh = ap (λ (o : Option WriterTurn). is_none o && is_refreshed w past) e ∙ fresh

-- ---- what all deeds of a tick keep behind its moment

module _ (P : List Deed → Type 0) (config : Config) (refreshed : (component : Component) (earlier : List Deed) → P earlier → P (RefreshedBelow component ∷ earlier)) where
  refreshed-among : (now : ℕ) (before : List Deed) (gs : List ℕ) (earlier : List Deed) → P earlier → P (fold (λ deeds g. cons_if (is_rekeyed config now before g) (RefreshedBelow (Group g)) deeds) earlier gs)
  refreshed-among now before [] earlier h = h
  refreshed-among now before (g ∷ gs) earlier h = refreshed-among now before gs (cons_if (is_rekeyed config now before g) (RefreshedBelow (Group g)) earlier) (on (is_rekeyed config now before g))
    where
      on : (b : Bool) → P (cons_if b (RefreshedBelow (Group g)) earlier)
      on true = refreshed (Group g) earlier h
      on false = h

module _ (P : List Deed → Type 0) (turned : (g : ℕ) (turn : GroupTurn) (earlier : List Deed) → P earlier → P (TookTurn g turn ∷ earlier)) (p : Plan) (before : List Step) (now : ℕ) (closing : Bool) (samples : List Sampled) where
  turned-among : (gs : List ℕ) (earlier : List Deed) → P earlier → P (fold (turned_on p before now closing samples) earlier gs)
  turned-among [] earlier h = h
  turned-among (g ∷ gs) earlier h = turned-among gs (turned_on p before now closing samples earlier g) (on (has_turn p before now closing earlier g))
    where
      on : (b : Bool) → P (cons_if b (TookTurn g (turn_of p before now closing samples earlier g)) earlier)
      on true = turned g (turn_of p before now closing samples earlier g) earlier h
      on false = h

-- the turns of a writer are as they were once a tick came to its moment
turns-rekeyed : (config : Config) (k g w now : ℕ) (before : List Deed) → keyed_turns config k g w (rekeyed config now before) ≡ keyed_turns config k g w before
turns-rekeyed config k g w now before =
    refreshed-among (λ deeds. keyed_turns config k g w deeds ≡ keyed_turns config k g w before) config (λ component earlier h. h) now before (group_indexes config) (CameTo now ∷ before) refl

-- ---- the next turn behind a tick that changes the token

module _ (config : Config) (k g w : ℕ) (old : List KeyedTurn) where
  -- the first turn behind the old ones is answered by a key frame
  record HasKey (turns : List KeyedTurn) : Type 0 where
    more : List KeyedTurn
    turn : KeyedTurn
    is : turns ≡ more ++ turn ∷ old
    key : is_key turn.answered ≡ true

  -- the writer had none yet and is refreshed, or had such a one
  abbrev IsNextBy : List GroupDeed → List KeyedTurn → Type 0
  IsNextBy past turns = ((is_refreshed w past ≡ true) × (turns ≡ old)) ⊎ HasKey turns

  abbrev IsNext : List Deed → Type 0
  IsNext deeds = IsNextBy (group_past config g deeds) (keyed_turns config k g w deeds)

  next-where : (test : ℕ → Bool) (past : List GroupDeed) (writers : List ℕ) (turns : List KeyedTurn) → IsNextBy past turns → IsNextBy (refreshed_where test past writers) turns
  next-where test past writers turns (inl none) = inl (fresh-where test w past writers none.0, none.1)
  next-where test past writers turns (inr had) = inr had

  next-below : (component : Component) (earlier : List Deed) → IsNext earlier → IsNext (RefreshedBelow component ∷ earlier)
  next-below component earlier h = next-where (is_writer_below component g) (group_past config g earlier) (writer_indexes (group_at config g)) (keyed_turns config k g w earlier) h

  next-set : (set : ℕ) (earlier : List Deed) → IsNext earlier → IsNext (RefreshedSet set ∷ earlier)
  next-set set earlier h = next-where (is_writer_of (group_at config g) set) (group_past config g earlier) (writer_indexes (group_at config g)) (keyed_turns config k g w earlier) h

  next-took : (b : Bool) (o : Option WriterTurn) (turn : GroupTurn) (earlier : List Deed) → took_by w turn ≡ o → IsNext earlier
      → IsNextBy (cons_if b (HadGroupTurn turn) (group_past config g earlier)) (cons_option (if b then option_map (keyed_turn config k g w earlier) o else None) (keyed_turns config k g w earlier))
  next-took false o turn earlier e h = h
  next-took true None turn earlier e (inl none) = inl (still-fresh w turn (group_past config g earlier) e none.0, none.1)
  next-took true None turn earlier e (inr had) = inr had
  next-took true (Some t) turn earlier e (inl none) =
      let mine = keyed_turn config k g w earlier t in inr (record { more = []; turn = mine; is = ap (λ (l : List KeyedTurn). mine ∷ l) none.1; key = key-fresh config k g w earlier t none.0 })
  next-took true (Some t) turn earlier e (inr had) =
      let mine = keyed_turn config k g w earlier t in inr (record { more = mine ∷ had.more; turn = had.turn; is = ap (λ (l : List KeyedTurn). mine ∷ l) had.is; key = had.key })

  next-turn : (other : ℕ) (turn : GroupTurn) (earlier : List Deed) → IsNext earlier → IsNext (TookTurn other turn ∷ earlier)
  next-turn other turn earlier h = next-took (other == g) (took_by w turn) turn earlier refl h

module _ (p : Plan) (k g w ms : ℕ) (closing : Bool) (samples : List Sampled) (done : List Bool) (before : List Lived) (is : IsRekeyedBy p g w before ms) where
  abbrev old : List KeyedTurn
  old = keyed_turns_in p k g w before

  abbrev earlier_deeds : List Deed
  earlier_deeds = (account_in p before).deeds

  abbrev its_moment : ℕ
  its_moment = moment_of (steps_in before) + ms

  abbrev Next : List Deed → Type 0
  Next deeds = IsNext p.config k g w old deeds

  at-tick : Next (account_in p (Stepped (Tick ms closing samples done) ∷ before)).deeds
  at-tick =
      turned-among Next (λ other turn earlier h. next-turn p.config k g w old other turn earlier h) p (steps_in before) its_moment closing samples (group_indexes p.config) (rekeyed p.config its_moment earlier_deeds)
      (inl (rekey-fresh p.config its_moment earlier_deeds g w is.changes is.there is.within, turns-rekeyed p.config k g w its_moment earlier_deeds))

  tick-next : (steps : List Step) (now : ℕ) (closes : Bool) (sampled : List Sampled) → TickKeeps p steps now closes sampled Next
  tick-next steps now closes sampled = record {
    came = λ earlier h. h;
    fresh = λ other earlier h. next-below p.config k g w old (Group other) earlier h;
    turn = λ other earlier there has h. next-turn p.config k g w old other (turn_of p steps now closes sampled earlier other) earlier h;
  }

  abbrev since : List Lived → List Lived
  since later = later ++ Stepped (Tick ms closing samples done) ∷ before

  all-next : (later : List Lived) → Next (account_in p (since later)).deeds
  all-next [] = at-tick
  all-next (Stepped (Enable id) ∷ later) = next-below p.config k g w old (component_at p.config id) (account_in p (since later)).deeds (all-next later)
  all-next (Stepped (Disable id) ∷ later) = all-next later
  all-next (Stepped (Append set field) ∷ later) = next-set p.config k g w old set (account_in p (since later)).deeds (all-next later)
  all-next (Stepped (Tick more closes sampled told) ∷ later) =
      let now = moment_of (steps_in (since later)) + more in
      tick-keeps p (steps_in (since later)) now closes sampled (account_in p (since later)).deeds Next (tick-next (steps_in (since later)) now closes sampled) (all-next later)
  all-next (Stepped (Pump entries) ∷ later) = all-next later
  all-next (Renewed keygroup sets ∷ later) = all-next later

-- lists that end alike, of which one is longer
no-longer : {A : Type 0} (list : List A) (x : A) (old : List A) → old ≡ list ++ x ∷ old → ⊥
no-longer list x old e =
    let same = ap (λ l. length l) e in
    let long = length-append list (x ∷ old) in
    omega (arith, same, long)

same-first : {A : Type 0} (one other : List A) (x y : A) (old : List A) → one ++ x ∷ old ≡ other ++ y ∷ old → x ≡ y
same-first [] [] x y old e = cc
same-first [] (b ∷ other) x y old e = absurd (no-longer other y old (let tail : old ≡ other ++ y ∷ old = cc in tail))
same-first (a ∷ one) [] x y old e = absurd (no-longer one x old (let tail : one ++ x ∷ old ≡ old = cc in sym tail))
same-first (a ∷ one) (b ∷ other) x y old e = same-first one other x y old (let tail : one ++ x ∷ old ≡ other ++ y ∷ old = cc in tail)

pub next-key : (p : Plan) (k g w ms : ℕ) (closing : Bool) (samples : List Sampled) (done : List Bool) (later before : List Lived) (more : List KeyedTurn) (turn : KeyedTurn) → IsRekeyedBy p g w before ms
    → keyed_turns_in p k g w (later ++ Stepped (Tick ms closing samples done) ∷ before) ≡ more ++ turn ∷ keyed_turns_in p k g w before → is_key turn.answered ≡ true
next-key p k g w ms closing samples done later before more turn is e = on (all-next p k g w ms closing samples done before is later)
  where
    old : List KeyedTurn
    old = keyed_turns_in p k g w before

    all : List KeyedTurn
    all = keyed_turns_in p k g w (later ++ Stepped (Tick ms closing samples done) ∷ before)

    on : IsNextBy p.config k g w old (group_past p.config g (account_in p (later ++ Stepped (Tick ms closing samples done) ∷ before)).deeds) all → is_key turn.answered ≡ true
    on (inl none) = absurd (no-longer more turn old (sym none.1 ∙ e))
    on (inr had) = subst (λ (t : KeyedTurn). is_key t.answered ≡ true) (same-first had.more more had.turn turn old (sym had.is ∙ e)) had.key

-- ---- at the tick

-- until the group's turn
other-turn : (config : Config) (g w other : ℕ) (b : Bool) (turn : GroupTurn) (earlier : List Deed) → other ≢ g → is_refreshed w (group_past config g earlier) ≡ true → is_refreshed w (group_past config g (cons_if b (TookTurn other turn) earlier)) ≡ true
other-turn config g w other false turn earlier differ h = h
other-turn config g w other true turn earlier differ h =
    let apart : (other == g) ≡ false = grind (arith, nat_tests, differ) in
    ap (λ (t : Bool). is_refreshed w (cons_if t (HadGroupTurn turn) (group_past config g earlier))) apart ∙ h

pub at-once : FreshLaw → (p : Plan) (g w ms : ℕ) (closing : Bool) (samples : List Sampled) (before : List Lived) (turn : WriterTurn) → IsRekeyedBy p g w before ms
    → (let now = moment_of (steps_in before) + ms in let till = deeds_till p (steps_in before) now closing samples (account_in p before).deeds g in IsAnsweredWhole p.config (group_past p.config g till) g w turn)
at-once law p g w ms closing samples before turn is = law (group_at p.config g) (group_past p.config g (till g)) w turn (fresh-to g (omega arith))
  where
    now : ℕ
    now = moment_of (steps_in before) + ms

    till : ℕ → List Deed
    till n = deeds_till p (steps_in before) now closing samples (account_in p before).deeds n

    fresh-to : (n : ℕ) → n ≤ g → is_refreshed w (group_past p.config g (till n)) ≡ true
    fresh-to zero le = rekey-fresh p.config now (account_in p before).deeds g w is.changes is.there is.within
    fresh-to (suc n) le =
        let differ : n ≢ g = λ same. omega (arith, same, le) in
        subst (λ (deeds : List Deed). is_refreshed w (group_past p.config g deeds) ≡ true) (sym (next-till p (steps_in before) now closing samples (account_in p before).deeds n))
        (other-turn p.config g w n (has_turn p (steps_in before) now closing (till n) n) (turn_of p (steps_in before) now closing samples (till n) n) (till n) differ (fresh-to n (omega (arith, le))))

-- ---- the first turn under each token

-- one of the turns has the token
abbrev HasToken : ℕ → List KeyedTurn → Type 0
HasToken token [] = ⊥
HasToken token (turn ∷ before) = (turn.token ≡ token) ⊎ HasToken token before

no-token : (token : ℕ) (turns : List KeyedTurn) → All (λ earlier. earlier.token ≢ token) turns → HasToken token turns → ⊥
no-token token [] all none = none
no-token token (turn ∷ before) all (inl here) = All-head (λ earlier. earlier.token ≢ token) turn before all here
no-token token (turn ∷ before) all (inr more) = no-token token before (All-tail (λ earlier. earlier.token ≢ token) turn before all) more

same-token : (a b : ℕ) → not (a == b) ≡ false → a ≡ b
same-token a b e = grind (arith, nat_tests)

same-if : (b : Bool) (mode : Mode) (count : ℕ) (s : SenderState) → (advanced_if b mode count s).keys ≡ s.keys
same-if true mode count s = advanced-keys mode s count
same-if false mode count s = refl

same-renewed : (b : Bool) (sets : List KeySet) (s : SenderState) → s.keys.token ≡ (renewed_if b sets s).keys.token
same-renewed true sets s = refl
same-renewed false sets s = refl

module _ (config : Config) (k g w : ℕ) (keyed : (group_at config g).keygroup ≡ Some k) (within : w < length (group_at config g).writer) (there : g < length config.group) where
  -- the writer is refreshed, or had a turn under the token
  record BeginsBy (token : ℕ) (past : List GroupDeed) (turns : List KeyedTurn) : Type 0 where
    ready : (is_refreshed w past ≡ true) ⊎ HasToken token turns
    begin : BeginWithKeys turns

  abbrev Begins : List Deed → Type 0
  Begins deeds = BeginsBy (token_after config k deeds) (group_past config g deeds) (keyed_turns config k g w deeds)

  begins-where : (token : ℕ) (test : ℕ → Bool) (past : List GroupDeed) (writers : List ℕ) (turns : List KeyedTurn) → BeginsBy token past turns → BeginsBy token (refreshed_where test past writers) turns
  begins-where token test past writers turns h = record { ready = on h.ready; begin = h.begin }
    where
      on : (is_refreshed w past ≡ true) ⊎ HasToken token turns → (is_refreshed w (refreshed_where test past writers) ≡ true) ⊎ HasToken token turns
      on (inl fresh) = inl (fresh-where test w past writers fresh)
      on (inr had) = inr had

  begins-below : (component : Component) (earlier : List Deed) → Begins earlier → Begins (RefreshedBelow component ∷ earlier)
  begins-below component earlier h = begins-where (token_after config k earlier) (is_writer_below component g) (group_past config g earlier) (writer_indexes (group_at config g)) (keyed_turns config k g w earlier) h

  begins-set : (set : ℕ) (earlier : List Deed) → Begins earlier → Begins (RefreshedSet set ∷ earlier)
  begins-set set earlier h = begins-where (token_after config k earlier) (is_writer_of (group_at config g) set) (group_past config g earlier) (writer_indexes (group_at config g)) (keyed_turns config k g w earlier) h

  begins-renewed : (keygroup : ℕ) (sets : List KeySet) (earlier : List Deed) → Begins earlier → Begins (RenewedKeys keygroup sets ∷ earlier)
  begins-renewed keygroup sets earlier h =
      subst (λ (t : ℕ). BeginsBy t (group_past config g earlier) (keyed_turns config k g w earlier)) (same-renewed (keygroup == k) sets (sender_after config k earlier)) h

  -- a tick comes to its moment
  changes-by : (now : ℕ) (before : List Deed) → is_rekeyed config now before g ≡ not ((turned_to (sender_after config k before) now).keys.token == token_after config k before)
  changes-by now before =
      ap (λ (o : Option ℕ). option_map_or (λ (s : SenderState). not ((turned_to s now).keys.token == s.keys.token)) (option_map (λ (n : ℕ). sender_after config n before) o) false) keyed

  begins-rekeyed : (now : ℕ) (before : List Deed) → Begins before → Begins (rekeyed config now before)
  begins-rekeyed now before h = on (is_rekeyed config now before g) refl
    where
      on : (b : Bool) → is_rekeyed config now before g ≡ b → Begins (rekeyed config now before)
      on true e = record {
        ready = inl (rekey-fresh config now before g w e there within);
        begin = subst BeginWithKeys (sym (turns-rekeyed config k g w now before)) h.begin;
      }
      on false e =
          let now_token = (turned_to (sender_after config k before) now).keys.token in
          let same : now_token ≡ token_after config k before = same-token now_token (token_after config k before) (sym (changes-by now before) ∙ e) in
          refreshed-among Begins config begins-below now before (group_indexes config) (CameTo now ∷ before)
          (subst (λ (t : ℕ). BeginsBy t (group_past config g before) (keyed_turns config k g w before)) (sym same) h)

  -- ---- a turn

  turn-token : (other : ℕ) (turn : GroupTurn) (earlier : List Deed) → token_after config k earlier ≡ token_after config k (TookTurn other turn ∷ earlier)
  turn-token other turn earlier =
      sym (ap (λ (keys : TokenKeys). keys.token) (same-if (shares (group_at config other) k) (mode_of (group_at config other).security) (length turn.made) (sender_after config k earlier)))

  -- one that the writer has is fresh, or not the first under its token
  key-here : (earlier : List Deed) (turn : WriterTurn) → (is_refreshed w (group_past config g earlier) ≡ true) ⊎ HasToken (token_after config k earlier) (keyed_turns config k g w earlier)
      → All (λ before. before.token ≢ token_after config k earlier) (keyed_turns config k g w earlier) → is_key (keyed_turn config k g w earlier turn).answered ≡ true
  key-here earlier turn (inl fresh) none = key-fresh config k g w earlier turn fresh
  key-here earlier turn (inr had) none = absurd (no-token (token_after config k earlier) (keyed_turns config k g w earlier) none had)

  begins-took : (b : Bool) (o : Option WriterTurn) (turn : GroupTurn) (earlier : List Deed) → took_by w turn ≡ o → Begins earlier
      → BeginsBy (token_after config k earlier) (cons_if b (HadGroupTurn turn) (group_past config g earlier))
      (cons_option (if b then option_map (keyed_turn config k g w earlier) o else None) (keyed_turns config k g w earlier))
  begins-took false o turn earlier e h = h
  begins-took true None turn earlier e h = record { ready = on h.ready; begin = h.begin }
    where
      on : (is_refreshed w (group_past config g earlier) ≡ true) ⊎ HasToken (token_after config k earlier) (keyed_turns config k g w earlier)
          → (is_refreshed w (HadGroupTurn turn ∷ group_past config g earlier) ≡ true) ⊎ HasToken (token_after config k earlier) (keyed_turns config k g w earlier)
      on (inl fresh) = inl (still-fresh w turn (group_past config g earlier) e fresh)
      on (inr had) = inr had
  begins-took true (Some t) turn earlier e h = record { ready = inr (inl refl); begin = (key-here earlier t h.ready, h.begin) }

  begins-turn : (other : ℕ) (turn : GroupTurn) (earlier : List Deed) → Begins earlier → Begins (TookTurn other turn ∷ earlier)
  begins-turn other turn earlier h =
      subst (λ (t : ℕ). BeginsBy t (group_past config g (TookTurn other turn ∷ earlier)) (keyed_turns config k g w (TookTurn other turn ∷ earlier))) (turn-token other turn earlier)
      (begins-took (other == g) (took_by w turn) turn earlier refl h)

-- ---- in a life

all-begin : (p : Plan) (k g w : ℕ) (keyed : (group_at p.config g).keygroup ≡ Some k) (within : w < length (group_at p.config g).writer) (there : g < length p.config.group) (life : List Lived)
    → Begins p.config k g w keyed within there (account_in p life).deeds
all-begin p k g w keyed within there [] = record { ready = inl refl; begin = tt }
all-begin p k g w keyed within there (Stepped (Enable id) ∷ before) =
    begins-below p.config k g w keyed within there (component_at p.config id) (account_in p before).deeds (all-begin p k g w keyed within there before)
all-begin p k g w keyed within there (Stepped (Disable id) ∷ before) = all-begin p k g w keyed within there before
all-begin p k g w keyed within there (Stepped (Append set field) ∷ before) = begins-set p.config k g w keyed within there set (account_in p before).deeds (all-begin p k g w keyed within there before)
all-begin p k g w keyed within there (Stepped (Tick ms closing samples done) ∷ before) =
    let now = moment_of (steps_in before) + ms in
    turned-among (Begins p.config k g w keyed within there) (λ other turn earlier h. begins-turn p.config k g w keyed within there other turn earlier h) p (steps_in before) now closing samples (group_indexes p.config)
    (rekeyed p.config now (account_in p before).deeds) (begins-rekeyed p.config k g w keyed within there now (account_in p before).deeds (all-begin p k g w keyed within there before))
all-begin p k g w keyed within there (Stepped (Pump entries) ∷ before) = all-begin p k g w keyed within there before
all-begin p k g w keyed within there (Renewed keygroup sets ∷ before) =
    begins-renewed p.config k g w keyed within there keygroup sets (account_in p before).deeds (all-begin p k g w keyed within there before)

pub life-anew : (p : Plan) (k g w : ℕ) (life : List Lived) → (group_at p.config g).keygroup ≡ Some k → w < length (group_at p.config g).writer → BeginWithKeys (keyed_turns_in p k g w life)
life-anew p k g w life keyed within = (all-begin p k g w keyed within (writer-index p.config g w within) life).begin

-- ---- the turns are the writer's

pub life-answers : (p : Plan) (k g w : ℕ) (life : List Lived) → map (λ turn. turn.answered) (keyed_turns_in p k g w life) ≡ answered_in p g w life
life-answers p k g w life = answers-of p.config k g w (account_in p life).deeds
