-- The tokens and numbers of a secured group's datagrams, by what a matched read group finds of them.
use Rattle.std.proofs.Common.{◌≡◌, refl, sym, ap, ◌∙◌, subst, arith, ℕ, zero, suc, ◌+◌, ◌<◌, ◌≤◌, ◌⊎◌, inl, inr, Bool, true, false, List, [], ◌∷◌, length, Option, Some, None, Contains, Result, Ok}
use Rattle.std.specs.Prelude.{◌==◌, nat_lt, option_map, slice_get, if◌then◌else◌}
use Rattle.std.proofs.lemmas.Bool.Decides.{nat_tests}
use Rattle.std.proofs.lemmas.Option.{slice_get-get_or}
use Rattle.dataset_meta.specs.Rows.{cons_if}
use Rattle.group_keys.specs.KeySets.{current}
use Rattle.group_keys.specs.declared.key_set.KeySet.{KeySet}
use Rattle.message_guard.specs.Acceptance.{Accepted}
use Rattle.message_guard.specs.declared.mode.Mode.{Mode}
use Rattle.message_guard.specs.declared.pass.Pass1.{Pass1}
use Rattle.message_guard.specs.Senders.{SenderState, turned_by}
use Rattle.config_tables.specs.declared.words.Layout.{Layout}
use Rattle.ps_config.specs.declared.parts.Config.{Config}
use Rattle.ps_config.specs.declared.parts.GroupPart.{GroupPart}
use Rattle.ps_config.specs.declared.parts.ReadGroupPart.{ReadGroupPart}
use Rattle.ps_config.specs.Headers.{mode_of}
use Rattle.pubsub_states.specs.declared.component.Component.{Component}
use Rattle.pubsub_states.specs.declared.component.Component.TheVariants.{Group}
use Rattle.reader_group.specs.declared.refusal.Refusal.{Refusal}
use Rattle.reader_group.specs.Opening.{Opened, verdict}
use Rattle.reader_group.specs.Settings.{setup_by}
use Rattle.writer_group.specs.declared.sampled.Sampled.{Sampled}
use Rattle.writer_group.specs.Parts.{group_at}
use Rattle.writer_group.specs.Payloads.{payloads_of}
use Rattle.writer_group.specs.Sealing.{Envelope, Payload, advanced_by}
use Rattle.writer_group.specs.Turns.{GroupDeed, HadGroupTurn, RefreshedWriter, envelope_of, frames_in}
use Rattle.group_laws.specs.Matching.{IsGroupTurn, IsMatchedTo}
use Rattle.group_laws.specs.TurnOpened.{opened_at, opened_from, turn_opened}
use Rattle.group_laws.proofs.TurnTaken.{advanced-keys, advanced-used}
use Rattle.session_model.specs.Counts.{most_ticks}
use Rattle.session_model.specs.Deeds.{Deed, RefreshedBelow, RefreshedSet, CameTo, TookTurn, advanced_if, component_at, deeds, group_past, is_writer_below, is_writer_of, refreshed_where, sender_after, shares, turn_input, turn_of, writer_indexes}
use Rattle.session_model.specs.Keeping.{AreSteps, IsPlan}
use Rattle.session_model.specs.Steps.{Plan, Step, Enable, Disable, Append, Tick, Pump, moment_of}
use Rattle.session_model.specs.Turns.{TurnsHold, deeds_before}
use Rattle.session_model.proofs.Deeds.{HoldsTick}
use Rattle.session_laws.specs.Pasts.{WasMade}
use Rattle.session_laws.proofs.HeldRows.Pieces.{TurnLaws, opened-at}
use Rattle.session_laws.proofs.Versions.Rowing.{WordLaws, turn-is}
use Rattle.session_laws.proofs.Versions.Senders.{RingLaw, SendHolds, send-holds, send-to}

-- ---- in one turn

-- the token in use, and the number of the datagram with this index
pub record IsPassOf (s : SenderState) (index : ℕ) (pass : Pass1) : Type 0 where
  pub token : pass.token ≡ s.keys.token
  pub number : pass.number ≡ s.used + suc index

pub opened-pass : (layout : Layout) (e : Envelope) (s : SenderState) (index : ℕ) (payloads : List Payload) (k : ℕ) (opened : Opened) → slice_get (opened_from layout e (Some s) index payloads) k ≡ Some opened → IsPassOf s (index + k) opened.pass
opened-pass layout e s index [] k opened at = absurd (cc)
opened-pass layout e s index (payload ∷ payloads) zero opened at =
    let mode = mode_of e.settings.security in
    let same : opened_at layout e (Some s) index payload ≡ opened = cc in
    let here : index ≡ index + 0 = omega arith in
    subst (λ (n : ℕ). IsPassOf s n opened.pass) here
    (subst (λ (o : Opened). IsPassOf s index o.pass) same (record { token = ap (λ k. k.token) (advanced-keys mode s (suc index)); number = advanced-used mode s (suc index) }))
opened-pass layout e s index (payload ∷ payloads) (suc k) opened at =
    let there : index + 1 + k ≡ index + suc k = omega arith in
    subst (λ (n : ℕ). IsPassOf s n opened.pass) there (opened-pass layout e s (index + 1) payloads k opened at)

-- what was found is under the sender: it is of a lower token, or of a number that was used
abbrev pub IsUnder : SenderState → Pass1 → Type 0
IsUnder s pass = (pass.token < s.keys.token) ⊎ ((pass.token ≡ s.keys.token) × (pass.number ≤ s.used))

under-turned : (s : SenderState) (o : Option KeySet) (pass : Pass1) → IsUnder s pass → IsUnder (turned_by s o) pass
under-turned s None pass h = h
under-turned s (Some set) pass h = on (nat_lt s.keys.token set.token) refl h
  where
    on : (b : Bool) → nat_lt s.keys.token set.token ≡ b → IsUnder s pass → IsUnder (if b then record s { keys = Rattle.message_guard.specs.Protection.keys_in set; used = 0; fronted = None } else s) pass
    on false e h = h
    on true e (inl lower) = inl (grind (arith, nat_tests, lower, e))
    on true e (inr (same, le)) = inl (grind (arith, nat_tests, same, e))

under-advanced : (b : Bool) (mode : Mode) (count : ℕ) (s : SenderState) (pass : Pass1) → IsUnder s pass → IsUnder (advanced_if b mode count s) pass
under-advanced false mode count s pass h = h
under-advanced true mode count s pass h =
    let keys = ap (λ k. k.token) (advanced-keys mode s count) in
    let used = advanced-used mode s count in
    on keys used h
  where
    on : (advanced_by mode s count).keys.token ≡ s.keys.token → (advanced_by mode s count).used ≡ s.used + count → IsUnder s pass → IsUnder (advanced_by mode s count) pass
    on keys used (inl lower) = inl (omega (arith, lower, keys))
    on keys used (inr (same, le)) = inr (same ∙ sym keys, omega (arith, le, used))

-- ---- a refresh makes nothing

was-where : (test : ℕ → Bool) (past : List GroupDeed) (writers : List ℕ) (datagram : List ℕ) → WasMade (refreshed_where test past writers) datagram → WasMade past datagram
was-where test past [] datagram h = h
was-where test past (w ∷ writers) datagram h = on (test w) (was-where test (cons_if (test w) (RefreshedWriter w) past) writers datagram h)
  where
    on : (b : Bool) → WasMade (cons_if b (RefreshedWriter w) past) datagram → WasMade past datagram
    on true h = h
    on false h = h

-- ---- of a group with a key group

module _ (laws : TurnLaws) (p : Plan) (k g : ℕ) (readers : ReadGroupPart) (reader writer : ℕ) (matched : IsMatchedTo p.config readers reader (group_at p.config g) writer) (keyed : (group_at p.config g).keygroup ≡ Some k) where
  abbrev config : Config
  config = p.config

  abbrev group : GroupPart
  group = group_at p.config g

  abbrev its_verdict : Accepted → List ℕ → Result Opened Refusal
  its_verdict accepted datagram = verdict readers (setup_by config readers readers.keygroup) accepted datagram

  -- all that the group made so far, or by older, is found under its sender
  pub AreUnder : List GroupDeed → List Deed → Type 0
  AreUnder older list =
      (datagram : List ℕ) (accepted : Accepted) (opened : Opened) → WasMade (group_past config g list) datagram ⊎ WasMade older datagram → its_verdict accepted datagram ≡ Ok opened → IsUnder (sender_after config k list) opened.pass

  came-under : (older : List GroupDeed) (now : ℕ) (earlier : List Deed) → AreUnder older earlier → AreUnder older (CameTo now ∷ earlier)
  unfolding AreUnder
  came-under older now earlier h = λ datagram accepted opened was e.
      under-turned (sender_after config k earlier) (current (sender_after config k earlier).sets now) opened.pass (h datagram accepted opened was e)

  below-under : (older : List GroupDeed) (component : Component) (earlier : List Deed) → AreUnder older earlier → AreUnder older (RefreshedBelow component ∷ earlier)
  unfolding AreUnder
  below-under older component earlier h = λ datagram accepted opened was e. h datagram accepted opened (on datagram was) e
    where
      on : (datagram : List ℕ) → WasMade (group_past config g (RefreshedBelow component ∷ earlier)) datagram ⊎ WasMade older datagram → WasMade (group_past config g earlier) datagram ⊎ WasMade older datagram
      on datagram (inl was) = inl (was-where (is_writer_below component g) (group_past config g earlier) (writer_indexes group) datagram was)
      on datagram (inr was) = inr was

  set-under : (older : List GroupDeed) (set : ℕ) (earlier : List Deed) → AreUnder older earlier → AreUnder older (RefreshedSet set ∷ earlier)
  unfolding AreUnder
  set-under older set earlier h = λ datagram accepted opened was e. h datagram accepted opened (on datagram was) e
    where
      on : (datagram : List ℕ) → WasMade (group_past config g (RefreshedSet set ∷ earlier)) datagram ⊎ WasMade older datagram → WasMade (group_past config g earlier) datagram ⊎ WasMade older datagram
      on datagram (inl was) = inl (was-where (is_writer_of group set) (group_past config g earlier) (writer_indexes group) datagram was)
      on datagram (inr was) = inr was

  -- what is opened of a turn
  pub own-pass : (before : List Step) (now : ℕ) (closing : Bool) (samples : List Sampled) (earlier : List Deed) (index : ℕ) (opened : Opened)
      → slice_get (turn_opened config group (group_past config g earlier) (turn_input p before now closing samples earlier g)) index ≡ Some opened → IsPassOf (sender_after config k earlier) index opened.pass
  own-pass before now closing samples earlier index opened there =
      let past = group_past config g earlier in
      let input = turn_input p before now closing samples earlier g in
      let s = sender_after config k earlier in
      let sender : input.sender ≡ Some s = ap (option_map (λ (n : ℕ). sender_after config n earlier)) keyed in
      let own : slice_get (opened_from group.layout (envelope_of config group past) (Some s) 0 (payloads_of config group (frames_in group past input))) index ≡ Some opened =
      subst (λ (o : Option SenderState). slice_get (opened_from group.layout (envelope_of config group past) o 0 (payloads_of config group (frames_in group past input))) index ≡ Some opened) sender there in
      let zero_is : 0 + index ≡ index = omega arith in
      subst (λ (n : ℕ). IsPassOf s n opened.pass) zero_is (opened-pass group.layout (envelope_of config group past) s 0 (payloads_of config group (frames_in group past input)) index opened own)

  -- a turn's own
  pub turn-pass : (before : List Step) (now : ℕ) (closing : Bool) (samples : List Sampled) (earlier : List Deed) (index : ℕ) (datagram : List ℕ) (accepted : Accepted) (opened : Opened)
      → IsGroupTurn config group (group_past config g earlier) (turn_input p before now closing samples earlier g)
      → slice_get (turn_of p before now closing samples earlier g).made index ≡ Some datagram → its_verdict accepted datagram ≡ Ok opened → IsPassOf (sender_after config k earlier) index opened.pass
  turn-pass before now closing samples earlier index datagram accepted opened may at e =
      own-pass before now closing samples earlier index opened (opened-at laws config group readers reader writer matched (group_past config g earlier) (turn_input p before now closing samples earlier g) accepted index datagram opened may at e).0

  shared : shares group k ≡ true
  shared = ap (λ (o : Option ℕ). Rattle.std.specs.Option.option_map_or (λ (other : ℕ). other == k) o false) keyed ∙ self k
    where
      self : (n : ℕ) → (n == n) ≡ true
      self n = grind (arith, nat_tests)

  turn-under : (older : List GroupDeed) (before : List Step) (now : ℕ) (closing : Bool) (samples : List Sampled) (other : ℕ) (earlier : List Deed) (b : Bool) → (other == g) ≡ b
      → IsGroupTurn config (group_at config other) (group_past config other earlier) (turn_input p before now closing samples earlier other) → AreUnder older earlier
      → AreUnder older (TookTurn other (turn_of p before now closing samples earlier other) ∷ earlier)
  unfolding AreUnder
  turn-under older before now closing samples other earlier false e may h = λ datagram accepted opened was judged.
      let turn = turn_of p before now closing samples earlier other in
      let old : WasMade (group_past config g earlier) datagram ⊎ WasMade older datagram =
      subst (λ (t : Bool). WasMade (cons_if t (HadGroupTurn turn) (group_past config g earlier)) datagram ⊎ WasMade older datagram) e was in
      under-advanced (shares (group_at config other) k) (mode_of (group_at config other).security) (length turn.made) (sender_after config k earlier) opened.pass (h datagram accepted opened old judged)
  turn-under older before now closing samples other earlier true e may h = λ datagram accepted opened was judged.
      let turn = turn_of p before now closing samples earlier other in
      let own : WasMade (HadGroupTurn turn ∷ group_past config g earlier) datagram ⊎ WasMade older datagram =
      subst (λ (t : Bool). WasMade (cons_if t (HadGroupTurn turn) (group_past config g earlier)) datagram ⊎ WasMade older datagram) e was in
      on datagram accepted opened judged own
    where
      same : other ≡ g
      same = grind (arith, nat_tests)

      s : SenderState
      s = sender_after config k earlier

      made_now : ℕ → List (List ℕ)
      made_now n = (turn_of p before now closing samples earlier n).made

      after-is : advanced_if (shares (group_at config other) k) (mode_of (group_at config other).security) (length (made_now other)) s ≡ advanced_by (mode_of (group_at config other).security) s (length (made_now other))
      after-is = ap (λ (t : Bool). advanced_if t (mode_of (group_at config other).security) (length (made_now other)) s) (ap (λ (n : ℕ). shares (group_at config n) k) same ∙ shared)

      own-turn : IsGroupTurn config group (group_past config g earlier) (turn_input p before now closing samples earlier g)
      own-turn = subst (λ (n : ℕ). IsGroupTurn config (group_at config n) (group_past config n earlier) (turn_input p before now closing samples earlier n)) same may

      new-under : (datagram : List ℕ) (accepted : Accepted) (opened : Opened) → its_verdict accepted datagram ≡ Ok opened → Contains (made_now g) datagram → IsUnder (advanced_by (mode_of (group_at config other).security) s (length (made_now other))) opened.pass
      new-under datagram accepted opened judged (index, below, is) =
          let at : slice_get (made_now g) index ≡ Some datagram = slice_get-get_or (made_now g) index datagram below ∙ ap (λ (d : List ℕ). Some d) is in
          let pass = turn-pass before now closing samples earlier index datagram accepted opened own-turn at judged in
          let mode = mode_of (group_at config other).security in
          let count : length (made_now other) ≡ length (made_now g) = ap (λ (n : ℕ). length (made_now n)) same in
          let keys = ap (λ k. k.token) (advanced-keys mode s (length (made_now other))) in
          let used = advanced-used mode s (length (made_now other)) in
          let number = pass.number in
          inr (pass.token ∙ sym keys, omega (arith, number, used, count, below))

      on : (datagram : List ℕ) (accepted : Accepted) (opened : Opened) → its_verdict accepted datagram ≡ Ok opened
          → WasMade (HadGroupTurn (turn_of p before now closing samples earlier other) ∷ group_past config g earlier) datagram ⊎ WasMade older datagram
          → IsUnder (sender_after config k (TookTurn other (turn_of p before now closing samples earlier other) ∷ earlier)) opened.pass
      on datagram accepted opened judged (inl (inl made)) =
          subst (λ (x : SenderState). IsUnder x opened.pass) (sym after-is) (new-under datagram accepted opened judged (subst (λ (n : ℕ). Contains (made_now n) datagram) same made))
      on datagram accepted opened judged (inl (inr was)) =
          under-advanced (shares (group_at config other) k) (mode_of (group_at config other).security) (length (made_now other)) s opened.pass (h datagram accepted opened (inl was) judged)
      on datagram accepted opened judged (inr was) =
          under-advanced (shares (group_at config other) k) (mode_of (group_at config other).security) (length (made_now other)) s opened.pass (h datagram accepted opened (inr was) judged)

  -- ---- over all steps

  send-under : (words : WordLaws) (older : List GroupDeed) (before : List Step) (now : ℕ) (closing : Bool) (samples : List Sampled) → IsPlan p → AreSteps p before → SendHolds p before now closing samples (AreUnder older)
  send-under words older before now closing samples plan are = record {
    came = λ earlier h. came-under older now earlier h;
    fresh = λ other earlier h. below-under older (Group other) earlier h;
    turn = λ other earlier there holds h.
        turn-under older before now closing samples other earlier (other == g) refl (turn-is most_ticks words p before now closing samples earlier other plan are there holds).may h;
  }

  none-under : AreUnder [] []
  unfolding AreUnder
  none-under = λ datagram accepted opened was e. absurd (on datagram was)
    where
      on : (datagram : List ℕ) → WasMade [] datagram ⊎ WasMade [] datagram → ⊥
      on datagram (inl x) = x
      on datagram (inr x) = x

  all-under : (words : WordLaws) → RingLaw → (steps : List Step) → IsPlan p → AreSteps p steps → TurnsHold p steps → AreUnder [] (deeds p steps)
  all-under words ring [] plan are hold = none-under
  all-under words ring (Enable id ∷ before) plan are hold = below-under [] (component_at config id) (deeds p before) (all-under words ring before plan are.1 hold)
  all-under words ring (Disable id ∷ before) plan are hold = all-under words ring before plan are.1 hold
  all-under words ring (Append set field ∷ before) plan are hold = set-under [] set (deeds p before) (all-under words ring before plan are.1 hold)
  all-under words ring (Tick ms closing samples done ∷ before) plan are hold =
      send-holds ring p before (moment_of before + ms) closing samples (AreUnder []) plan (send-under words [] before (moment_of before + ms) closing samples plan are.1) hold.0 hold.1
      (all-under words ring before plan are.1 hold.1)
  all-under words ring (Pump entries ∷ before) plan are hold = all-under words ring before plan are.1 hold

  doubled : (list : List Deed) → AreUnder [] list → AreUnder (group_past config g list) list
  unfolding AreUnder
  doubled list h = λ datagram accepted opened was e. h datagram accepted opened (inl (on datagram was)) e
    where
      on : (datagram : List ℕ) → WasMade (group_past config g list) datagram ⊎ WasMade (group_past config g list) datagram → WasMade (group_past config g list) datagram
      on datagram (inl was) = was
      on datagram (inr was) = was

  -- at the turn of the group in a tick: all that it made before the turn, and before the tick
  pub under-before : (words : WordLaws) → RingLaw → (before : List Step) (now : ℕ) (closing : Bool) (samples : List Sampled) → g < length config.group → IsPlan p → AreSteps p before → TurnsHold p before
      → HoldsTick p before now closing samples → AreUnder (group_past config g (deeds p before)) (deeds_before p before now closing samples g)
  under-before words ring before now closing samples there plan are hold holds =
      let older = group_past config g (deeds p before) in
      (send-to ring p before now closing samples (AreUnder older) g (omega (arith, there)) plan (send-under words older before now closing samples plan are) holds hold
      (doubled (deeds p before) (all-under words ring before plan are hold))).1

  pub use-under : (older : List GroupDeed) (list : List Deed) (datagram : List ℕ) (accepted : Accepted) (opened : Opened) → AreUnder older list → WasMade (group_past config g list) datagram ⊎ WasMade older datagram
      → its_verdict accepted datagram ≡ Ok opened → IsUnder (sender_after config k list) opened.pass
  unfolding AreUnder
  use-under older list datagram accepted opened h was e = h datagram accepted opened was e
