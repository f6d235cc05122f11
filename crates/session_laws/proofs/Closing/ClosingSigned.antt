-- A closing frame whose datagrams came to a secured read group that names its group is an item of the reader since its last cut.
use Rattle.std.proofs.Common.{◌≡◌, ◌≢◌, refl, sym, ap, ◌∙◌, subst, arith, ℕ, zero, suc, ◌+◌, inl, inr, Bool, true, false, List, [], ◌∷◌, ◌++◌, map, Option, Some, None, Contains, Result, Ok, Err}
use Rattle.std.specs.Prelude.{◌==◌, is_some, slice_get, IfSome}
use Rattle.std.proofs.lemmas.Bool.Decides.{nat_tests}
use Rattle.std.proofs.lemmas.Option.{slice_get-get_or}
use Rattle.dataset_meta.specs.Rows.{cons_if}
use Rattle.ua_base.specs.Journal.{Entry}
use Rattle.message_guard.specs.Acceptance.{Accepted}
use Rattle.message_guard.specs.Guards.{Setup}
use Rattle.message_guard.specs.Modes.{is_secured}
use Rattle.message_guard.specs.Protection.{keys_with}
use Rattle.message_guard.specs.Senders.{SenderState}
use Rattle.config_tables.specs.declared.words.Security.{Security}
use Rattle.config_tables.specs.declared.words.Security.TheVariants as security
use Rattle.ps_config.specs.declared.parts.Config.{Config}
use Rattle.ps_config.specs.declared.parts.GroupPart.{GroupPart}
use Rattle.ps_config.specs.declared.parts.ReadGroupPart.{ReadGroupPart}
use Rattle.ps_config.specs.Headers.{is_secured as is_secured_group, mode_of}
use Rattle.ps_config.specs.Sound.{IsSound}
use Rattle.reader_group.specs.declared.refusal.Refusal.{Refusal}
use Rattle.reader_group.specs.declared.refusal.Refusal.TheVariants as refusals
use Rattle.reader_group.specs.Opening.{Opened, verdict}
use Rattle.reader_group.specs.Settings.{keygroup_at, setup_by}
use Rattle.writer_group.specs.declared.sampled.Sampled.{Sampled}
use Rattle.writer_group.specs.Turns.{GroupDeed, GroupTurn, HadGroupTurn, RefreshedWriter, turn_datagrams}
use Rattle.group_laws.specs.Matching.{IsMatchedTo, IsSenderOf, MaySend}
use Rattle.group_laws.specs.TurnOpened.{is_accepted}
use Rattle.session_model.specs.Deeds.{Deed, TookTurn, deeds, group_past, has_turn, turn_of}
use Rattle.session_model.specs.Steps.{Plan, Step, Pump, Tick}
use Rattle.session_model.specs.Turns.{deeds_before}
use Rattle.session_laws.specs.Headline.{InSession}
use Rattle.session_laws.specs.Pasts.{AreTurns, IsMade, WasMade}
use Rattle.session_model.proofs.Deeds.{next-turned}
use Rattle.session_laws.proofs.Versions.Distinct.{IsAt, ids-differ}
use Rattle.session_laws.proofs.HeldRows.Pieces.{TurnLaws, opened-at}
use Rattle.session_laws.proofs.HeldRows.Taking.{taken-before}

-- ---- a session before its last steps

before-pump : (p : Plan) (r i g w : ℕ) (entries : List Entry) (before : List Step) → InSession p r i g w (Pump entries ∷ before) → InSession p r i g w before
before-pump p r i g w entries before is = record {
  plan = is.plan;
  steps_are = is.steps_are.1;
  run = is.run.1;
  rise = is.rise;
  there = is.there;
  matched = is.matched;
  honest = taken-before p r (Pump entries) before is.honest;
}

pub before-pumps : (p : Plan) (r i g w : ℕ) (pumps : List (List Entry)) (before : List Step) → InSession p r i g w (map Pump pumps ++ before) → InSession p r i g w before
before-pumps p r i g w [] before is = is
before-pumps p r i g w (entries ∷ pumps) before is = before-pumps p r i g w pumps before (before-pump p r i g w entries (map Pump pumps ++ before) is)

pub before-tick : (p : Plan) (r i g w ms : ℕ) (closing : Bool) (samples : List Sampled) (done : List Bool) (before : List Step) → InSession p r i g w (Tick ms closing samples done ∷ before) → InSession p r i g w before
before-tick p r i g w ms closing samples done before is = record {
  plan = is.plan;
  steps_are = is.steps_are.1;
  run = is.run.1;
  rise = is.rise.1;
  there = is.there;
  matched = is.matched;
  honest = taken-before p r (Tick ms closing samples done) before is.honest;
}

pub deeds-behind : (p : Plan) (pumps : List (List Entry)) (before : List Step) → deeds p (map Pump pumps ++ before) ≡ deeds p before
deeds-behind p [] before = refl
deeds-behind p (entries ∷ pumps) before = deeds-behind p pumps before

-- ---- the group's turn in a tick is its last there

self : (n : ℕ) → (n == n) ≡ true
self n = grind (arith, nat_tests)

module _ (p : Plan) (before : List Step) (now : ℕ) (closing : Bool) (samples : List Sampled) (g : ℕ) (has : has_turn p before now closing (deeds_before p before now closing samples g) g ≡ true) where
  abbrev earlier : List Deed
  earlier = deeds_before p before now closing samples g

  abbrev turn : GroupTurn
  turn = turn_of p before now closing samples earlier g

  abbrev IsLast : List Deed → Type 0
  IsLast list = group_past p.config g list ≡ HadGroupTurn turn ∷ group_past p.config g earlier

  last-now : IsLast (deeds_before p before now closing samples (suc g))
  last-now =
      ap (group_past p.config g) (next-turned p before now closing samples g)
      ∙ ap (λ (b : Bool). group_past p.config g (cons_if b (TookTurn g turn) earlier)) has
      ∙ ap (λ (b : Bool). cons_if b (HadGroupTurn turn) (group_past p.config g earlier)) (self g)

  other-past : (k : ℕ) (b : Bool) (t : GroupTurn) (list : List Deed) → (k == g) ≡ false → group_past p.config g (cons_if b (TookTurn k t) list) ≡ group_past p.config g list
  other-past k true t list e = ap (λ (b : Bool). cons_if b (HadGroupTurn t) (group_past p.config g list)) e
  other-past k false t list e = refl

  last-then : (more : ℕ) → IsLast (deeds_before p before now closing samples (suc g + more))
  last-then zero = let same : suc g ≡ suc g + 0 = omega arith in subst (λ (n : ℕ). IsLast (deeds_before p before now closing samples n)) same last-now
  last-then (suc more) =
      let k = suc g + more in
      let list = deeds_before p before now closing samples k in
      let differ : (k == g) ≡ false = grind (arith, nat_tests) in
      let same : suc k ≡ suc g + suc more = omega arith in
      subst (λ (n : ℕ). IsLast (deeds_before p before now closing samples n)) same
      (ap (group_past p.config g) (next-turned p before now closing samples k)
      ∙ other-past k (has_turn p before now closing list k) (turn_of p before now closing samples list k) list differ ∙ last-then more)

  pub last-of-tick : (groups more : ℕ) → groups ≡ suc g + more → IsLast (deeds_before p before now closing samples groups)
  last-of-tick groups more e = subst (λ (n : ℕ). IsLast (deeds_before p before now closing samples n)) (sym e) (last-then more)

-- ---- a read group that names its writer's group takes what that made alone

module _ (laws : TurnLaws) (config : Config) (readers : ReadGroupPart) where
  abbrev its_setup : Setup
  its_setup = setup_by config readers readers.keygroup

  none-named : (part : GroupPart) (past : List GroupDeed) (pairs : Accepted) (datagram : List ℕ) → AreTurns config part past → WasMade past datagram → readers.group ≢ 0 → readers.group ≢ part.id → verdict readers its_setup pairs datagram ≡ Err refusals.NotOurs
  none-named part [] pairs datagram are made some other = absurd made
  none-named part (RefreshedWriter w ∷ before) pairs datagram are made some other = none-named part before pairs datagram are made some other
  none-named part (HadGroupTurn own ∷ before) pairs datagram are (inl made) some other =
      laws.other_named config part before are.0.input readers its_setup pairs datagram are.0.may (subst (λ (t : GroupTurn). Contains t.made datagram) are.0.is made) some other
  none-named part (HadGroupTurn own ∷ before) pairs datagram are (inr made) some other = none-named part before pairs datagram are.1 made some other

  err-ok : (opened : Opened) → Path (Result Opened Refusal) (Err refusals.NotOurs) (Ok opened) → ⊥
  err-ok opened e = cc

  pub named-made : (g : ℕ) (group : GroupPart) (pasts : ℕ → List GroupDeed) → IsSound config → IsAt config g group → ((h : ℕ) (part : GroupPart) → IsAt config h part → AreTurns config part (pasts h)) → readers.group ≢ 0 → readers.group ≡ group.id
      → (pairs : Accepted) (datagram : List ℕ) (opened : Opened) → IsMade config pasts datagram → verdict readers its_setup pairs datagram ≡ Ok opened → WasMade (pasts g) datagram
  named-made g group pasts sound at are some named pairs datagram opened is e = on (is.group == g) refl
    where
      on : (b : Bool) → (is.group == g) ≡ b → WasMade (pasts g) datagram
      on true own = let same : is.group ≡ g = grind (arith, nat_tests) in subst (λ (n : ℕ). WasMade (pasts n) datagram) same is.made
      on false other =
          let differ : is.group ≢ g = grind (arith, nat_tests) in
          let ids = ids-differ config g is.group group is.part sound at is.there differ in
          absurd (err-ok opened (sym (none-named is.part (pasts is.group) pairs datagram (are is.group is.part is.there) is.made some (λ same. ids (sym named ∙ same))) ∙ e))

  -- each is accepted when it is taken
  module _ (group : GroupPart) (reader writer : ℕ) (matched : IsMatchedTo config readers reader group writer) where
    pub made-acceptable : (past : List GroupDeed) (pairs : Accepted) (datagram : List ℕ) (opened : Opened) → AreTurns config group past → WasMade past datagram → verdict readers its_setup pairs datagram ≡ Ok opened
        → is_accepted its_setup pairs opened.pass ≡ true
    made-acceptable [] pairs datagram opened are made e = absurd made
    made-acceptable (RefreshedWriter w ∷ before) pairs datagram opened are made e = made-acceptable before pairs datagram opened are made e
    made-acceptable (HadGroupTurn own ∷ before) pairs datagram opened are (inl made) e =
        let has = subst (λ (t : GroupTurn). Contains t.made datagram) are.0.is made in
        let sent = turn_datagrams config group before are.0.input in
        let at : slice_get sent has.0 ≡ Some datagram = slice_get-get_or sent has.0 datagram has.1 ∙ ap (λ (d : List ℕ). Some d) has.2 in
        (opened-at laws config group readers reader writer matched before are.0.input pairs has.0 datagram opened are.0.may at e).1
    made-acceptable (HadGroupTurn own ∷ before) pairs datagram opened are (inr made) e = made-acceptable before pairs datagram opened are.1 made e

-- ---- keys

pub mode-by : (config : Config) (readers : ReadGroupPart) (o : Option ℕ) → (setup_by config readers o).mode ≡ mode_of readers.security
mode-by config readers None = refl
mode-by config readers (Some k) = refl

pub mode-group : (s : Security) → is_secured (mode_of s) ≡ is_secured_group s
mode-group security.None = refl
mode-group security.Sign = refl
mode-group security.Encrypt = refl

pub some-of : (o : Option ℕ) → is_some o ≡ true → (k : ℕ) × (o ≡ Some k)
some-of None e = absurd (cc)
some-of (Some k) e = (k, refl)

pub known-by : (config : Config) (readers : ReadGroupPart) (k : ℕ) (s : SenderState) → readers.keygroup ≡ Some k → IsSenderOf (keygroup_at config k) s → keys_with (setup_by config readers readers.keygroup).keys s.keys.token ≡ Some s.keys
known-by config readers k s keyed is = ap (λ (o : Option ℕ). keys_with (setup_by config readers o).keys s.keys.token) keyed ∙ is.keys

pub sender-by : (config : Config) (group : GroupPart) (count k : ℕ) (o : Option SenderState) (s : SenderState) → MaySend config group count o → o ≡ Some s → group.keygroup ≡ Some k → IsSenderOf (keygroup_at config k) s
sender-by config group count k None s may is keyed = absurd (cc)
sender-by config group count k (Some x) s may is keyed =
    let same : x ≡ s = cc in
    subst (λ (y : SenderState). IsSenderOf (keygroup_at config k) y) same (subst (λ (o : Option ℕ). IfSome o (λ index. IsSenderOf (keygroup_at config index) x)) keyed may.2)
