-- Each turn of a session holds what is promised of turns.
use Rattle.std.proofs.Common.{◌≡◌, ◌≢◌, refl, sym, ap, ◌∙◌, subst, arith, ℕ, zero, suc, ◌+◌, ◌<◌, ◌≤◌, ◌^◌, ◌⊎◌, inl, inr, Bool, true, false, List, [], ◌∷◌, length, get_or, set, Contains, Option, Some, None, IfSome}
use Rattle.std.specs.Prelude.{◌==◌, fold, option_map, if◌then◌else◌}
use Rattle.std.specs.List.{cons_option}
use Rattle.std.proofs.lemmas.Bool.{cases_lt}
use Rattle.std.proofs.lemmas.Bool.Decides.{nat_tests}
use Rattle.std.proofs.lemmas.List.{get_or_past, get_or-set_same, get_or-set_other}
use Rattle.std.proofs.lemmas.List.FromFn.{length-map-range_with_len}
use Rattle.std.proofs.lemmas.Option.{slice_get-get_or}
use Rattle.dataset_meta.specs.Metas.{MetaData}
use Rattle.dataset_meta.specs.Rows.{IsRow, cons_if}
use Rattle.pubsub_model.specs.Cadence.{WriterTurn, WriterDeed, Refreshed, HadTurn, HasRowsOf}
use Rattle.group_keys.specs.declared.key_set.KeySet.{KeySet}
use Rattle.ps_config.specs.declared.parts.Config.{Config}
use Rattle.ps_config.specs.declared.parts.GroupPart.{GroupPart}
use Rattle.ps_config.specs.Headers.{is_secured}
use Rattle.ps_config.specs.Sound.{IsKeyed}
use Rattle.dataset_meta.specs.Metas.{grown}
use Rattle.pubsub_states.specs.declared.component.Component.TheVariants.{Group, Writer}
use Rattle.writer_group.specs.declared.sampled.Sampled.{Sampled}
use Rattle.writer_group.specs.Answering.{with_turn}
use Rattle.dataset_meta.specs.Metas.{no_meta}
use Rattle.writer_group.specs.Payloads.{IsFrameIf, meta_at, writer_at}
use Rattle.writer_group.specs.Turns.{GroupDeed, RefreshedWriter, HadGroupTurn, GroupTurn, TurnInput, answer_by, answer_to, took_by, turn_by, turns_from, writer_past}
use Rattle.writer_group.proofs.AnsweringLaws.{length-turns}
use Rattle.writer_group.specs.Turning.{HasHeaderTypes, CanGiveFronts, IsFitFor}
use Rattle.session_model.specs.Steps.{Plan, Step, Enable, Disable, Append, Tick, Pump, moment_of}
use Rattle.session_model.specs.Sets.{metas_at, meta_in, AreRowsOf}
use Rattle.session_model.specs.Deeds.{Deed, RefreshedBelow, RefreshedSet, CameTo, TookTurn, RenewedKeys, deeds, component_at, group_past, group_indexes, has_turn, is_writer_below, is_writer_of, refreshed_where, sender_after, tick_deeds, turn_input, turn_of, works, writer_indexes}
use Rattle.writer_group.specs.Parts.{group_at, no_group}
use Rattle.session_model.specs.Keeping.{AreStepsOf, IsPlan, MayGrow}
use Rattle.session_model.specs.Lives.{Lived, Stepped, Renewed, TurnsHoldIn, account_in, steps_in}
use Rattle.session_model.specs.Turns.{HoldsIfTurned, HoldsTurn, TurnsHold, deeds_till}
use Rattle.session_model.proofs.Deeds.{TickKeeps, refreshed-keeps, tick-keeps}
use Rattle.session_laws.specs.Renewals.{HasShortTokens}
use Rattle.session_laws.proofs.Versions.Distinct.{at-contains}
use Rattle.session_laws.proofs.Versions.Living.{writer-in}
use Rattle.session_laws.proofs.Versions.Metas.{meta-other, grown-is}
use Rattle.session_laws.proofs.Versions.Rowing.{WordLaws, fit-at, meta-there, took-sampled}
use Rattle.session_laws.proofs.Versions.Giving.{AllGiving, giving-below, giving-came, giving-open, giving-renewed, giving-set, giving-turn, giving-use}
use Rattle.session_laws.proofs.Versions.LifeTicks.{next-till}
use Rattle.session_laws.proofs.Versions.Senders.{group-keyed}

-- the laws of turns, as `writer_group` has them
pub record TurnsLaws : Type 0 where
  pub written : (config : Config) (part : GroupPart) (past : List GroupDeed) (input : TurnInput) → Rattle.ps_config.specs.Sound.IsSound config → Contains config.group part → HasHeaderTypes config part → IfSome input.sender CanGiveFronts
      → Rattle.writer_group.specs.Sealing.AreWritten (Rattle.writer_group.specs.Turns.envelope_of config part past) input.sender 0 (Rattle.writer_group.specs.Payloads.payloads_of config part (Rattle.writer_group.specs.Turns.frames_in part past input))
  pub answer : (config : Config) (part : GroupPart) (past : List GroupDeed) (input : TurnInput) (writer : ℕ) → (meta_at part input.told.metas writer).major < 2 ^ 32 → (meta_at part input.told.metas writer).minor < 2 ^ 32
      → HasRowsOf (meta_at part input.told.metas writer) (with_turn (turn_by part input writer) (writer_past writer past)) → IsFrameIf (writer_at part writer) (meta_at part input.told.metas writer) (answer_by part past input writer)
  pub few : (config : Config) (part : GroupPart) (past : List GroupDeed) (input : TurnInput) → IsFitFor config part input.told.metas → length input.on ≤ length part.writer
      → ((writer : ℕ) → writer < length part.writer → IsFrameIf (writer_at part writer) (meta_at part input.told.metas writer) (answer_by part past input writer))
      → length (Rattle.writer_group.specs.Turns.turn_datagrams config part past input) ≤ 1024

-- ---- rows of one meta from one refresh to the next

-- the writer's rows since its last refresh are of this meta
HasPast : MetaData → ℕ → List GroupDeed → Type 0
HasPast meta w past = HasRowsOf meta (writer_past w past)

past-open : (meta : MetaData) (w : ℕ) → HasPast meta w []
unfolding HasPast
past-open meta w = tt

past-rows : (meta : MetaData) (w : ℕ) (past : List GroupDeed) → HasPast meta w past → HasRowsOf meta (writer_past w past)
unfolding HasPast
past-rows meta w past h = h

refreshed-rows : (meta : MetaData) (b : Bool) (past : List WriterDeed) → HasRowsOf meta past → HasRowsOf meta (cons_option (if b then Some Refreshed else None) past)
refreshed-rows meta true past h = (meta, h)
refreshed-rows meta false past h = h

past-fresh : (meta : MetaData) (w writer : ℕ) (past : List GroupDeed) → HasPast meta w past → HasPast meta w (RefreshedWriter writer ∷ past)
unfolding HasPast
past-fresh meta w writer past h = refreshed-rows meta (writer == w) (writer_past w past) h

past-where : (meta : MetaData) (w : ℕ) (test : ℕ → Bool) (past : List GroupDeed) (writers : List ℕ) → HasPast meta w past → HasPast meta w (refreshed_where test past writers)
past-where meta w test past writers h = refreshed-keeps (HasPast meta w) (λ writer past h. past-fresh meta w writer past h) test past writers h

turned-rows : (meta : MetaData) (o : Option WriterTurn) (past : List WriterDeed) → ((t : WriterTurn) → o ≡ Some t → IsRow meta t.row) → HasRowsOf meta past → HasRowsOf meta (cons_option (option_map HadTurn o) past)
turned-rows meta None past is h = h
turned-rows meta (Some t) past is h = (is t refl, h)

past-turn : (meta : MetaData) (w : ℕ) (turn : GroupTurn) (past : List GroupDeed) → ((t : WriterTurn) → took_by w turn ≡ Some t → IsRow meta t.row) → HasPast meta w past → HasPast meta w (HadGroupTurn turn ∷ past)
unfolding HasPast
past-turn meta w turn past is h = turned-rows meta (took_by w turn) (writer_past w past) is h

-- a writer that is refreshed may go on with any meta
AnyPast : ℕ → List GroupDeed → Type 0
AnyPast w past = (meta : MetaData) → HasPast meta w past

any-use : (meta : MetaData) (w : ℕ) (past : List GroupDeed) → AnyPast w past → HasPast meta w past
unfolding AnyPast
any-use meta w past h = h meta

any-kept : (w writer : ℕ) (past : List GroupDeed) → AnyPast w past → AnyPast w (RefreshedWriter writer ∷ past)
unfolding AnyPast
any-kept w writer past h = λ meta. past-fresh meta w writer past (h meta)

any-now : (meta : MetaData) (w : ℕ) (b c : Bool) (past : List GroupDeed) → b ≡ true → (w == w) ≡ c → HasPast meta w past → AnyPast w (cons_if b (RefreshedWriter w) past)
unfolding AnyPast HasPast
any-now meta w true true past e f h = λ m. subst (λ (x : Bool). HasRowsOf m (cons_option (if x then Some Refreshed else None) (writer_past w past))) (sym f) (meta, h)
any-now meta w true false past e f h = absurd (let wrong : (w == w) ≡ true = grind (arith, nat_tests) in let no_way : false ≡ true = sym f ∙ wrong in cc)
any-now meta w false c past e f h = absurd (cc)

past-cons : (meta : MetaData) (w writer : ℕ) (b : Bool) (past : List GroupDeed) → HasPast meta w past → HasPast meta w (cons_if b (RefreshedWriter writer) past)
past-cons meta w writer true past h = past-fresh meta w writer past h
past-cons meta w writer false past h = h

any-past : (meta : MetaData) (w : ℕ) (test : ℕ → Bool) (past : List GroupDeed) (writers : List ℕ) → test w ≡ true → Contains writers w → HasPast meta w past → AnyPast w (refreshed_where test past writers)
any-past meta w test past [] e has h = absurd (let below = has.1 in omega (arith, below))
any-past meta w test past (v ∷ writers) e (zero, below, same) h =
    refreshed-keeps (AnyPast w) (λ writer past h. any-kept w writer past h) test (cons_if (test v) (RefreshedWriter v) past) writers
    (subst (λ (n : ℕ). AnyPast w (cons_if (test n) (RefreshedWriter n) past)) (sym same) (any-now meta w (test w) (w == w) past e refl h))
any-past meta w test past (v ∷ writers) e (suc k, below, same) h =
    any-past meta w test (cons_if (test v) (RefreshedWriter v) past) writers e (k, omega (arith, below), same) (past-cons meta w v (test v) past h)

-- ---- of all writers

AllPasts : Config → List MetaData → List Deed → Type 0
AllPasts config metas deeds = (g w : ℕ) → g < length config.group → w < length (group_at config g).writer → HasPast (meta_at (group_at config g) metas w) w (group_past config g deeds)

pasts-use : (config : Config) (metas : List MetaData) (deeds : List Deed) (g w : ℕ) → AllPasts config metas deeds → g < length config.group → w < length (group_at config g).writer
    → HasPast (meta_at (group_at config g) metas w) w (group_past config g deeds)
unfolding AllPasts
pasts-use config metas deeds g w h there within = h g w there within

pasts-open : (config : Config) (metas : List MetaData) → AllPasts config metas []
unfolding AllPasts
pasts-open config metas = λ g w there within. past-open (meta_at (group_at config g) metas w) w

pasts-below : (config : Config) (metas : List MetaData) (component : Rattle.pubsub_states.specs.declared.component.Component.Component) (earlier : List Deed) → AllPasts config metas earlier → AllPasts config metas (RefreshedBelow component ∷ earlier)
unfolding AllPasts
pasts-below config metas component earlier h = λ g w there within.
    past-where (meta_at (group_at config g) metas w) w (is_writer_below component g) (group_past config g earlier) (writer_indexes (group_at config g)) (h g w there within)

pasts-came : (config : Config) (metas : List MetaData) (now : ℕ) (earlier : List Deed) → AllPasts config metas earlier → AllPasts config metas (CameTo now ∷ earlier)
unfolding AllPasts
pasts-came config metas now earlier h = h

past-other : (config : Config) (metas : List MetaData) (g other w : ℕ) (turn : GroupTurn) (earlier : List Deed) (b : Bool) → (other == g) ≡ b
    → ((t : WriterTurn) → other ≡ g → took_by w turn ≡ Some t → IsRow (meta_at (group_at config g) metas w) t.row)
    → HasPast (meta_at (group_at config g) metas w) w (group_past config g earlier) → HasPast (meta_at (group_at config g) metas w) w (cons_if b (HadGroupTurn turn) (group_past config g earlier))
past-other config metas g other w turn earlier false e is h = h
past-other config metas g other w turn earlier true e is h =
    let same : other ≡ g = grind (arith, nat_tests) in
    past-turn (meta_at (group_at config g) metas w) w turn (group_past config g earlier) (λ t took. is t same took) h

pasts-turn : (config : Config) (metas : List MetaData) (other : ℕ) (turn : GroupTurn) (earlier : List Deed)
    → ((w : ℕ) → w < length (group_at config other).writer → (t : WriterTurn) → took_by w turn ≡ Some t → IsRow (meta_at (group_at config other) metas w) t.row)
    → AllPasts config metas earlier → AllPasts config metas (TookTurn other turn ∷ earlier)
unfolding AllPasts
pasts-turn config metas other turn earlier is h = λ g w there within.
    past-other config metas g other w turn earlier (other == g) refl
    (λ t same took. subst (λ (n : ℕ). w < length (group_at config n).writer → IsRow (meta_at (group_at config n) metas w) t.row) same (λ inside. is w inside t took) within)
    (h g w there within)

pasts-renewed : (config : Config) (metas : List MetaData) (keygroup : ℕ) (sets : List KeySet) (earlier : List Deed) → AllPasts config metas earlier → AllPasts config metas (RenewedKeys keygroup sets ∷ earlier)
unfolding AllPasts
pasts-renewed config metas keygroup sets earlier h = h

-- a field more
past-grown : (config : Config) (metas : List MetaData) (g w index : ℕ) (new : MetaData) (past : List GroupDeed) (b : Bool) → ((writer_at (group_at config g) w).dataset == index) ≡ b → w < length (group_at config g).writer
    → HasPast (meta_at (group_at config g) metas w) w past
    → HasPast (meta_at (group_at config g) (set metas index new) w) w (refreshed_where (is_writer_of (group_at config g) index) past (writer_indexes (group_at config g)))
past-grown config metas g w index new past true e within h =
    any-use (meta_at (group_at config g) (set metas index new) w) w (refreshed_where (is_writer_of (group_at config g) index) past (writer_indexes (group_at config g)))
    (any-past (meta_at (group_at config g) metas w) w (is_writer_of (group_at config g) index) past (writer_indexes (group_at config g)) e (writer-in (length (group_at config g).writer) w within) h)
past-grown config metas g w index new past false e within h =
    let differ : (writer_at (group_at config g) w).dataset ≢ index = grind (arith, nat_tests) in
    subst (λ (m : MetaData). HasPast m w (refreshed_where (is_writer_of (group_at config g) index) past (writer_indexes (group_at config g)))) (sym (meta-other (group_at config g) w metas index new differ))
    (past-where (meta_at (group_at config g) metas w) w (is_writer_of (group_at config g) index) past (writer_indexes (group_at config g)) h)

pasts-grown : (config : Config) (metas : List MetaData) (index : ℕ) (new : MetaData) (earlier : List Deed) → AllPasts config metas earlier → AllPasts config (set metas index new) (RefreshedSet index ∷ earlier)
unfolding AllPasts
pasts-grown config metas index new earlier h = λ g w there within.
    past-grown config metas g w index new (group_past config g earlier) ((writer_at (group_at config g) w).dataset == index) refl within (h g w there within)

-- ---- versions have 32 bits

record IsNarrow (meta : MetaData) : Type 0 where
  pub major : meta.major < 2 ^ 32
  pub minor : meta.minor < 2 ^ 32

narrow-set : (metas : List MetaData) (index : ℕ) (new : MetaData) → index < length metas → IsNarrow new → ((k : ℕ) → IsNarrow (meta_in metas k)) → (k : ℕ) → IsNarrow (meta_in (set metas index new) k)
narrow-set metas index new there is all k = on (k == index) refl
  where
    on : (b : Bool) → (k == index) ≡ b → IsNarrow (meta_in (set metas index new) k)
    on true e =
        let same : k ≡ index = grind (arith, nat_tests) in
        subst IsNarrow (sym (ap (λ (n : ℕ). get_or (set metas index new) n no_meta) same ∙ get_or-set_same metas index new no_meta there)) is
    on false e =
        let differ : k ≢ index = grind (arith, nat_tests) in
        subst IsNarrow (sym (get_or-set_other metas index k new no_meta differ)) (all k)

narrow-at : (limit : ℕ) (p : Plan) (steps : List Step) → IsPlan p → AreStepsOf limit p steps → (k : ℕ) → IsNarrow (meta_in (metas_at p.config steps) k)
narrow-at limit p [] plan are k = on (cases_lt k (length p.config.dataset))
  where
    on : (k < length p.config.dataset) ⊎ (length p.config.dataset ≤ k) → IsNarrow (meta_in p.config.dataset k)
    on (inl less) = let is = plan.types.metas k no_meta less in record { major = is.major; minor = is.minor }
    on (inr past) = subst IsNarrow (sym (get_or_past p.config.dataset k no_meta past)) (record { major = omega arith; minor = omega arith })
narrow-at limit p (Enable id ∷ before) plan are k = narrow-at limit p before plan are.1 k
narrow-at limit p (Disable id ∷ before) plan are k = narrow-at limit p before plan are.1 k
narrow-at limit p (Append index field ∷ before) plan are k =
    let metas = metas_at p.config before in
    let new = grown (meta_in metas index) field in
    let grown_is = grown-is metas index field are.0.may.there in
    let own : meta_in (metas_at p.config (Append index field ∷ before)) index ≡ new = ap (λ (l : List MetaData). meta_in l index) grown_is ∙ get_or-set_same metas index new no_meta are.0.may.there in
    let minor : new.minor < 2 ^ 32 = subst (λ (m : MetaData). m.minor < 2 ^ 32) own are.0.may.minor in
    let major : new.major < 2 ^ 32 = (narrow-at limit p before plan are.1 index).major in
    subst (λ (l : List MetaData). IsNarrow (meta_in l k)) (sym grown_is) (narrow-set metas index new are.0.may.there (record { major = major; minor = minor }) (λ n. narrow-at limit p before plan are.1 n) k)
narrow-at limit p (Tick ms closing samples done ∷ before) plan are k = narrow-at limit p before plan are.1 k
narrow-at limit p (Pump entries ∷ before) plan are k = narrow-at limit p before plan are.1 k

-- ---- a sender can give fronts

may-give : (p : Plan) (earlier : List Deed) (o : Option ℕ) (b : Bool) → IsKeyed p.config b o → AllGiving p.config earlier → IfSome (option_map (λ k. sender_after p.config k earlier) o) CanGiveFronts
may-give p earlier None b keyed h = tt
may-give p earlier (Some k) b keyed h = giving-use p.config earlier k h keyed.there

-- ---- a turn holds

module _ (limit : ℕ) (laws : TurnsLaws) (words : WordLaws) (p : Plan) (plan : IsPlan p) (before : List Step) (are : AreStepsOf limit p before) (now : ℕ) (closing : Bool) (samples : List Sampled) (rows : AreRowsOf p.full samples) (done : List Deed) where
  abbrev Kept : List Deed → Type 0
  Kept earlier = AllGiving p.config earlier × AllPasts p.config (metas_at p.config before) earlier

  row-of : (earlier : List Deed) (g w : ℕ) → g < length p.config.group → w < length (group_at p.config g).writer → (t : WriterTurn) → took_by w (turn_of p before now closing samples earlier g) ≡ Some t
      → IsRow (meta_at (group_at p.config g) (metas_at p.config before) w) t.row
  row-of earlier g w there within t took = (took-sampled limit words p before now closing samples earlier g w t plan are rows there within took).fits

  on-many : (earlier : List Deed) (g : ℕ) → length (turn_input p before now closing samples earlier g).on ≡ length (group_at p.config g).writer
  on-many earlier g = length-map-range_with_len (λ w. works p.config before earlier (Writer g w)) 0 (length (group_at p.config g).writer)

  turn-rows : (earlier : List Deed) (g w : ℕ) (o : Option WriterTurn) → ((t : WriterTurn) → o ≡ Some t → IsRow (meta_at (group_at p.config g) (metas_at p.config before) w) t.row)
      → HasRowsOf (meta_at (group_at p.config g) (metas_at p.config before) w) (writer_past w (group_past p.config g earlier))
      → HasRowsOf (meta_at (group_at p.config g) (metas_at p.config before) w) (with_turn o (writer_past w (group_past p.config g earlier)))
  turn-rows earlier g w None is h = h
  turn-rows earlier g w (Some t) is h = (is t refl, h)

  answers-are : (earlier : List Deed) (g : ℕ) → g < length p.config.group → Kept earlier → (writer : ℕ)
      → IsFrameIf (writer_at (group_at p.config g) writer) (meta_at (group_at p.config g) (metas_at p.config before) writer)
      (answer_by (group_at p.config g) (group_past p.config g earlier) (turn_input p before now closing samples earlier g) writer)
  answers-are earlier g there kept writer = on (cases_lt writer (length (group_at p.config g).writer))
    where
      group : GroupPart
      group = group_at p.config g

      on : (writer < length (group_at p.config g).writer) ⊎ (length (group_at p.config g).writer ≤ writer)
          → IsFrameIf (writer_at (group_at p.config g) writer) (meta_at (group_at p.config g) (metas_at p.config before) writer)
          (answer_by (group_at p.config g) (group_past p.config g earlier) (turn_input p before now closing samples earlier g) writer)
      on (inl within) =
          let narrow = narrow-at limit p before plan are (writer_at (group_at p.config g) writer).dataset in
          laws.answer p.config (group_at p.config g) (group_past p.config g earlier) (turn_input p before now closing samples earlier g) writer narrow.major narrow.minor
          (turn-rows earlier g writer (turn_by (group_at p.config g) (turn_input p before now closing samples earlier g) writer) (λ t took. row-of earlier g writer there within t took)
          (past-rows (meta_at (group_at p.config g) (metas_at p.config before) writer) writer (group_past p.config g earlier) (pasts-use p.config (metas_at p.config before) earlier g writer kept.1 there within)))
      on (inr past) =
          let input = turn_input p before now closing samples earlier g in
          let many = length-turns (group_at p.config g) input.told 0 input.on in
          let all = on-many earlier g in
          let none : turn_by (group_at p.config g) input writer ≡ None = get_or_past (turns_from (group_at p.config g) input.told 0 input.on) writer None (omega (arith, past, many, all)) in
          subst (λ (o : Option WriterTurn). IsFrameIf (writer_at (group_at p.config g) writer) (meta_at (group_at p.config g) (metas_at p.config before) writer) (answer_to (group_at p.config g) (group_past p.config g earlier) writer o)) (sym none) tt

  turn-holds : (earlier : List Deed) (g : ℕ) → g < length p.config.group → Kept earlier
      → HoldsTurn p.config (group_at p.config g) (group_past p.config g earlier) (turn_input p before now closing samples earlier g)
  turn-holds earlier g there kept =
      let group = group_at p.config g in
      let at = slice_get-get_or p.config.group g no_group there in
      let input = turn_input p before now closing samples earlier g in
      let past = group_past p.config g earlier in
      let types = plan.types.groups g no_group there in
      let fit = fit-at limit p before plan are in
      let answers = answers-are earlier g there kept in
      let all = on-many earlier g in
      record {
        written = laws.written p.config group past input plan.good.sound (at-contains p.config g group at)
            (record { publisher = plan.types.publisher; version = types.version; class_id = types.class_id })
            (may-give p earlier group.keygroup (is_secured group.security) (group-keyed p.config g plan.good.sound there) kept.0);
        answers = answers;
        few = laws.few p.config group past input
            (record {
              room = fit.room g no_group there;
              metas_are = fit.each;
              known = λ k d below. subst (λ (w : Rattle.ps_config.specs.declared.parts.WriterPart.WriterPart). w.dataset < length (metas_at p.config before)) (Rattle.std.proofs.lemmas.List.get_or_default group.writer k Rattle.writer_group.specs.Payloads.no_writer d below)
                  (meta-there limit words p before plan are g group at k below);
            })
            (omega (arith, all)) (λ writer within. answers writer);
      }

  kept-tick : TickKeeps p before now closing samples Kept
  kept-tick = record {
    came = λ earlier h. (giving-came p.config now earlier h.0, pasts-came p.config (metas_at p.config before) now earlier h.1);
    fresh = λ g earlier h. (giving-below p.config (Group g) earlier h.0, pasts-below p.config (metas_at p.config before) (Group g) earlier h.1);
    turn = λ g earlier there has h. (
      giving-turn p.config g (turn_of p before now closing samples earlier g) earlier h.0,
      pasts-turn p.config (metas_at p.config before) g (turn_of p before now closing samples earlier g) earlier (λ w within t took. row-of earlier g w there within t took) h.1,
    );
  }

  kept-if : (earlier : List Deed) (g : ℕ) (b : Bool) → has_turn p before now closing earlier g ≡ b → g < length p.config.group → Kept earlier → Kept (cons_if b (TookTurn g (turn_of p before now closing samples earlier g)) earlier)
  kept-if earlier g true has there h = kept-tick.turn g earlier there has h
  kept-if earlier g false has there h = h

  fresh-if : (g : ℕ) (b : Bool) (earlier : List Deed) → Kept earlier → Kept (cons_if b (RefreshedBelow (Group g)) earlier)
  fresh-if g true earlier h = kept-tick.fresh g earlier h
  fresh-if g false earlier h = h

  kept-fresh : (gs : List ℕ) (earlier : List Deed) → Kept earlier → Kept (fold (λ so_far g. cons_if (Rattle.session_model.specs.Deeds.is_rekeyed p.config now done g) (RefreshedBelow (Group g)) so_far) earlier gs)
  kept-fresh [] earlier h = h
  kept-fresh (g ∷ gs) earlier h = kept-fresh gs (cons_if (Rattle.session_model.specs.Deeds.is_rekeyed p.config now done g) (RefreshedBelow (Group g)) earlier) (fresh-if g (Rattle.session_model.specs.Deeds.is_rekeyed p.config now done g) earlier h)

  kept-to : (g : ℕ) → g ≤ length p.config.group → Kept done → Kept (deeds_till p before now closing samples done g)
  kept-to zero le h = kept-fresh (group_indexes p.config) (CameTo now ∷ done) (kept-tick.came done h)
  kept-to (suc g) le h =
      let earlier = deeds_till p before now closing samples done g in
      subst Kept (sym (next-till p before now closing samples done g)) (kept-if earlier g (has_turn p before now closing earlier g) refl (omega (arith, le)) (kept-to g (omega (arith, le)) h))

  tick-turns : Kept done → (g : ℕ) → g < length p.config.group → HoldsIfTurned p before now closing samples (deeds_till p before now closing samples done g) g
  tick-turns h g there has = turn-holds (deeds_till p before now closing samples done g) g there (kept-to g (omega (arith, there)) h)

  tick-kept : Kept done → Kept (tick_deeds p before now closing samples done)
  tick-kept h = tick-keeps p before now closing samples done Kept kept-tick h

-- ---- over all steps

-- the senders can give fronts, and the pasts have their rows, behind these steps and deeds
abbrev AllKept : Plan → List Step → List Deed → Type 0
AllKept p steps deeds = AllGiving p.config deeds × AllPasts p.config (metas_at p.config steps) deeds

kept-open : (p : Plan) → IsPlan p → AllKept p [] []
kept-open p plan = (giving-open p.config plan.types, pasts-open p.config p.config.dataset)

kept-below : (p : Plan) (before : List Step) (id : ℕ) (done : List Deed) → AllKept p before done → AllKept p (Enable id ∷ before) (RefreshedBelow (component_at p.config id) ∷ done)
kept-below p before id done h = (giving-below p.config (component_at p.config id) done h.0, pasts-below p.config (metas_at p.config before) (component_at p.config id) done h.1)

kept-set : (p : Plan) (before : List Step) (index : ℕ) (field : Rattle.dataset_meta.specs.declared.field.Field.Field) (done : List Deed) → MayGrow p before index field → AllKept p before done
    → AllKept p (Append index field ∷ before) (RefreshedSet index ∷ done)
kept-set p before index field done may h =
    let metas = metas_at p.config before in (
      giving-set p.config index done h.0,
      subst (λ (l : List MetaData). AllPasts p.config l (RefreshedSet index ∷ done)) (sym (grown-is metas index field may.may.there)) (pasts-grown p.config metas index (grown (meta_in metas index) field) done h.1),
    )

all-kept : (limit : ℕ) (laws : TurnsLaws) (words : WordLaws) (p : Plan) (steps : List Step) → IsPlan p → AreStepsOf limit p steps → AllKept p steps (deeds p steps)
all-kept limit laws words p [] plan are = kept-open p plan
all-kept limit laws words p (Enable id ∷ before) plan are = kept-below p before id (deeds p before) (all-kept limit laws words p before plan are.1)
all-kept limit laws words p (Disable id ∷ before) plan are = all-kept limit laws words p before plan are.1
all-kept limit laws words p (Append index field ∷ before) plan are = kept-set p before index field (deeds p before) are.0 (all-kept limit laws words p before plan are.1)
all-kept limit laws words p (Tick ms closing samples done ∷ before) plan are =
    tick-kept limit laws words p plan before are.1 (moment_of before + ms) closing samples are.0.rows (deeds p before) (all-kept limit laws words p before plan are.1)
all-kept limit laws words p (Pump entries ∷ before) plan are = all-kept limit laws words p before plan are.1

pub turns-hold : (limit : ℕ) (laws : TurnsLaws) (words : WordLaws) (p : Plan) (steps : List Step) → IsPlan p → AreStepsOf limit p steps → TurnsHold p steps
turns-hold limit laws words p [] plan are = tt
turns-hold limit laws words p (Enable id ∷ before) plan are = turns-hold limit laws words p before plan are.1
turns-hold limit laws words p (Disable id ∷ before) plan are = turns-hold limit laws words p before plan are.1
turns-hold limit laws words p (Append index field ∷ before) plan are = turns-hold limit laws words p before plan are.1
turns-hold limit laws words p (Tick ms closing samples done ∷ before) plan are =
    (tick-turns limit laws words p plan before are.1 (moment_of before + ms) closing samples are.0.rows (deeds p before) (all-kept limit laws words p before plan are.1), turns-hold limit laws words p before plan are.1)
turns-hold limit laws words p (Pump entries ∷ before) plan are = turns-hold limit laws words p before plan are.1

-- ---- over a life

life-kept : (limit : ℕ) (laws : TurnsLaws) (words : WordLaws) (p : Plan) (life : List Lived) → IsPlan p → AreStepsOf limit p (steps_in life) → HasShortTokens life → AllKept p (steps_in life) (account_in p life).deeds
life-kept limit laws words p [] plan are short = kept-open p plan
life-kept limit laws words p (Stepped (Enable id) ∷ before) plan are short = kept-below p (steps_in before) id (account_in p before).deeds (life-kept limit laws words p before plan are.1 short)
life-kept limit laws words p (Stepped (Disable id) ∷ before) plan are short = life-kept limit laws words p before plan are.1 short
life-kept limit laws words p (Stepped (Append index field) ∷ before) plan are short =
    kept-set p (steps_in before) index field (account_in p before).deeds are.0 (life-kept limit laws words p before plan are.1 short)
life-kept limit laws words p (Stepped (Tick ms closing samples done) ∷ before) plan are short =
    let steps = steps_in before in
    tick-kept limit laws words p plan steps are.1 (moment_of steps + ms) closing samples are.0.rows (account_in p before).deeds (life-kept limit laws words p before plan are.1 short)
life-kept limit laws words p (Stepped (Pump entries) ∷ before) plan are short = life-kept limit laws words p before plan are.1 short
life-kept limit laws words p (Renewed keygroup sets ∷ before) plan are short =
    let done = (account_in p before).deeds in
    let h = life-kept limit laws words p before plan are short.1 in
    (giving-renewed p.config keygroup sets done short.0 h.0, pasts-renewed p.config (metas_at p.config (steps_in before)) keygroup sets done h.1)

pub life-holds : (limit : ℕ) (laws : TurnsLaws) (words : WordLaws) (p : Plan) (life : List Lived) → IsPlan p → AreStepsOf limit p (steps_in life) → HasShortTokens life → TurnsHoldIn p life
life-holds limit laws words p [] plan are short = tt
life-holds limit laws words p (Stepped (Enable id) ∷ before) plan are short = (tt, life-holds limit laws words p before plan are.1 short)
life-holds limit laws words p (Stepped (Disable id) ∷ before) plan are short = (tt, life-holds limit laws words p before plan are.1 short)
life-holds limit laws words p (Stepped (Append index field) ∷ before) plan are short = (tt, life-holds limit laws words p before plan are.1 short)
life-holds limit laws words p (Stepped (Tick ms closing samples done) ∷ before) plan are short =
    let steps = steps_in before in (
      tick-turns limit laws words p plan steps are.1 (moment_of steps + ms) closing samples are.0.rows (account_in p before).deeds (life-kept limit laws words p before plan are.1 short),
      life-holds limit laws words p before plan are.1 short,
    )
life-holds limit laws words p (Stepped (Pump entries) ∷ before) plan are short = (tt, life-holds limit laws words p before plan are.1 short)
life-holds limit laws words p (Renewed keygroup sets ∷ before) plan are short = life-holds limit laws words p before plan are short.1
