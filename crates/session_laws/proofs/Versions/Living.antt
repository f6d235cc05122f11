-- What each group of a session lived through: turns by the definitions, with rows of one meta from one refresh to the next, of versions that were sampled and never fall.
use Rattle.std.proofs.Common.{◌≡◌, ◌≢◌, refl, sym, ap, ◌∙◌, subst, arith, ℕ, zero, suc, ◌+◌, ◌<◌, ◌≤◌, Bool, true, false, List, [], ◌∷◌, length, Option, Some, None, inl, inr, All, Contains}
use Rattle.std.specs.Prelude.{◌⊎◌, ◌==◌, slice_index_or, option_map, if◌then◌else◌}
use Rattle.std.specs.List.{range_with_len, cons_option}
use Rattle.std.proofs.lemmas.Bool.Decides.{nat_tests}
use Rattle.std.proofs.lemmas.List.{take-take, length-take}
use Rattle.std.proofs.lemmas.List.Elements.{All-nil, All-cons}
use Rattle.std.proofs.lemmas.List.FromFn.{length-range_with_len, get_or-range_with_len}
use Rattle.std.proofs.lemmas.Option.{slice_get-get_or}
use Rattle.dataset_meta.specs.declared.field.Field.{Field}
use Rattle.dataset_meta.specs.Metas.{MetaData, HasGrown}
use Rattle.dataset_meta.specs.Rows.{IsRow, row_cut, cons_if}
use Rattle.row_words.specs.Belonging.{row_in}
use Rattle.pubsub_model.specs.Cadence.{WriterTurn, WriterDeed, Refreshed, HadTurn, HasRowsOf}
use Rattle.pubsub_states.specs.declared.component.Component.TheVariants.{Group}
use Rattle.dataset_meta.specs.Metas.{grown}
use Rattle.writer_group.specs.declared.sampled.Sampled.{Sampled}
use Rattle.writer_group.specs.Payloads.{meta_at, writer_at}
use Rattle.writer_group.specs.Turns.{GroupDeed, RefreshedWriter, HadGroupTurn, no_sample, took_by, writer_past}
use Rattle.group_laws.specs.Matching.{HasGrownSince}
use Rattle.session_model.specs.Steps.{Plan, Step, Enable, Disable, Append, Tick, Pump, moment_of}
use Rattle.session_model.specs.Sets.{metas_at, meta_in, AreRowsOf}
use Rattle.session_model.specs.Deeds.{Deed, deeds, component_at, group_past, refreshed_where, is_writer_below, is_writer_of, tick_deeds, writer_indexes, turn_input, turn_of}
use Rattle.writer_group.specs.Parts.{group_at, no_group}
use Rattle.session_model.specs.Keeping.{AreStepsOf, IsPlan}
use Rattle.pubsub_model.specs.Answers.{turn_versions, NeverFall}
use Rattle.session_laws.specs.Pasts.{AreTurns}
use Rattle.session_laws.specs.Sessions.{HasSample, SamplesRise, pasts_at}
use Rattle.session_model.specs.Turns.{TurnsHold}
use Rattle.session_model.proofs.Deeds.{HoldsTick, TickKeeps, refreshed-keeps, tick-keeps}
use Rattle.session_laws.proofs.Versions.Senders.{RingLaw, SendHolds, TurnHolds, send-holds}
use Rattle.session_laws.proofs.Versions.Metas.{meta-of, grown-is, meta-other}
use Rattle.session_laws.proofs.Versions.Rowing.{WordLaws, took-sampled, turn-is}

-- ---- the turns of a writer

-- a turn has the version of a sample, and its row is that of the sample, in the first fields
pub record IsVersionTurn (p : Plan) (S : ℕ → MetaData → Sampled → Type 0) (conf : MetaData) (index : ℕ) (turn : WriterTurn) : Type 0 where
  pub sample : Sampled
  pub now : MetaData
  pub sampled : S index now sample
  pub version : turn.version ≡ sample.version
  pub fields : IsRow now turn.row
  pub had : turn.row ≡ row_cut now (row_in (meta_in p.full index).fields sample.row.words)
  pub row : row_cut conf turn.row ≡ row_cut conf (row_in (meta_in p.full index).fields sample.row.words)

abbrev pub TurnsAre : (WriterTurn → Type 0) → List WriterDeed → Type 0
TurnsAre P [] = Unit {0}
TurnsAre P (Refreshed ∷ before) = TurnsAre P before
TurnsAre P (HadTurn turn ∷ before) = P turn × TurnsAre P before

pub turns-more : (P Q : WriterTurn → Type 0) → ((turn : WriterTurn) → P turn → Q turn) → (deeds : List WriterDeed) → TurnsAre P deeds → TurnsAre Q deeds
turns-more P Q more [] h = tt
turns-more P Q more (Refreshed ∷ before) h = turns-more P Q more before h
turns-more P Q more (HadTurn turn ∷ before) h = (more turn h.0, turns-more P Q more before h.1)

-- ---- what a writer lived through

pub record IsLife (p : Plan) (S : ℕ → MetaData → Sampled → Type 0) (now conf : MetaData) (index : ℕ) (past : List WriterDeed) : Type 0 where
  pub rows : HasRowsOf now past
  pub turns : TurnsAre (IsVersionTurn p S conf index) past
  pub never : NeverFall (turn_versions past)

life-refreshed : (p : Plan) (S : ℕ → MetaData → Sampled → Type 0) (now new conf : MetaData) (index : ℕ) (past : List WriterDeed) → IsLife p S now conf index past → IsLife p S new conf index (Refreshed ∷ past)
life-refreshed p S now new conf index past h = record { rows = (now, h.rows); turns = h.turns; never = h.never }

life-if : (p : Plan) (S : ℕ → MetaData → Sampled → Type 0) (now conf : MetaData) (index : ℕ) (b : Bool) (past : List WriterDeed) → IsLife p S now conf index past → IsLife p S now conf index (cons_option (if b then Some Refreshed else None) past)
life-if p S now conf index true past h = life-refreshed p S now now conf index past h
life-if p S now conf index false past h = h

versions-below : (p : Plan) (S : ℕ → MetaData → Sampled → Type 0) (conf : MetaData) (index most : ℕ) (past : List WriterDeed) → ((now : MetaData) (sample : Sampled) → S index now sample → sample.version ≤ most) → TurnsAre (IsVersionTurn p S conf index) past
    → All (λ earlier. earlier ≤ most) (turn_versions past)
versions-below p S conf index most [] below h = All-nil (λ earlier. earlier ≤ most)
versions-below p S conf index most (Refreshed ∷ before) below h = versions-below p S conf index most before below h
versions-below p S conf index most (HadTurn turn ∷ before) below h =
    All-cons (λ earlier. earlier ≤ most) turn.version (turn_versions before) (let e = h.0.version in let le = below h.0.now h.0.sample h.0.sampled in omega (arith, e, le)) (versions-below p S conf index most before below h.1)

-- a turn more
life-turn : (p : Plan) (S : ℕ → MetaData → Sampled → Type 0) (now conf : MetaData) (index : ℕ) (turn : Option WriterTurn) (past : List WriterDeed) → ((t : WriterTurn) → turn ≡ Some t → IsRow now t.row × IsVersionTurn p S conf index t × ((at : MetaData) (sample : Sampled) → S index at sample → sample.version ≤ t.version))
    → IsLife p S now conf index past → IsLife p S now conf index (cons_option (option_map HadTurn turn) past)
life-turn p S now conf index None past is h = h
life-turn p S now conf index (Some t) past is h =
    let new = is t refl in
    record { rows = (new.0, h.rows); turns = (new.1, h.turns); never = (versions-below p S conf index t.version past new.2 h.turns, h.never) }

pub life-more : (p : Plan) (S T : ℕ → MetaData → Sampled → Type 0) (now conf : MetaData) (index : ℕ) (past : List WriterDeed) → ((at : MetaData) (sample : Sampled) → S index at sample → T index at sample) → IsLife p S now conf index past → IsLife p T now conf index past
life-more p S T now conf index past more h = record {
  rows = h.rows;
  turns = turns-more (IsVersionTurn p S conf index) (IsVersionTurn p T conf index) (λ turn is. record { sample = is.sample; now = is.now; sampled = more is.now is.sample is.sampled; version = is.version; fields = is.fields; had = is.had; row = is.row }) past h.turns;
  never = h.never;
}

-- ---- a group

abbrev pub LifeOf : Plan → (ℕ → MetaData → Sampled → Type 0) → List MetaData → ℕ → ℕ → List GroupDeed → Type 0
LifeOf p S metas g w past =
    IsLife p S (meta_at (group_at p.config g) metas w) (meta_at (group_at p.config g) p.config.dataset w) (writer_at (group_at p.config g) w).dataset (writer_past w past)

-- refreshes among others
pub refreshed-life : (p : Plan) (S : ℕ → MetaData → Sampled → Type 0) (metas : List MetaData) (g w : ℕ) (test : ℕ → Bool) (past : List GroupDeed) (writers : List ℕ) → LifeOf p S metas g w past → LifeOf p S metas g w (refreshed_where test past writers)
refreshed-life p S metas g w test past writers h =
    refreshed-keeps (LifeOf p S metas g w) (λ writer past h. life-if p S _ _ _ (writer == w) (writer_past w past) h) test past writers h

pub record IsPastOf (p : Plan) (S : ℕ → MetaData → Sampled → Type 0) (metas : List MetaData) (g : ℕ) (past : List GroupDeed) : Type 0 where
  pub turns : AreTurns p.config (group_at p.config g) past
  pub lives : (w : ℕ) → w < length (group_at p.config g).writer → LifeOf p S metas g w past

refreshed-one : (p : Plan) (S : ℕ → MetaData → Sampled → Type 0) (metas : List MetaData) (g writer : ℕ) (past : List GroupDeed) → IsPastOf p S metas g past → IsPastOf p S metas g (RefreshedWriter writer ∷ past)
refreshed-one p S metas g writer past h = record {
  turns = h.turns;
  lives = λ w within. life-if p S _ _ _ (writer == w) (writer_past w past) (h.lives w within);
}

refreshed-past : (p : Plan) (S : ℕ → MetaData → Sampled → Type 0) (metas : List MetaData) (g : ℕ) (test : ℕ → Bool) (past : List GroupDeed) (writers : List ℕ) → IsPastOf p S metas g past → IsPastOf p S metas g (refreshed_where test past writers)
refreshed-past p S metas g test past writers h = refreshed-keeps (IsPastOf p S metas g) (λ writer past h. refreshed-one p S metas g writer past h) test past writers h

-- ---- a group's own turn

shorter : (conf now : MetaData) → (conf ≡ now) ⊎ HasGrown conf now → length conf.fields ≤ length now.fields
shorter conf now (inl same) = let e = ap (λ (m : MetaData). length m.fields) same in omega (arith, e)
shorter conf now (inr grown) = let e = ap (λ (l : List Field). length l) grown.fields ∙ length-take (length conf.fields) now.fields in omega (arith, e)

grown-or : (writer : Rattle.ps_config.specs.declared.parts.WriterPart.WriterPart) (conf now : MetaData) → (conf ≡ now) ⊎ HasGrownSince writer conf now → (conf ≡ now) ⊎ HasGrown conf now
grown-or writer conf now (inl same) = inl same
grown-or writer conf now (inr since) = inr since.fields

module _ (limit : ℕ) (laws : WordLaws) (p : Plan) (plan : IsPlan p) (before : List Step) (are : AreStepsOf limit p before) (now : ℕ) (closing : Bool) (samples : List Sampled) (rows : AreRowsOf p.full samples)
    (rise : (index : ℕ) (at : MetaData) (sample : Sampled) → HasSample p before index at sample → sample.version ≤ (slice_index_or samples index no_sample).version) where
  abbrev S : ℕ → MetaData → Sampled → Type 0
  S index at sample = ((slice_index_or samples index no_sample ≡ sample) × (meta_in (metas_at p.config before) index ≡ at)) ⊎ HasSample p before index at sample

  most-of : (index : ℕ) (at : MetaData) (sample : Sampled) → S index at sample → sample.version ≤ (slice_index_or samples index no_sample).version
  most-of index at sample (inl same) = let e = ap (λ (s : Sampled). s.version) same.0 in omega (arith, e)
  most-of index at sample (inr old) = rise index at sample old

  new-turn : (earlier : List Deed) (g w : ℕ) (t : WriterTurn) → g < length p.config.group → w < length (group_at p.config g).writer → took_by w (turn_of p before now closing samples earlier g) ≡ Some t
      → IsRow (meta_at (group_at p.config g) (metas_at p.config before) w) t.row
      × IsVersionTurn p S (meta_at (group_at p.config g) p.config.dataset w) (writer_at (group_at p.config g) w).dataset t
      × ((at : MetaData) (sample : Sampled) → S (writer_at (group_at p.config g) w).dataset at sample → sample.version ≤ t.version)
  new-turn earlier g w t there within e =
      let group = group_at p.config g in
      let index = (writer_at group w).dataset in
      let conf = meta_at group p.config.dataset w in
      let full = meta_at group (metas_at p.config before) w in
      let is = took-sampled limit laws p before now closing samples earlier g w t plan are rows there within e in
      let sample = slice_index_or samples index no_sample in
      let reads = (meta-of limit p g group w before are (slice_get-get_or p.config.group g no_group there) within).reads in
      let le = shorter conf full (grown-or (writer_at group w) conf full reads) in
      let version = is.version in (
        is.fits,
        record {
          sample = sample;
          now = full;
          sampled = inl (refl, refl);
          version = is.version;
          fields = is.fits;
          had = is.row;
          row = ap (row_cut conf) is.row ∙ take-take (length conf.fields) (length full.fields) (row_in (meta_in p.full index).fields sample.row.words) le;
        },
        λ at other has. (let most = most-of index at other has in omega (arith, most, version)),
      )

  own-life : (earlier : List Deed) (g w : ℕ) → g < length p.config.group → w < length (group_at p.config g).writer → LifeOf p S (metas_at p.config before) g w (group_past p.config g earlier)
      → LifeOf p S (metas_at p.config before) g w (HadGroupTurn (turn_of p before now closing samples earlier g) ∷ group_past p.config g earlier)
  own-life earlier g w there within h =
      life-turn p S _ _ _ (took_by w (turn_of p before now closing samples earlier g)) (writer_past w (group_past p.config g earlier)) (λ t e. new-turn earlier g w t there within e) h

  own-turn : (earlier : List Deed) (g : ℕ) → g < length p.config.group → TurnHolds p.config (group_at p.config g) (group_past p.config g earlier) (turn_input p before now closing samples earlier g)
      → IsPastOf p S (metas_at p.config before) g (group_past p.config g earlier) → IsPastOf p S (metas_at p.config before) g (HadGroupTurn (turn_of p before now closing samples earlier g) ∷ group_past p.config g earlier)
  own-turn earlier g there holds h = record {
    turns = (turn-is limit laws p before now closing samples earlier g plan are there holds, h.turns);
    lives = λ w within. own-life earlier g w there within (h.lives w within);
  }

  turn-if : (earlier : List Deed) (g other : ℕ) (b : Bool) → (other == g) ≡ b → other < length p.config.group → TurnHolds p.config (group_at p.config other) (group_past p.config other earlier) (turn_input p before now closing samples earlier other)
      → IsPastOf p S (metas_at p.config before) g (group_past p.config g earlier)
      → IsPastOf p S (metas_at p.config before) g (cons_if b (HadGroupTurn (turn_of p before now closing samples earlier other)) (group_past p.config g earlier))
  turn-if earlier g other false e there holds h = h
  turn-if earlier g other true e there holds h =
      let same : other ≡ g = grind (arith, nat_tests) in
      subst (λ (n : ℕ). IsPastOf p S (metas_at p.config before) n (group_past p.config n earlier)
      → IsPastOf p S (metas_at p.config before) n (HadGroupTurn (turn_of p before now closing samples earlier other) ∷ group_past p.config n earlier)) same
      (own-turn earlier other there holds) h

  -- of one writer, whatever was done before the tick
  life-if-turned : (earlier : List Deed) (g w other : ℕ) (b : Bool) → (other == g) ≡ b → other < length p.config.group → w < length (group_at p.config g).writer → LifeOf p S (metas_at p.config before) g w (group_past p.config g earlier)
      → LifeOf p S (metas_at p.config before) g w (cons_if b (HadGroupTurn (turn_of p before now closing samples earlier other)) (group_past p.config g earlier))
  life-if-turned earlier g w other false e there within h = h
  life-if-turned earlier g w other true e there within h =
      let same : other ≡ g = grind (arith, nat_tests) in
      subst (λ (n : ℕ). w < length (group_at p.config n).writer → LifeOf p S (metas_at p.config before) n w (group_past p.config n earlier)
      → LifeOf p S (metas_at p.config before) n w (HadGroupTurn (turn_of p before now closing samples earlier other) ∷ group_past p.config n earlier)) same
      (λ within h. own-life earlier other w there within h) within h

  tick-keeps-life : (g w : ℕ) → w < length (group_at p.config g).writer → TickKeeps p before now closing samples (λ earlier. LifeOf p S (metas_at p.config before) g w (group_past p.config g earlier))
  tick-keeps-life g w within = record {
    came = λ earlier h. h;
    fresh = λ k earlier h. refreshed-life p S (metas_at p.config before) g w (is_writer_below (Group k) g) (group_past p.config g earlier) (writer_indexes (group_at p.config g)) h;
    turn = λ other earlier there has h. life-if-turned earlier g w other (other == g) refl there within h;
  }

  pub tick-life : (g w : ℕ) (earlier : List Deed) → w < length (group_at p.config g).writer → LifeOf p S (metas_at p.config before) g w (group_past p.config g earlier)
      → LifeOf p S (metas_at p.config before) g w (group_past p.config g (tick_deeds p before now closing samples earlier))
  tick-life g w earlier within h = tick-keeps p before now closing samples earlier (λ earlier. LifeOf p S (metas_at p.config before) g w (group_past p.config g earlier)) (tick-keeps-life g w within) h

  tick-lives : (g : ℕ) → SendHolds p before now closing samples (λ earlier. IsPastOf p S (metas_at p.config before) g (group_past p.config g earlier))
  tick-lives g = record {
    came = λ earlier h. h;
    fresh = λ k earlier h. refreshed-past p S (metas_at p.config before) g (is_writer_below (Group k) g) (group_past p.config g earlier) (writer_indexes (group_at p.config g)) h;
    turn = λ other earlier there holds h. turn-if earlier g other (other == g) refl there holds h;
  }

  pub tick-past : RingLaw → (g : ℕ) → HoldsTick p before now closing samples → TurnsHold p before → IsPastOf p S (metas_at p.config before) g (group_past p.config g (deeds p before))
      → IsPastOf p S (metas_at p.config before) g (group_past p.config g (tick_deeds p before now closing samples (deeds p before)))
  tick-past law g holds hold h = send-holds law p before now closing samples (λ earlier. IsPastOf p S (metas_at p.config before) g (group_past p.config g earlier)) plan (tick-lives g) holds hold h

past-more : (p : Plan) (S T : ℕ → MetaData → Sampled → Type 0) (metas : List MetaData) (g : ℕ) (past : List GroupDeed) → ((index : ℕ) (at : MetaData) (sample : Sampled) → S index at sample → T index at sample) → IsPastOf p S metas g past → IsPastOf p T metas g past
past-more p S T metas g past more h = record { turns = h.turns; lives = λ w within. life-more p S T _ _ _ (writer_past w past) (more (writer_at (group_at p.config g) w).dataset) (h.lives w within) }

-- ---- a field more

-- a writer that is refreshed among others may go on with any meta
AnyMeta : Plan → (ℕ → MetaData → Sampled → Type 0) → MetaData → ℕ → ℕ → List GroupDeed → Type 0
AnyMeta p S conf index w past = (m : MetaData) → IsLife p S m conf index (writer_past w past)

any-kept : (p : Plan) (S : ℕ → MetaData → Sampled → Type 0) (conf : MetaData) (index w writer : ℕ) (past : List GroupDeed) → AnyMeta p S conf index w past → AnyMeta p S conf index w (RefreshedWriter writer ∷ past)
unfolding AnyMeta
any-kept p S conf index w writer past h = λ m. life-if p S m conf index (writer == w) (writer_past w past) (h m)

any-now : (p : Plan) (S : ℕ → MetaData → Sampled → Type 0) (now conf : MetaData) (index w : ℕ) (b c : Bool) (past : List GroupDeed) → b ≡ true → (w == w) ≡ c → IsLife p S now conf index (writer_past w past) → AnyMeta p S conf index w (cons_if b (RefreshedWriter w) past)
unfolding AnyMeta
any-now p S now conf index w true true past e f h = λ m. subst (λ (x : Bool). IsLife p S m conf index (cons_option (if x then Some Refreshed else None) (writer_past w past))) (sym f) (life-refreshed p S now m conf index (writer_past w past) h)
any-now p S now conf index w true false past e f h = absurd (let wrong : (w == w) ≡ true = grind (arith, nat_tests) in let no_way : false ≡ true = sym f ∙ wrong in cc)
any-now p S now conf index w false c past e f h = absurd (cc)

life-cons : (p : Plan) (S : ℕ → MetaData → Sampled → Type 0) (now conf : MetaData) (index w writer : ℕ) (b : Bool) (past : List GroupDeed) → IsLife p S now conf index (writer_past w past) → IsLife p S now conf index (writer_past w (cons_if b (RefreshedWriter writer) past))
life-cons p S now conf index w writer true past h = life-if p S now conf index (writer == w) (writer_past w past) h
life-cons p S now conf index w writer false past h = h

any-meta : (p : Plan) (S : ℕ → MetaData → Sampled → Type 0) (now conf : MetaData) (index w : ℕ) (test : ℕ → Bool) (past : List GroupDeed) (writers : List ℕ) → test w ≡ true → Contains writers w → IsLife p S now conf index (writer_past w past)
    → AnyMeta p S conf index w (refreshed_where test past writers)
any-meta p S now conf index w test past [] e has h = absurd (let below = has.1 in omega (arith, below))
any-meta p S now conf index w test past (v ∷ writers) e (zero, below, same) h =
    refreshed-keeps (AnyMeta p S conf index w) (λ writer past h. any-kept p S conf index w writer past h) test (cons_if (test v) (RefreshedWriter v) past) writers
    (subst (λ (n : ℕ). AnyMeta p S conf index w (cons_if (test n) (RefreshedWriter n) past)) (sym same) (any-now p S now conf index w (test w) (w == w) past e refl h))
any-meta p S now conf index w test past (v ∷ writers) e (suc k, below, same) h =
    any-meta p S now conf index w test (cons_if (test v) (RefreshedWriter v) past) writers e (k, omega (arith, below), same) (life-cons p S now conf index w v (test v) past h)

any-use : (p : Plan) (S : ℕ → MetaData → Sampled → Type 0) (conf : MetaData) (index w : ℕ) (past : List GroupDeed) (m : MetaData) → AnyMeta p S conf index w past → IsLife p S m conf index (writer_past w past)
unfolding AnyMeta
any-use p S conf index w past m h = h m

pub writer-in : (n w : ℕ) → w < n → Contains (range_with_len 0 n) w
writer-in n w below =
    let far : w < length (range_with_len 0 n) = omega (arith, below, length-range_with_len 0 n) in
    let at : Rattle.std.proofs.Common.get_or (range_with_len 0 n) w w ≡ w = get_or-range_with_len 0 n w w below ∙ omega arith in
    (w, far, at)

pub grow-life : (p : Plan) (S : ℕ → MetaData → Sampled → Type 0) (metas : List MetaData) (g w set : ℕ) (field : Field) (past : List GroupDeed) (b : Bool) → ((writer_at (group_at p.config g) w).dataset == set) ≡ b → set < length metas
    → w < length (group_at p.config g).writer → LifeOf p S metas g w past
    → LifeOf p S (Rattle.std.proofs.Common.set metas set (grown (meta_in metas set) field)) g w (refreshed_where (is_writer_of (group_at p.config g) set) past (writer_indexes (group_at p.config g)))
grow-life p S metas g w set field past true e there within h =
    any-use p S _ _ w _ _
    (any-meta p S (meta_at (group_at p.config g) metas w) (meta_at (group_at p.config g) p.config.dataset w) (writer_at (group_at p.config g) w).dataset w (is_writer_of (group_at p.config g) set) past (writer_indexes (group_at p.config g)) e
    (writer-in (length (group_at p.config g).writer) w within) h)
grow-life p S metas g w set field past false e there within h =
    let differ : (writer_at (group_at p.config g) w).dataset ≢ set = grind (arith, nat_tests) in
    let same = meta-other (group_at p.config g) w metas set (grown (meta_in metas set) field) differ in
    subst (λ (m : MetaData). IsLife p S m (meta_at (group_at p.config g) p.config.dataset w) (writer_at (group_at p.config g) w).dataset (writer_past w (refreshed_where (is_writer_of (group_at p.config g) set) past (writer_indexes (group_at p.config g)))))
    (sym same) (refreshed-life p S metas g w (is_writer_of (group_at p.config g) set) past (writer_indexes (group_at p.config g)) h)

grow-past : (p : Plan) (S : ℕ → MetaData → Sampled → Type 0) (metas : List MetaData) (g set : ℕ) (field : Field) (past : List GroupDeed) → set < length metas → IsPastOf p S metas g past
    → IsPastOf p S (Rattle.std.proofs.Common.set metas set (grown (meta_in metas set) field)) g (refreshed_where (is_writer_of (group_at p.config g) set) past (writer_indexes (group_at p.config g)))
grow-past p S metas g set field past there h = record {
  turns = (refreshed-past p S metas g (is_writer_of (group_at p.config g) set) past (writer_indexes (group_at p.config g)) h).turns;
  lives = λ w within. grow-life p S metas g w set field past ((writer_at (group_at p.config g) w).dataset == set) refl there within (h.lives w within);
}

-- ---- over all steps

pub past-of : (limit : ℕ) (laws : WordLaws) (law : RingLaw) (p : Plan) (g : ℕ) (steps : List Step) → IsPlan p → AreStepsOf limit p steps → TurnsHold p steps → SamplesRise p steps → IsPastOf p (HasSample p steps) (metas_at p.config steps) g (pasts_at p steps g)
past-of limit laws law p g [] plan are hold rise = record { turns = tt; lives = λ w within. record { rows = tt; turns = tt; never = tt } }
past-of limit laws law p g (Enable id ∷ before) plan are hold rise =
    refreshed-past p (HasSample p before) (metas_at p.config before) g (is_writer_below (component_at p.config id) g) (pasts_at p before g) (writer_indexes (group_at p.config g)) (past-of limit laws law p g before plan are.1 hold rise)
past-of limit laws law p g (Disable id ∷ before) plan are hold rise = past-of limit laws law p g before plan are.1 hold rise
past-of limit laws law p g (Append set field ∷ before) plan are hold rise =
    subst (λ (metas : List MetaData). IsPastOf p (HasSample p before) metas g (refreshed_where (is_writer_of (group_at p.config g) set) (pasts_at p before g) (writer_indexes (group_at p.config g)))) (sym (grown-is (metas_at p.config before) set field are.0.may.there))
    (grow-past p (HasSample p before) (metas_at p.config before) g set field (pasts_at p before g) are.0.may.there (past-of limit laws law p g before plan are.1 hold rise))
past-of limit laws law p g (Tick ms closing samples done ∷ before) plan are hold rise =
    tick-past limit laws p plan before are.1 (moment_of before + ms) closing samples are.0.rows rise.0 law g hold.0 hold.1
    (past-more p (HasSample p before) (HasSample p (Tick ms closing samples done ∷ before)) (metas_at p.config before) g (pasts_at p before g) (λ index at sample has. inr has) (past-of limit laws law p g before plan are.1 hold.1 rise.1))
past-of limit laws law p g (Pump entries ∷ before) plan are hold rise = past-of limit laws law p g before plan are.1 hold rise
