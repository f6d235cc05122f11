-- A session's turns: each is one of the definitions, with a row of its data set's meta, which is the sampled one cut to it.
use Rattle.std.proofs.Common.{◌≡◌, refl, sym, ap, ◌∙◌, subst, arith, ℕ, zero, suc, ◌+◌, ◌<◌, Bool, true, false, List, [], ◌∷◌, length, get_or, Option, Some, None}
use Rattle.std.specs.Prelude.{slice_index_or}
use Rattle.std.specs.List.{range_with_len, AllZip}
use Rattle.std.proofs.lemmas.List.{get_or-map}
use Rattle.std.proofs.lemmas.List.Elements.{length_all_zip, AllZip-get_or}
use Rattle.std.proofs.lemmas.List.FromFn.{length-range_with_len, get_or-range_with_len, length-map-range_with_len}
use Rattle.std.proofs.lemmas.Option.{slice_get-get_or}
use Rattle.dataset_meta.specs.Metas.{MetaData, HasGrown, IsMeta}
use Rattle.dataset_meta.specs.Rows.{IsRow, row_cut}
use Rattle.row_words.specs.Belonging.{row_in, Belongs, cut_words}
use Rattle.pubsub_model.specs.Cadence.{WriterTurn}
use Rattle.config_tables.specs.declared.words.Layout.{Layout}
use Rattle.config_tables.specs.declared.words.Layout.TheVariants as layouts
use Rattle.ps_config.specs.declared.parts.Config.{Config}
use Rattle.ps_config.specs.declared.parts.GroupPart.{GroupPart}
use Rattle.ps_config.specs.Rooms.{is_fixed, lacks_room}
use Rattle.ps_config.specs.Sound.{IsSound, IsGroup, IsWriter}
use Rattle.writer_group.specs.declared.sampled.Sampled.{Sampled}
use Rattle.dataset_meta.specs.Metas.{no_meta}
use Rattle.writer_group.specs.Payloads.{meta_at, writer_at, no_writer}
use Rattle.writer_group.specs.Turns.{Told, no_sample, took_by, turns_from, writer_turn}
use Rattle.group_laws.specs.TurnReading.{IsSampled}
use Rattle.session_model.specs.Steps.{Plan, Step, Enable, Disable, Append, Tick, Pump}
use Rattle.session_model.specs.Sets.{metas_at, meta_in, rows_at, rows_cut, cut_sample, AreFit, GrowTo, AreRowsOf}
use Rattle.session_model.specs.Deeds.{Deed, group_past, turn_input, turn_of}
use Rattle.writer_group.specs.Parts.{group_at, no_group}
use Rattle.session_model.specs.Keeping.{AreStepsOf, IsPlan}
pub use Rattle.session_laws.specs.Below.{WordLaws}
use Rattle.session_laws.specs.Pasts.{IsTurn}
use Rattle.session_laws.proofs.Versions.Senders.{TurnHolds}
use Rattle.session_laws.proofs.Versions.Distinct.{IsAt, at-contains, at-sound}
use Rattle.session_laws.proofs.Versions.Metas.{meta-of}

-- ---- the data sets of a moment

pub fit-at : (limit : ℕ) (p : Plan) (steps : List Step) → IsPlan p → AreStepsOf limit p steps → AreFit p.config (metas_at p.config steps)
fit-at limit p [] plan are = plan.fit
fit-at limit p (Enable id ∷ before) plan are = fit-at limit p before plan are.1
fit-at limit p (Disable id ∷ before) plan are = fit-at limit p before plan are.1
fit-at limit p (Append index field ∷ before) plan are = are.0.may.fit
fit-at limit p (Tick ms closing samples done ∷ before) plan are = fit-at limit p before plan are.1
fit-at limit p (Pump entries ∷ before) plan are = fit-at limit p before plan are.1

pub grow-at : (limit : ℕ) (p : Plan) (steps : List Step) → IsPlan p → AreStepsOf limit p steps → GrowTo (metas_at p.config steps) p.full
grow-at limit p [] plan are = plan.grow
grow-at limit p (Enable id ∷ before) plan are = grow-at limit p before plan are.1
grow-at limit p (Disable id ∷ before) plan are = grow-at limit p before plan are.1
grow-at limit p (Append index field ∷ before) plan are = are.0.grow
grow-at limit p (Tick ms closing samples done ∷ before) plan are = grow-at limit p before plan are.1
grow-at limit p (Pump entries ∷ before) plan are = grow-at limit p before plan are.1

pub as-many : (limit : ℕ) (p : Plan) (steps : List Step) → IsPlan p → AreStepsOf limit p steps → length (metas_at p.config steps) ≡ length p.config.dataset
as-many limit p steps plan are = length_all_zip HasGrown (metas_at p.config steps) p.full (grow-at limit p steps plan are) ∙ sym (length_all_zip HasGrown p.config.dataset p.full plan.grow)

-- ---- a sampled row

zip-at : {A B : Type 0} (R : A → B → Type 0) (xs : List A) (ys : List B) (i : ℕ) (d : A) (e : B) → AllZip R xs ys → i < length xs → R (get_or xs i d) (get_or ys i e)
zip-at R [] ys i d e all below = absurd (omega (arith, below))
zip-at R (x ∷ xs) [] i d e all below = absurd all
zip-at R (x ∷ xs) (y ∷ ys) zero d e all below = all.0
zip-at R (x ∷ xs) (y ∷ ys) (suc i) d e all below = zip-at R xs ys i d e all.1 (omega (arith, below))

-- the data set of a group's writer is there
set-there : (config : Config) (g : ℕ) (group : GroupPart) (writer : ℕ) → IsSound config → IsAt config g group → writer < length group.writer → (writer_at group writer).dataset < length config.dataset
set-there config g group writer sound at within = there (at-sound config g group sound at)
  where
    there : IsGroup config group → (writer_at group writer).dataset < length config.dataset
    there is = of (is.writers writer no_writer within)
      where
        of : IsWriter config group (writer_at group writer) → (writer_at group writer).dataset < length config.dataset
        of w = w.dataset

row-found : (metas full : List MetaData) (samples : List Sampled) (index : ℕ) → index < length metas
    → slice_index_or (rows_cut metas full samples) index no_sample ≡ cut_sample (meta_in metas index) (meta_in full index) (slice_index_or samples index no_sample)
row-found metas full samples index below =
    let f : ℕ → Sampled = λ k. cut_sample (meta_in metas k) (meta_in full k) (slice_index_or samples k no_sample) in
    get_or-map f (range_with_len 0 (length metas)) index 0 no_sample (omega (arith, below, length-range_with_len 0 (length metas)))
    ∙ ap f (get_or-range_with_len 0 (length metas) index 0 below ∙ omega arith)

-- the row of a writer's turn is one of its meta, and that of the sample cut to it; the version is the sample's
pub record IsSampledTurn (p : Plan) (now : MetaData) (index : ℕ) (samples : List Sampled) (turn : WriterTurn) : Type 0 where
  pub fits : IsRow now turn.row
  pub row : turn.row ≡ row_cut now (row_in (meta_in p.full index).fields (slice_index_or samples index no_sample).row.words)
  pub version : turn.version ≡ (slice_index_or samples index no_sample).version

module _ (limit : ℕ) (laws : WordLaws) (p : Plan) (before : List Step) (plan : IsPlan p) (are : AreStepsOf limit p before) (g : ℕ) (group : GroupPart) (at : IsAt p.config g group) where
  abbrev metas : List MetaData
  metas = metas_at p.config before

  pub meta-there : (writer : ℕ) → writer < length group.writer → (writer_at group writer).dataset < length metas
  meta-there writer within = let there = set-there p.config g group writer plan.good.sound at within in let many = as-many limit p before plan are in omega (arith, there, many)

  pub meta-is : (writer : ℕ) → writer < length group.writer → IsMeta (meta_at group metas writer).fields
  meta-is writer within = (fit-at limit p before plan are).each (writer_at group writer).dataset no_meta (meta-there writer within)

  pub sampled-turn : (told : Told) (samples : List Sampled) (writer : ℕ) → told.metas ≡ metas → told.rows ≡ rows_at p before samples → AreRowsOf p.full samples → writer < length group.writer
      → IsSampledTurn p (meta_at group metas writer) (writer_at group writer).dataset samples (writer_turn group told writer)
  sampled-turn told samples writer metas_are rows_are rows within =
      let index = (writer_at group writer).dataset in
      let below = meta-there writer within in
      let now = meta_at group metas writer in
      let full = meta_in p.full index in
      let sample = slice_index_or samples index no_sample in
      let grown = AllZip-get_or HasGrown metas p.full index no_meta no_meta (grow-at limit p before plan are) below in
      let far : index < length p.full = let many = length_all_zip HasGrown metas p.full (grow-at limit p before plan are) in omega (arith, below, many) in
      let words = zip-at (λ (meta : MetaData) (sampled : Sampled). Belongs meta sampled.row.words) p.full samples index no_meta no_sample rows far in
      let found : slice_index_or told.rows index no_sample ≡ cut_sample now full sample = ap (λ (l : List Sampled). slice_index_or l index no_sample) rows_are ∙ row-found metas p.full samples index below in
      let row : (writer_turn group told writer).row ≡ row_in now.fields (cut_words now full sample.row.words) =
      ap (λ (l : List MetaData). row_in (meta_at group l writer).fields (slice_index_or told.rows index no_sample).row.words) metas_are ∙ ap (λ (s : Sampled). row_in now.fields s.row.words) found in
      record {
        fits = subst (IsRow now) (sym row) (laws.belongs now full sample.row.words (meta-is writer within) grown words).row;
        row = row ∙ laws.row now full sample.row.words grown words;
        version = ap (λ (s : Sampled). s.version) found;
      }

-- ---- the turns that a group's writers had

pub turns-at : (group : GroupPart) (told : Told) (from k : ℕ) (on : List Bool) (turn : WriterTurn) → slice_index_or (turns_from group told from on) k None ≡ Some turn → turn ≡ writer_turn group told (from + k)
turns-at group told from k [] turn e = absurd (none-some e)
  where
    none-some : Path (Option WriterTurn) None (Some turn) → ⊥
    none-some e = cc
turns-at group told from zero (true ∷ on) turn e = some-same (writer_turn group told from) turn e ∙ ap (writer_turn group told) (omega arith)
  where
    some-same : (one other : WriterTurn) → Path (Option WriterTurn) (Some one) (Some other) → other ≡ one
    some-same one other e = cc
turns-at group told from zero (false ∷ on) turn e = absurd (none-some e)
  where
    none-some : Path (Option WriterTurn) None (Some turn) → ⊥
    none-some e = cc
turns-at group told from (suc k) (b ∷ on) turn e = turns-at group told (from + 1) k on turn e ∙ ap (writer_turn group told) (omega arith)

-- a turn that the writer had at a tick
pub took-sampled : (limit : ℕ) (laws : WordLaws) (p : Plan) (before : List Step) (now : ℕ) (closing : Bool) (samples : List Sampled) (earlier : List Deed) (g writer : ℕ) (turn : WriterTurn) → IsPlan p → AreStepsOf limit p before → AreRowsOf p.full samples
    → g < length p.config.group → writer < length (group_at p.config g).writer → took_by writer (turn_of p before now closing samples earlier g) ≡ Some turn
    → IsSampledTurn p (meta_at (group_at p.config g) (metas_at p.config before) writer) (writer_at (group_at p.config g) writer).dataset samples turn
took-sampled limit laws p before now closing samples earlier g writer turn plan are rows there within e =
    let group = group_at p.config g in
    let input = turn_input p before now closing samples earlier g in
    let same : turn ≡ writer_turn group input.told writer = turns-at group input.told 0 writer input.on turn e ∙ ap (writer_turn group input.told) (omega arith) in
    subst (IsSampledTurn p (meta_at group (metas_at p.config before) writer) (writer_at group writer).dataset samples) (sym same)
    (sampled-turn limit laws p before plan are g group (slice_get-get_or p.config.group g no_group there) input.told samples writer refl refl rows within)

-- ---- each turn is one by the definitions

fixed-is : (layout : Layout) → layout ≡ layouts.Fixed → is_fixed layout ≡ true
fixed-is layout e = ap is_fixed e

abbrev pub turn-is : (limit : ℕ) (laws : WordLaws) (p : Plan) (before : List Step) (now : ℕ) (closing : Bool) (samples : List Sampled) (earlier : List Deed) (g : ℕ) → IsPlan p → AreStepsOf limit p before → g < length p.config.group
    → TurnHolds p.config (group_at p.config g) (group_past p.config g earlier) (turn_input p before now closing samples earlier g)
    → IsTurn p.config (group_at p.config g) (group_past p.config g earlier) (turn_of p before now closing samples earlier g)
turn-is limit laws p before now closing samples earlier g plan are there holds =
    let group = group_at p.config g in
    let at : IsAt p.config g group = slice_get-get_or p.config.group g no_group there in
    let input = turn_input p before now closing samples earlier g in
    let metas = metas_at p.config before in
    let sampled : (writer : ℕ) → writer < length group.writer → IsSampled group (group_past p.config g earlier) input writer =
    λ writer within. record { meta = meta-is limit laws p before plan are g group at writer within; frame = holds.answers writer } in
    record {
      input = input;
      is = refl;
      may = record {
        sound = plan.good.sound;
        group_is = at-contains p.config g group at;
        on = let many = length-map-range_with_len (λ w. Rattle.session_model.specs.Deeds.works p.config before earlier (Rattle.pubsub_states.specs.declared.component.Component.TheVariants.Writer g w)) 0 (length group.writer) in omega (arith, many);
        sender = holds.sender;
        written = holds.written;
      };
      sampled = sampled;
      metas = λ writer within. (meta-of limit p g group writer before are at within).reads;
      majors = λ writer within. (meta-of limit p g group writer before are at within).major;
      fixed = λ layout. record {
        fixed = plan.good.fixed;
        metas = record {
          count = as-many limit p before plan are;
          fixed = λ is writer within. (meta-of limit p g group writer before are at within).fixed is;
          room = room-at (fit-at limit p before plan are) at;
        };
        sampled = sampled;
      };
    }
  where
    room-at : AreFit p.config (metas_at p.config before) → IsAt p.config g (group_at p.config g) → lacks_room p.config.publisher.id (metas_at p.config before) (group_at p.config g) ≡ false
    room-at fit at = fit.room g no_group there
