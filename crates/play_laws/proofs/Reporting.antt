-- The closed sessions of a script with a fate over a link in memory, and their reports.
use Rattle.std.proofs.Common.{◌≡◌, refl, sym, ap, ◌∙◌, subst, ℕ, List, [], ◌∷◌, map, Option, Some, None, IfSome}
use Rattle.std.specs.Prelude.{option_and_then, option_map, reverse}
use Rattle.std.specs.Fmt.{digits}
use Rattle.std.specs.List.{AllZip}
use Rattle.dataset_meta.specs.DataValues.{DataValue}
use Rattle.pubsub_model.specs.Answers.{version_of}
use Rattle.pubsub_model.specs.declared.reading.Break.{Break}
use Rattle.pubsub_model.specs.declared.reading.Why.{Why}
use Rattle.pubsub_states.specs.declared.state.State.{State}
use Rattle.row_words.specs.Belonging.{Belongs, cut_words, row_in, spelled_row, spelled_statuses, statuses_in}
use Rattle.value_texts.specs.Texts.{value_text_of}
use Rattle.ps_config.specs.BuiltIn.{built_in_config, built_in_group, built_in_read_group, built_in_reader, built_in_writer, demo}
use Rattle.ps_report.specs.declared.closed.Closed.{Closed}
use Rattle.ps_report.specs.declared.closed.HeldEnd.{HeldEnd}
use Rattle.ps_report.specs.declared.closed.History.{History}
use Rattle.ps_report.specs.declared.closed.ReaderEnd.{ReaderEnd}
use Rattle.ps_report.specs.declared.closed.WriterEnd.{WriterEnd}
use Rattle.ps_report.specs.Conditions.{writers_of}
use Rattle.ps_report.specs.FirstRun.{first_held, first_row, first_run}
use Rattle.ps_report.specs.Lines.{component_text, count_text, history_line, group_line, writer_line, cause_text, read_group_line, status_mark, field_text, number_or_dash, numbered_text, gaps_line, link_line, waits_text}
use Rattle.ps_report.specs.Reports.{row_text, held_as, reader_line, end_line, report_text}
use Rattle.ps_report.specs.Told.{TellsHeld, TellsReader, log_of}
use Rattle.pubsub_model.specs.WhyWords.{why_word}
use Rattle.ps_report.specs.Words.{cause_words}
use Rattle.ps_report.specs.declared.closed.GroupEnd.{GroupEnd}
use Rattle.ps_report.specs.declared.closed.LinkEnd.{LinkEnd}
use Rattle.ps_report.specs.declared.closed.ReadGroupEnd.{ReadGroupEnd}
use Rattle.ps_report.specs.declared.closed.WatchEnd.{WatchEnd}
use Rattle.pubsub_states.specs.declared.component.Component.TheVariants.{Reader, Writer}
use Rattle.pubsub_states.specs.declared.state.State.TheVariants.{Operational, PreOperational}
use Rattle.pubsub_model.specs.declared.reading.Why.TheVariants.{Start}
use Rattle.session_model.specs.Closing.{IsReaderEnd, IsWriterEnd, group_end, link_end, read_group_end}
use Rattle.session_model.specs.Deeds.{group_indexes, log_at}
use Rattle.session_model.specs.Events.{read_group_indexes, reader_at}
use Rattle.session_model.specs.States.{state_at}
use Rattle.session_model.specs.Steps.{Step}
use Rattle.ua_base.specs.declared.link.Fate.TheVariants as fates
use Rattle.ua_binary.specs.ReadingValues.{block_at, text_at, kind_at, variant_at, times_past, parts_at, data_value_at}
use Rattle.uadp_header.specs.Formats.{◌>>=◌, read}
use Rattle.uadp_header.specs.Layout.{byte, number, block, when, byte_when, text, publisher_id, group_numbers, group_when, payload_header, ids_when, extras, security_header, parts, header, header_at}
use Rattle.uadp_header.specs.Spelling.{header_len, header_bytes, flags_bytes, group_bytes, security_bytes}
use Rattle.frame_codec.specs.Contents.{field_at, surplus_at, whole_at, change_at, patch_at, content_at}
use Rattle.frame_codec.specs.Fronts.{flags1_at, flags2_at, times_past as front_times, parts_at as front_parts, front_at}
use Rattle.frame_codec.specs.Reading.{behind_front, message_at, frame_at}
use Rattle.frame_codec.specs.Spelling.{front_bytes, frame_bytes}
use Rattle.mem_edge.specs.declared.memory_link.MemoryLink.{MemoryLink}
use Rattle.reader_group.specs.Settings.{no_keys}
use Rattle.session_laws.specs.Witness.{seven, small_plan, small_row}
use Rattle.play_laws.specs.Reports.{both_lost_run, both_lost_text, first_lost_run, first_lost_text, last_lost_run, last_lost_text, run_with, ReportsSo}
use Rattle.play_laws.proofs.SmallRun.{FatedLaw, both-so, ends-told, first-so, last-so}
use Rattle.play_laws.specs.Small.{EndsBehind, IsPlayedOver, both_lost, first_lost, last_lost}

first-text : report_text built_in_config first_lost_run ≡ first_lost_text
unfolding built_in_config demo built_in_group built_in_writer built_in_read_group built_in_reader row_in statuses_in digits value_text_of component_text count_text history_line group_line writer_line cause_text cause_words read_group_line status_mark field_text number_or_dash numbered_text gaps_line link_line row_text held_as reader_line end_line report_text
first-text = refl

last-text : report_text built_in_config last_lost_run ≡ last_lost_text
unfolding built_in_config demo built_in_group built_in_writer built_in_read_group built_in_reader row_in statuses_in digits value_text_of component_text count_text history_line group_line writer_line cause_text cause_words read_group_line status_mark field_text number_or_dash numbered_text gaps_line link_line row_text held_as reader_line end_line report_text
last-text = refl

both-text : report_text built_in_config both_lost_run ≡ both_lost_text
unfolding built_in_config demo built_in_group built_in_writer built_in_read_group built_in_reader digits component_text count_text history_line group_line writer_line cause_text cause_words read_group_line waits_text why_word gaps_line link_line held_as reader_line end_line report_text
both-text = refl

-- ---- lists of one

record IsOne {X Y : Type 0} (R : X → Y → Type 0) (x : X) (ys : List Y) : Type 0 where
  pub item : Y
  pub only : ys ≡ item ∷ []
  pub is : R x item

one-of : {X Y : Type 0} (R : X → Y → Type 0) (x : X) (ys : List Y) → AllZip R (x ∷ []) ys → IsOne R x ys
one-of R x [] h = absurd h
one-of R x (y ∷ []) h = record { item = y; only = refl; is = h.0 }
one-of R x (y ∷ z ∷ ys) h = absurd h.1

-- ---- parts

abbrev history_by : List ℕ → History
history_by threads = record { threads = threads }

histories-are : (histories : List History) → map (λ history. history.threads) histories ≡ (0 ∷ []) ∷ [] → histories ≡ record { threads = 0 ∷ [] } ∷ []
histories-are [] e = absurd (cc)
histories-are (history ∷ []) e = let threads : history.threads ≡ 0 ∷ [] = cc in ap (λ (l : List ℕ). history_by l ∷ []) threads
histories-are (history ∷ other ∷ histories) e = absurd (cc)

abbrev writer_by : State → List (ℕ × ℕ) → WriterEnd
writer_by state log = record { state = state; log = log }

writer-is : (end : WriterEnd) (state : State) (log : List (ℕ × ℕ)) → end.state ≡ state → end.log ≡ log → end ≡ writer_by state log
writer-is end state log is same = ap (λ (s : State). writer_by s end.log) is ∙ ap (writer_by state) same

abbrev held_by : Option ℕ → Option ℕ → List ℕ → HeldEnd
held_by number version words = record { number = number; version = version; row = record { words = words } }

-- ---- a held row

small-words : spelled_row demo.fields small_row ≡ first_row.words
unfolding demo spelled_row spelled_statuses
small-words = refl

words-are : (words : List ℕ) → Belongs demo words → row_in demo.fields words ≡ small_row → words ≡ first_row.words
words-are words belongs row = belongs.spelled ∙ ap (spelled_row demo.fields) row ∙ small-words

record Holds (held : Option HeldEnd) (number version : Option ℕ) : Type 0 where
  row : option_map (λ held. row_in demo.fields held.row.words) held ≡ Some small_row
  numbered : IfSome held (λ held. held.number ≡ number)
  belongs : IfSome held (λ held. Belongs demo held.row.words)
  versioned : IfSome held (λ held. held.version ≡ version)

no-row : (row : List DataValue) → Path (Option (List DataValue)) None (Some row) → ⊥
no-row row e = cc

one-row : (row other : List DataValue) → Path (Option (List DataValue)) (Some row) (Some other) → row ≡ other
one-row row other e = cc

held-is : (held : Option HeldEnd) (number version : Option ℕ) → Holds held number version → held ≡ Some (held_by number version first_row.words)
held-is None number version h = absurd (no-row small_row h.row)
held-is (Some held) number version h =
    let row = one-row (row_in demo.fields held.row.words) small_row h.row in
    ap Some (ap (λ (n : Option ℕ). held_by n held.version held.row.words) h.numbered ∙ ap (λ (v : Option ℕ). held_by number v held.row.words) h.versioned
    ∙ ap (held_by number version) (words-are held.row.words h.belongs row))

version-is : (writers : List WriterEnd) (held : Option HeldEnd) (number version : Option ℕ) → writers ≡ writer_by Operational ((0, 1) ∷ (1, 1) ∷ []) ∷ [] → IfSome held (λ held. TellsHeld built_in_config writers built_in_read_group built_in_reader held)
    → IfSome held (λ held. held.number ≡ number) → option_and_then (version_of ((0, 1) ∷ (1, 1) ∷ [])) number ≡ version → IfSome held (λ held. held.version ≡ version)
unfolding built_in_config built_in_group built_in_writer built_in_read_group built_in_reader
version-is writers None number version is told numbered e = tt
version-is writers (Some held) number version is told numbered e =
    told.own refl ∙ ap (λ (l : List WriterEnd). option_and_then (version_of (log_of (writers_of built_in_config.group) l 1)) held.number) is
    ∙ ap (option_and_then (version_of ((0, 1) ∷ (1, 1) ∷ []))) numbered ∙ e

-- ---- the whole

abbrev closed_by : List History → List GroupEnd → List WriterEnd → List ReadGroupEnd → List ReaderEnd → List WatchEnd → LinkEnd → Closed
closed_by histories groups writers read_groups readers watches link =
    record { histories = histories; groups = groups; writers = writers; read_groups = read_groups; readers = readers; watches = watches; link = link }

abbrev reader_by : State → Option HeldEnd → Why → ℕ → List Break → ReaderEnd
reader_by state held why breaks recent = record { state = state; held = held; why = why; breaks = breaks; recent = record { items = recent } }

-- what the steps leave beside what the reader keeps
pub record Leaves (steps : List Step) (count : ℕ) (state : State) : Type 0 where
  pub groups : map (group_end small_plan steps) (group_indexes small_plan.config) ≡ first_run.groups
  pub writer_state : state_at small_plan steps (Writer 0 0) ≡ Operational
  pub log : log_at small_plan 0 0 steps ≡ (0, 1) ∷ (1, 1) ∷ []
  pub read_groups : map (read_group_end small_plan steps) (read_group_indexes small_plan.config) ≡ (run_with count Operational None).read_groups
  pub reader_state : state_at small_plan steps (Reader 0 0) ≡ state
  pub breaks : (reader_at small_plan.config 0 0 steps).kept.breaks ≡ 0
  pub recent : reverse (reader_at small_plan.config 0 0 steps).kept.recent ≡ []
  pub link : link_end small_plan steps ≡ (run_with count Operational None).link

-- what its reader has then
HeldSo : List Step → Option HeldEnd → Type 0
HeldSo steps is =
    (writers : List WriterEnd) (end : ReaderEnd) → writers ≡ writer_by Operational ((0, 1) ∷ (1, 1) ∷ []) ∷ [] → IsReaderEnd small_plan steps (0, 0) end
    → IfSome end.held (λ held. TellsHeld built_in_config writers built_in_read_group built_in_reader held) → end.held ≡ is

held-row : (steps : List Step) (closed : Closed) (number : Option ℕ) → EndsBehind steps closed (Some small_row) number Start → option_and_then (version_of ((0, 1) ∷ (1, 1) ∷ [])) number ≡ Some 1
    → HeldSo steps (Some (held_by number (Some 1) first_row.words))
unfolding HeldSo small_plan built_in_config built_in_read_group built_in_reader
held-row steps closed number ends version = λ writers end is shown told.
    let numbered = on (reader_at small_plan.config 0 0 steps).kept.number end.held shown.shows.number ends.number_is in
    held-is end.held number (Some 1) (record {
      row = shown.shows.row ∙ ends.row_is;
      numbered = numbered;
      belongs = shown.shows.belongs;
      versioned = version-is writers end.held number (Some 1) is told numbered version;
    })
  where
    on : (kept : Option ℕ) (held : Option HeldEnd) → IfSome held (λ held. held.number ≡ kept) → kept ≡ number → IfSome held (λ held. held.number ≡ number)
    on kept None is same = tt
    on kept (Some held) is same = is ∙ same

held-none : (steps : List Step) (closed : Closed) → EndsBehind steps closed None None Start → HeldSo steps None
unfolding HeldSo small_plan built_in_config built_in_read_group built_in_reader
held-none steps closed ends = λ writers end is shown told. on end.held (shown.shows.row ∙ ends.row_is)
  where
    on : (held : Option HeldEnd) → option_map (λ held. row_in demo.fields held.row.words) held ≡ None → held ≡ None
    on None e = refl
    on (Some held) e = absurd (no-row (row_in demo.fields held.row.words) (sym e))

closes : (steps : List Step) (closed : Closed) (count : ℕ) (state : State) (held : Option HeldEnd) (row : Option (List DataValue)) (number : Option ℕ) → Leaves steps count state → EndsBehind steps closed row number Start → HeldSo steps held
    → map (λ history. history.threads) closed.histories ≡ (0 ∷ []) ∷ [] → closed.watches ≡ [] → closed ≡ run_with count state held
unfolding HeldSo small_plan built_in_config built_in_group built_in_read_group built_in_reader
closes steps closed count state held row number leaves ends holds histories watches =
    let after = ends.after in
    let w = one-of (IsWriterEnd small_plan steps) (0, 0) closed.writers after.writers in
    let writer = writer-is w.item Operational ((0, 1) ∷ (1, 1) ∷ []) (w.is.state ∙ leaves.writer_state) (w.is.log ∙ leaves.log) in
    let writers : closed.writers ≡ writer_by Operational ((0, 1) ∷ (1, 1) ∷ []) ∷ [] = w.only ∙ ap (λ (x : WriterEnd). x ∷ []) writer in
    let r = one-of (IsReaderEnd small_plan steps) (0, 0) closed.readers after.readers in
    let told = (subst (λ (l : List ReaderEnd). AllZip (TellsReader built_in_config closed.writers) ((built_in_read_group, built_in_reader) ∷ []) l) r.only after.told.readers).0 in
    let own = holds closed.writers r.item writers r.is told in
    let end : r.item ≡ reader_by state held Start 0 [] =
    ap (λ (x : State). reader_by x r.item.held r.item.why r.item.breaks r.item.recent.items) (r.is.state ∙ leaves.reader_state)
    ∙ ap (λ (x : Option HeldEnd). reader_by state x r.item.why r.item.breaks r.item.recent.items) own
    ∙ ap (λ (x : Why). reader_by state held x r.item.breaks r.item.recent.items) (r.is.shows.why ∙ ends.why_is)
    ∙ ap (λ (x : ℕ). reader_by state held Start x r.item.recent.items) (r.is.shows.breaks ∙ leaves.breaks)
    ∙ ap (reader_by state held Start 0) (r.is.shows.recent ∙ leaves.recent) in
    let c = closed in
    ap (λ (x : List History). closed_by x c.groups c.writers c.read_groups c.readers c.watches c.link) (histories-are closed.histories histories)
    ∙ ap (λ (x : List GroupEnd). closed_by first_run.histories x c.writers c.read_groups c.readers c.watches c.link) (after.groups ∙ leaves.groups)
    ∙ ap (λ (x : List WriterEnd). closed_by first_run.histories first_run.groups x c.read_groups c.readers c.watches c.link) writers
    ∙ ap (λ (x : List ReadGroupEnd). closed_by first_run.histories first_run.groups first_run.writers x c.readers c.watches c.link) (after.read_groups ∙ leaves.read_groups)
    ∙ ap (λ (x : List ReaderEnd). closed_by first_run.histories first_run.groups first_run.writers (run_with count Operational None).read_groups x c.watches c.link) (r.only ∙ ap (λ (x : ReaderEnd). x ∷ []) end)
    ∙ ap (λ (x : List WatchEnd). closed_by first_run.histories first_run.groups first_run.writers (run_with count Operational None).read_groups (reader_by state held Start 0 [] ∷ []) x c.link) watches
    ∙ ap (λ (x : LinkEnd). closed_by first_run.histories first_run.groups first_run.writers (run_with count Operational None).read_groups (reader_by state held Start 0 [] ∷ []) [] x) (after.link ∙ leaves.link)

first-leaves : Leaves first_lost 1 Operational
unfolding small_plan built_in_config built_in_group built_in_writer built_in_read_group built_in_reader demo seven row_in statuses_in spelled_row spelled_statuses cut_words header_len header_bytes flags_bytes group_bytes security_bytes front_bytes frame_bytes byte number block when byte_when text publisher_id group_numbers group_when payload_header ids_when extras security_header parts header header_at ◌>>=◌ read flags1_at flags2_at front_times front_parts front_at behind_front message_at frame_at field_at surplus_at whole_at change_at patch_at content_at block_at text_at kind_at variant_at times_past parts_at data_value_at no_keys
first-leaves = record { groups = refl; writer_state = refl; log = refl; read_groups = refl; reader_state = refl; breaks = refl; recent = refl; link = refl }

last-leaves : Leaves last_lost 1 Operational
unfolding small_plan built_in_config built_in_group built_in_writer built_in_read_group built_in_reader demo seven row_in statuses_in spelled_row spelled_statuses cut_words header_len header_bytes flags_bytes group_bytes security_bytes front_bytes frame_bytes byte number block when byte_when text publisher_id group_numbers group_when payload_header ids_when extras security_header parts header header_at ◌>>=◌ read flags1_at flags2_at front_times front_parts front_at behind_front message_at frame_at field_at surplus_at whole_at change_at patch_at content_at block_at text_at kind_at variant_at times_past parts_at data_value_at no_keys
last-leaves = record { groups = refl; writer_state = refl; log = refl; read_groups = refl; reader_state = refl; breaks = refl; recent = refl; link = refl }

both-leaves : Leaves both_lost 0 PreOperational
unfolding small_plan built_in_config built_in_group built_in_writer built_in_read_group built_in_reader demo seven row_in statuses_in spelled_row spelled_statuses cut_words header_len header_bytes flags_bytes group_bytes security_bytes front_bytes frame_bytes byte number block when byte_when text publisher_id group_numbers group_when payload_header ids_when extras security_header parts header header_at ◌>>=◌ read flags1_at flags2_at front_times front_parts front_at behind_front message_at frame_at field_at surplus_at whole_at change_at patch_at content_at block_at text_at kind_at variant_at times_past parts_at data_value_at no_keys
both-leaves = record { groups = refl; writer_state = refl; log = refl; read_groups = refl; reader_state = refl; breaks = refl; recent = refl; link = refl }

module _ (law : FatedLaw) where
  pub first-reports : (link : MemoryLink) (closed : Closed) → IsPlayedOver link ((0, fates.Drop) ∷ []) closed → ReportsSo closed first_lost_run first_lost_text
  first-reports link closed over =
      let ends = first-so law link closed over in
      let k = ends-told law link ((0, fates.Drop) ∷ []) ((3, (0, fates.Drop)) ∷ []) closed refl refl refl over in
      let is = closes first_lost closed 1 Operational (Some first_held) (Some small_row) (Some 1) first-leaves ends (held-row first_lost closed (Some 1) ends refl) k.histories k.watches in
      record { closed_is = is; report_is = ap (report_text built_in_config) is ∙ first-text }

  pub last-reports : (link : MemoryLink) (closed : Closed) → IsPlayedOver link ((1, fates.Drop) ∷ []) closed → ReportsSo closed last_lost_run last_lost_text
  last-reports link closed over =
      let ends = last-so law link closed over in
      let k = ends-told law link ((1, fates.Drop) ∷ []) ((3, (1, fates.Drop)) ∷ []) closed refl refl refl over in
      let is = closes last_lost closed 1 Operational (Some (record first_held { number = Some 0 })) (Some small_row) (Some 0) last-leaves ends (held-row last_lost closed (Some 0) ends refl) k.histories k.watches in
      record { closed_is = is; report_is = ap (report_text built_in_config) is ∙ last-text }

  pub both-reports : (link : MemoryLink) (closed : Closed) → IsPlayedOver link ((0, fates.Drop) ∷ (1, fates.Drop) ∷ []) closed → ReportsSo closed both_lost_run both_lost_text
  both-reports link closed over =
      let ends = both-so law link closed over in
      let k = ends-told law link ((0, fates.Drop) ∷ (1, fates.Drop) ∷ []) ((4, (1, fates.Drop)) ∷ (3, (0, fates.Drop)) ∷ []) closed refl refl refl over in
      let is = closes both_lost closed 0 PreOperational None None None both-leaves ends (held-none both_lost closed ends) k.histories k.watches in
      record { closed_is = is; report_is = ap (report_text built_in_config) is ∙ both-text }
