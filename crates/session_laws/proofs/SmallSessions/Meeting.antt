-- A small session meets the headline's premises.
use Rattle.std.proofs.Common.{None, ◌≡◌, refl, sym, ap, ◌∙◌, subst, arith, ℕ, zero, suc, ◌<◌, ◌≤◌, lit<, lit≤, true, false, List, [], ◌∷◌, ◌++◌, length, map, append-nil, append_assoc, All, Contains, Some, inl, inr}
use Rattle.std.specs.Prelude.{slice_index_or}
use Rattle.ua_binary.specs.ReadingValues.{block_at, text_at, kind_at, variant_at, times_past, parts_at, data_value_at}
use Rattle.uadp_header.specs.Formats.{◌>>=◌, read}
use Rattle.uadp_header.specs.Layout.{byte, number, block, when, byte_when, text, publisher_id, group_numbers, group_when, payload_header, ids_when, extras, security_header, parts, header, header_at}
use Rattle.frame_codec.specs.Contents.{field_at, surplus_at, whole_at, change_at, patch_at, content_at}
use Rattle.frame_codec.specs.Fronts.{flags1_at, flags2_at, times_past as front_times, parts_at as front_parts, front_at}
use Rattle.frame_codec.specs.Reading.{behind_front, message_at, frame_at}
use Rattle.pubsub_model.specs.declared.reading.Why.TheVariants.{Start}
use Rattle.ua_base.specs.Journal.{Entry, Sent, SendFailed, Got, Empty, Long, ReceiveFailed}
use Rattle.dataset_meta.specs.Metas.{MetaData, HasGrown, IsMeta}
use Rattle.row_words.specs.Belonging.{Belongs, row_in, statuses_in, spelled_row, spelled_statuses, cut_words}
use Rattle.uadp_header.specs.Spelling.{header_len, header_bytes, flags_bytes, group_bytes, security_bytes}
use Rattle.frame_codec.specs.Spelling.{front_bytes, frame_bytes}
use Rattle.ps_config.specs.declared.parts.GroupPart.{GroupPart}
use Rattle.ps_config.specs.BuiltIn.{demo, built_in_writer, built_in_group, built_in_reader, built_in_read_group, built_in_config}
use Rattle.ps_config.specs.Sound.{IsSound}
use Rattle.ps_config.specs.FixedSound.{IsFixedSound}
use Rattle.group_laws.specs.Matching.{IsMatchedTo}
use Rattle.writer_group.specs.declared.sampled.Sampled.{Sampled}
use Rattle.writer_group.specs.Turns.{no_sample}
use Rattle.reader_group.specs.Settings.{no_keys}
use Rattle.session_model.specs.Steps.{Plan, Step, Pump}
use Rattle.session_model.specs.Counts.{most_ticks, ticks_in, is_closed}
use Rattle.session_model.specs.Sets.{AreRowsOf, GrowTo, meta_in}
use Rattle.session_model.specs.Keeping.{AreSteps, IsPlan, MayCome}
use Rattle.ps_config.specs.Types.{HasTypes}
use Rattle.session_model.specs.Sends.{Send, IsRun, journal, send_entries, sends_of}
use Rattle.pubsub_states.specs.declared.state.State.TheVariants.{Operational}
use Rattle.ps_report.specs.FirstRun.{first_reader, first_run}
use Rattle.ps_report.specs.Told.{TellsEnds}
use Rattle.session_model.specs.Closing.{IsClosedAfter, IsReaderEnd, IsWriterEnd, group_end, link_end, read_group_end}
use Rattle.session_model.specs.Deeds.{group_indexes}
use Rattle.session_model.specs.Events.{reader_at, read_group_indexes}
use Rattle.session_laws.specs.Reading.{IsMatchedIn}
use Rattle.session_laws.specs.Headline.{InSession}
use Rattle.session_laws.specs.Sessions.{AreVersions, HasSample, SamplesRise, TakesWhatWasSent}
use Rattle.session_laws.specs.Telling.{HasRun}
use Rattle.session_laws.specs.Witness.{small_plan, seven, small_datagram, tick_on, closing_on, first_session, lost_session, lossy_session, whole_session, small_row, small_rows}
use Rattle.session_laws.proofs.HeldRows.Taking.{honest-takes}

pub record BuiltInLaws : Type 0 where
  pub sound : IsSound built_in_config
  pub types : HasTypes built_in_config
  pub fixed : IsFixedSound built_in_config
  pub matched : IsMatchedTo built_in_config built_in_read_group 0 built_in_group 0

pub grown : HasGrown demo demo
unfolding demo
grown = record { fields = refl; quality = refl; major = refl }

grow-to : GrowTo built_in_config.dataset small_plan.full
unfolding built_in_config small_plan
grow-to = (grown, tt)

room-is : (sound : IsSound built_in_config) → All (λ (group : GroupPart). Rattle.ps_config.specs.Rooms.lacks_room built_in_config.publisher.id built_in_config.dataset group ≡ false) built_in_config.group
room-is sound = λ k d below. (sound.groups k d below).room

whole-metas : IsSound built_in_config → All (λ (meta : MetaData). IsMeta meta.fields) small_plan.full
unfolding built_in_config small_plan
whole-metas sound = sound.metas

pub plan-is : BuiltInLaws → IsPlan small_plan
unfolding small_plan
plan-is laws = record {
  good = record { sound = laws.sound; fixed = laws.fixed };
  types = laws.types;
  fit = record { each = laws.sound.metas; room = room-is laws.sound };
  grow = grow-to;
  whole = whole-metas laws.sound;
}

pub seven-belongs : Belongs demo seven.row.words
unfolding demo row_in statuses_in spelled_row spelled_statuses seven
seven-belongs = record {
  whole = refl;
  row = (
    record { is_value = lit< tt; fits = record { same_kind = refl; within = lit≤ tt }; is_status = refl },
    (
      record { is_value = lit< tt; fits = record { same_kind = refl; within = lit≤ tt }; is_status = refl },
      (
        record { is_value = lit< tt; fits = record { same_kind = refl; within = lit≤ tt }; is_status = refl },
        (record { is_value = lit< tt; fits = record { same_kind = refl; within = lit≤ tt }; is_status = refl }, tt),
      ),
    ),
  );
  spelled = refl;
}

seven-rows : AreRowsOf small_plan.full (seven ∷ [])
unfolding small_plan
seven-rows = (seven-belongs, tt)

-- a tick of 100 milliseconds behind such steps
may-tick : (before : List Step) → is_closed before ≡ false → ticks_in before < most_ticks → MayCome small_plan before 100 false (seven ∷ [])
may-tick before running left = record { rows = seven-rows; short = lit≤ tt; running = running; left = λ is_open. left; still = λ closing. absurd (cc) }

-- the closing one
may-close : (before : List Step) → is_closed before ≡ false → MayCome small_plan before 0 true (seven ∷ [])
may-close before running = record { rows = seven-rows; short = lit≤ tt; running = running; left = λ is_open. absurd (cc); still = λ closing. refl }

pub first-are : AreSteps small_plan first_session
first-are = (lit< tt, (may-tick [] refl (lit< tt), tt))

lost-are : AreSteps small_plan lost_session
lost-are = (lit< tt, (may-tick [] refl (lit< tt), tt))

lossy-are : AreSteps small_plan lossy_session
lossy-are = (lit< tt, (may-tick lost_session refl (lit< tt), lost-are))

-- ---- what the ticks send

pub first-sends : sends_of small_plan (tick_on []) ≡ record { group = 0; datagram = small_datagram 0 } ∷ []
unfolding small_plan built_in_config built_in_group built_in_writer built_in_read_group built_in_reader demo seven row_in statuses_in spelled_row spelled_statuses cut_words header_len header_bytes flags_bytes group_bytes security_bytes front_bytes frame_bytes
first-sends = refl

second-sends : sends_of small_plan (tick_on (Pump (Empty ∷ []) ∷ tick_on [])) ≡ record { group = 0; datagram = small_datagram 1 } ∷ []
unfolding small_plan built_in_config built_in_group built_in_writer built_in_read_group built_in_reader demo seven row_in statuses_in spelled_row spelled_statuses cut_words header_len header_bytes flags_bytes group_bytes security_bytes front_bytes frame_bytes
second-sends = refl

pub first-run : IsRun small_plan first_session
first-run = ((lit≤ tt, refl), (sym (ap (λ (l : List Send). length l) first-sends), tt))

lossy-run : IsRun small_plan lossy_session
lossy-run = ((lit≤ tt, refl), (sym (ap (λ (l : List Send). length l) second-sends), (refl, (sym (ap (λ (l : List Send). length l) first-sends), tt))))

first-journal : journal small_plan first_session ≡ Sent (small_datagram 0) ∷ Got (small_datagram 0) ∷ Empty ∷ []
first-journal = ap (λ (l : List Send). send_entries l (true ∷ []) ++ Got (small_datagram 0) ∷ Empty ∷ []) first-sends

lossy-journal : journal small_plan lossy_session ≡ Sent (small_datagram 0) ∷ Empty ∷ Sent (small_datagram 1) ∷ Got (small_datagram 1) ∷ Empty ∷ []
lossy-journal =
    ap (λ (l : List Send). ((send_entries l (true ∷ []) ++ Empty ∷ []) ++ send_entries (sends_of small_plan (tick_on (Pump (Empty ∷ []) ∷ tick_on []))) (true ∷ [])) ++ Got (small_datagram 1) ∷ Empty ∷ []) first-sends
    ∙ ap (λ (l : List Send). Sent (small_datagram 0) ∷ Empty ∷ (send_entries l (true ∷ []) ++ Got (small_datagram 1) ∷ Empty ∷ [])) second-sends

-- ---- what is got was sent

-- each datagram that is got was sent before
abbrev pub AreSent : List Entry → List Entry → Type 0
AreSent so_far [] = Unit {0}
AreSent so_far (Sent d ∷ list) = AreSent (so_far ++ Sent d ∷ []) list
AreSent so_far (SendFailed ∷ list) = AreSent (so_far ++ SendFailed ∷ []) list
AreSent so_far (Got d ∷ list) = Contains so_far (Sent d) × AreSent (so_far ++ Got d ∷ []) list
AreSent so_far (Empty ∷ list) = AreSent (so_far ++ Empty ∷ []) list
AreSent so_far (Long len ∷ list) = AreSent (so_far ++ Long len ∷ []) list
AreSent so_far (ReceiveFailed ∷ list) = AreSent (so_far ++ ReceiveFailed ∷ []) list

later-sent : (so_far : List Entry) (e : Entry) (list : List Entry) → AreSent so_far (e ∷ list) → AreSent (so_far ++ e ∷ []) list
later-sent so_far (Sent d) list are = are
later-sent so_far SendFailed list are = are
later-sent so_far (Got d) list are = are.1
later-sent so_far Empty list are = are
later-sent so_far (Long len) list are = are
later-sent so_far ReceiveFailed list are = are

here-sent : (so_far : List Entry) (e : Entry) (list : List Entry) (d : List ℕ) → AreSent so_far (e ∷ list) → e ≡ Got d → Contains so_far (Sent d)
here-sent so_far (Sent b) list d are same = absurd (cc)
here-sent so_far SendFailed list d are same = absurd (cc)
here-sent so_far (Got b) list d are same = let is : b ≡ d = cc in subst (λ (x : List ℕ). Contains so_far (Sent x)) is are.0
here-sent so_far Empty list d are same = absurd (cc)
here-sent so_far (Long len) list d are same = absurd (cc)
here-sent so_far ReceiveFailed list d are same = absurd (cc)

pub all-sent : (list so_far before after : List Entry) (d : List ℕ) → AreSent so_far list → list ≡ before ++ Got d ∷ after → Contains (so_far ++ before) (Sent d)
all-sent [] so_far [] after d are same = absurd (cc)
all-sent [] so_far (b ∷ before) after d are same = absurd (cc)
all-sent (e ∷ list) so_far [] after d are same =
    let head : e ≡ Got d = cc in subst (λ (l : List Entry). Contains l (Sent d)) (sym (append-nil so_far)) (here-sent so_far e list d are head)
all-sent (e ∷ list) so_far (b ∷ before) after d are same =
    let head : e ≡ b = cc in
    let rest : list ≡ before ++ Got d ∷ after = cc in
    subst (λ (l : List Entry). Contains l (Sent d)) (append_assoc so_far (e ∷ []) before ∙ ap (λ (x : Entry). so_far ++ x ∷ before) head)
    (all-sent list (so_far ++ e ∷ []) before after d (later-sent so_far e list are) rest)

pub taken-of : (p : Plan) (r : ℕ) (steps : List Step) (list : List Entry) → IsRun p steps → journal p steps ≡ list → AreSent [] list → TakesWhatWasSent p r steps
taken-of p r steps list run same are = honest-takes p r steps run (λ before after d split. all-sent list [] before after d are (sym same ∙ split))

-- ---- what is held

pub first-held : (reader_at small_plan.config 0 0 first_session).kept.row ≡ Some small_row
unfolding small_plan built_in_config built_in_group built_in_writer built_in_read_group built_in_reader demo seven byte number block when byte_when text publisher_id group_numbers group_when payload_header ids_when extras security_header parts header header_at ◌>>=◌ read flags1_at flags2_at front_times front_parts front_at behind_front message_at frame_at field_at surplus_at whole_at change_at patch_at content_at block_at text_at kind_at variant_at times_past parts_at data_value_at no_keys
first-held = refl

pub lossy-held : (reader_at small_plan.config 0 0 lossy_session).kept.row ≡ Some small_row
unfolding small_plan built_in_config built_in_group built_in_writer built_in_read_group built_in_reader demo seven byte number block when byte_when text publisher_id group_numbers group_when payload_header ids_when extras security_header parts header header_at ◌>>=◌ read flags1_at flags2_at front_times front_parts front_at behind_front message_at frame_at field_at surplus_at whole_at change_at patch_at content_at block_at text_at kind_at variant_at times_past parts_at data_value_at no_keys
lossy-held = refl

-- ---- the premises

pub first-rise : SamplesRise small_plan first_session
first-rise = (λ index now sample has. absurd has, tt)

lossy-rise : SamplesRise small_plan lossy_session
lossy-rise = (again, (λ index now sample has. absurd has, tt))
  where
    again : (index : ℕ) (now : MetaData) (sample : Sampled) → HasSample small_plan (Pump (Empty ∷ []) ∷ tick_on []) index now sample → sample.version ≤ (slice_index_or (seven ∷ []) index no_sample).version
    again index now sample (inl has) = let same : (slice_index_or (seven ∷ []) index no_sample).version ≡ sample.version = ap (λ (s : Sampled). s.version) has.0 in omega (arith, same)
    again index now sample (inr none) = absurd none

pub matched-is : BuiltInLaws → IsMatchedIn small_plan.config 0 0 0 0
unfolding small_plan built_in_config
matched-is laws = laws.matched

pub there-is : 0 < length small_plan.config.group
unfolding small_plan built_in_config
there-is = lit< tt

pub in-first : BuiltInLaws → InSession small_plan 0 0 0 0 first_session
in-first laws = record {
  plan = plan-is laws;
  steps_are = first-are;
  run = first-run;
  rise = first-rise;
  there = there-is;
  matched = matched-is laws;
  honest = taken-of small_plan 0 first_session (Sent (small_datagram 0) ∷ Got (small_datagram 0) ∷ Empty ∷ []) first-run first-journal ((0, lit< tt, refl), tt);
}

-- ---- the whole one

closing-sends : sends_of small_plan (closing_on first_session) ≡ record { group = 0; datagram = small_datagram 1 } ∷ []
unfolding small_plan built_in_config built_in_group built_in_writer built_in_read_group built_in_reader demo seven row_in statuses_in spelled_row spelled_statuses cut_words header_len header_bytes flags_bytes group_bytes security_bytes front_bytes frame_bytes
closing-sends = refl

whole-are : AreSteps small_plan whole_session
whole-are = (lit< tt, (may-close first_session refl, first-are))

whole-run : IsRun small_plan whole_session
whole-run = ((lit≤ tt, refl), (sym (ap (λ (l : List Send). length l) closing-sends), ((lit≤ tt, refl), (sym (ap (λ (l : List Send). length l) first-sends), tt))))

whole-journal : journal small_plan whole_session ≡ Sent (small_datagram 0) ∷ Got (small_datagram 0) ∷ Empty ∷ Sent (small_datagram 1) ∷ Got (small_datagram 1) ∷ Empty ∷ []
whole-journal =
    ap (λ (l : List Send). ((send_entries l (true ∷ []) ++ Got (small_datagram 0) ∷ Empty ∷ []) ++ send_entries (sends_of small_plan (closing_on first_session)) (true ∷ [])) ++ Got (small_datagram 1) ∷ Empty ∷ []) first-sends
    ∙ ap (λ (l : List Send). Sent (small_datagram 0) ∷ Got (small_datagram 0) ∷ Empty ∷ (send_entries l (true ∷ []) ++ Got (small_datagram 1) ∷ Empty ∷ [])) closing-sends

whole-rise : SamplesRise small_plan whole_session
whole-rise = (again, (λ index now sample has. absurd has, tt))
  where
    again : (index : ℕ) (now : MetaData) (sample : Sampled) → HasSample small_plan first_session index now sample → sample.version ≤ (slice_index_or (seven ∷ []) index no_sample).version
    again index now sample (inl has) = let same : (slice_index_or (seven ∷ []) index no_sample).version ≡ sample.version = ap (λ (s : Sampled). s.version) has.0 in omega (arith, same)
    again index now sample (inr none) = absurd none

pub in-whole : BuiltInLaws → InSession small_plan 0 0 0 0 whole_session
in-whole laws = record {
  plan = plan-is laws;
  steps_are = whole-are;
  run = whole-run;
  rise = whole-rise;
  there = there-is;
  matched = matched-is laws;
  honest = taken-of small_plan 0 whole_session (Sent (small_datagram 0) ∷ Got (small_datagram 0) ∷ Empty ∷ Sent (small_datagram 1) ∷ Got (small_datagram 1) ∷ Empty ∷ []) whole-run whole-journal
      ((0, lit< tt, refl), ((3, lit< tt, refl), tt));
}

-- what it closes as
whole-reader : IsReaderEnd small_plan whole_session (0, 0) first_reader
unfolding small_plan built_in_config built_in_group built_in_writer built_in_read_group built_in_reader demo seven row_in statuses_in spelled_row spelled_statuses byte number block when byte_when text publisher_id group_numbers group_when payload_header ids_when extras security_header parts header header_at ◌>>=◌ read flags1_at flags2_at front_times front_parts front_at behind_front message_at frame_at field_at surplus_at whole_at change_at patch_at content_at block_at text_at kind_at variant_at times_past parts_at data_value_at no_keys
whole-reader = record { state = refl; shows = record { row = refl; number = refl; belongs = seven-belongs; why = refl; breaks = refl; recent = refl } }

whole-writer : IsWriterEnd small_plan whole_session (0, 0) (record { state = Operational; log = (0, 1) ∷ (1, 1) ∷ [] })
unfolding small_plan built_in_config built_in_group built_in_writer built_in_read_group built_in_reader demo seven row_in statuses_in spelled_row spelled_statuses cut_words header_len header_bytes flags_bytes group_bytes security_bytes front_bytes frame_bytes
whole-writer = record { state = refl; log = refl }

whole-groups : first_run.groups ≡ map (group_end small_plan whole_session) (group_indexes small_plan.config)
unfolding small_plan built_in_config built_in_group built_in_writer built_in_read_group built_in_reader demo seven row_in statuses_in spelled_row spelled_statuses cut_words header_len header_bytes flags_bytes group_bytes security_bytes front_bytes frame_bytes
whole-groups = refl

whole-read-groups : first_run.read_groups ≡ map (read_group_end small_plan whole_session) (read_group_indexes small_plan.config)
unfolding small_plan built_in_config built_in_group built_in_writer built_in_read_group built_in_reader demo seven row_in statuses_in spelled_row spelled_statuses byte number block when byte_when text publisher_id group_numbers group_when payload_header ids_when extras security_header parts header header_at ◌>>=◌ read flags1_at flags2_at front_times front_parts front_at behind_front message_at frame_at field_at surplus_at whole_at change_at patch_at content_at block_at text_at kind_at variant_at times_past parts_at data_value_at no_keys
whole-read-groups = refl

whole-link : first_run.link ≡ link_end small_plan whole_session
unfolding small_plan built_in_config built_in_group built_in_writer built_in_read_group built_in_reader demo seven row_in statuses_in spelled_row spelled_statuses cut_words header_len header_bytes flags_bytes group_bytes security_bytes front_bytes frame_bytes
whole-link = refl

pub closed-whole : TellsEnds built_in_config first_run → IsClosedAfter small_plan whole_session first_run
unfolding small_plan built_in_config built_in_group built_in_read_group
closed-whole told = record { groups = whole-groups; writers = (whole-writer, tt); read_groups = whole-read-groups; readers = (whole-reader, tt); link = whole-link; told = told }

row-of-seven : (index : ℕ) → row_in (meta_in small_plan.full index).fields (slice_index_or (seven ∷ []) index no_sample).row.words ≡ small_rows index (slice_index_or (seven ∷ []) index no_sample).version
unfolding small_plan demo seven row_in statuses_in
row-of-seven zero = refl
row-of-seven (suc index) = refl

pub versions-whole : AreVersions small_plan whole_session small_rows
versions-whole index now sample (inl has) = subst (λ (s : Sampled). row_in (meta_in small_plan.full index).fields s.row.words ≡ small_rows index s.version) has.0 (row-of-seven index)
versions-whole index now sample (inr (inl has)) = subst (λ (s : Sampled). row_in (meta_in small_plan.full index).fields s.row.words ≡ small_rows index s.version) has.0 (row-of-seven index)
versions-whole index now sample (inr (inr none)) = absurd none

pub run-whole : BuiltInLaws → HasRun small_plan whole_session small_rows
run-whole laws = record { plan = plan-is laws; steps_are = whole-are; run = whole-run; rise = whole-rise; versions = versions-whole }

-- ---- the lost one

lost-run : IsRun small_plan lost_session
lost-run = (refl, (sym (ap (λ (l : List Send). length l) first-sends), tt))

lost-journal : journal small_plan lost_session ≡ Sent (small_datagram 0) ∷ Empty ∷ []
lost-journal = ap (λ (l : List Send). send_entries l (true ∷ []) ++ Empty ∷ []) first-sends

lost-rise : SamplesRise small_plan lost_session
lost-rise = (λ index now sample has. absurd has, tt)

pub in-lost : BuiltInLaws → InSession small_plan 0 0 0 0 lost_session
in-lost laws = record {
  plan = plan-is laws;
  steps_are = lost-are;
  run = lost-run;
  rise = lost-rise;
  there = there-is;
  matched = matched-is laws;
  honest = taken-of small_plan 0 lost_session (Sent (small_datagram 0) ∷ Empty ∷ []) lost-run lost-journal tt;
}

pub lost-waits : ((reader_at small_plan.config 0 0 lost_session).kept.row ≡ None) × ((reader_at small_plan.config 0 0 lost_session).kept.why ≡ Start)
unfolding small_plan built_in_config built_in_group built_in_writer built_in_read_group built_in_reader demo
lost-waits = (refl, refl)

pub in-lossy : BuiltInLaws → InSession small_plan 0 0 0 0 lossy_session
in-lossy laws = record {
  plan = plan-is laws;
  steps_are = lossy-are;
  run = lossy-run;
  rise = lossy-rise;
  there = there-is;
  matched = matched-is laws;
  honest = taken-of small_plan 0 lossy_session (Sent (small_datagram 0) ∷ Empty ∷ Sent (small_datagram 1) ∷ Got (small_datagram 1) ∷ Empty ∷ []) lossy-run lossy-journal ((2, lit< tt, refl), tt);
}
