-- A small relay meets the premises of the laws of gateways.
use Rattle.std.proofs.Common.{◌≡◌, refl, sym, ap, ◌∙◌, subst, arith, ℕ, zero, suc, ◌+◌, ◌<◌, ◌≤◌, ◌⊎◌, lit<, lit≤, inl, inr, Bool, true, false, List, [], ◌∷◌, ◌++◌, length, map, All, Contains, Some, None, Ok}
use Rattle.std.specs.Prelude.{◌==◌, slice_index_or, if◌then◌else◌}
use Rattle.std.proofs.lemmas.Bool.Decides.{nat_tests}
use Rattle.std.specs.Fmt.{digits}
use Rattle.std.specs.Str.{is_utf8, chars}
use Rattle.std.proofs.lemmas.List.{length-append}
use Rattle.std.proofs.lemmas.List.Elements.{All-cons, All-nil}
use Rattle.toml.proofs.OnLiterals.{toml_on_literals}
use Rattle.hex.proofs.OnLiterals.{hex_on_literals}
use Rattle.ua_binary.specs.ReadingValues.{block_at, text_at, kind_at, variant_at, times_past, parts_at, data_value_at}
use Rattle.uadp_header.specs.Formats.{◌>>=◌, read}
use Rattle.uadp_header.specs.Layout.{byte, number, block, when, byte_when, text, publisher_id, group_numbers, group_when, payload_header, ids_when, extras, security_header, parts, header, header_at}
use Rattle.frame_codec.specs.Contents.{field_at, surplus_at, whole_at, change_at, patch_at, content_at}
use Rattle.frame_codec.specs.Fronts.{flags1_at, flags2_at, times_past as front_times, parts_at as front_parts, front_at}
use Rattle.frame_codec.specs.Reading.{behind_front, message_at, frame_at}
use Rattle.ua_base.specs.Journal.{Entry, Sent, Got, Empty}
use Rattle.dataset_meta.specs.Metas.{HasGrown, IsMeta, MetaData}
use Rattle.row_words.specs.Belonging.{Belongs, row_in, statuses_in, spelled_row, spelled_statuses, cut_words}
use Rattle.uadp_header.specs.Spelling.{header_len, header_bytes, flags_bytes, group_bytes, security_bytes}
use Rattle.frame_codec.specs.Spelling.{front_bytes, frame_bytes}
use Rattle.pubsub_model.specs.Frames.{Whole}
use Rattle.pubsub_model.specs.Records.{Arrival, Came, Item}
use Rattle.ps_config.specs.BuiltIn.{demo, built_in_writer, built_in_group, built_in_reader, built_in_read_group, built_in_config}
use Rattle.ps_config.specs.Configs.{config_of, data_set_of, group_of, key_group_of, key_of, publisher_part, read_group_of, reader_of, writer_of}
use Rattle.ps_config.specs.FixedSound.{IsFixedSound}
use Rattle.ps_config.specs.Reading.{configuration}
use Rattle.ps_config.specs.Refusals.{table_faults, stands}
use Rattle.ps_config.specs.Settings.{settings_at}
use Rattle.ps_config.specs.Sound.{IsSound}
use Rattle.ps_config.specs.Types.{HasMetaTypes, HasTypes}
use Rattle.target_cells.specs.declared.origin.Origin.{Origin}
use Rattle.version_cell.specs.Cells.{IsCell, terms_of}
use Rattle.version_cell.specs.Histories.{own}
use Rattle.version_cell.specs.Passes.{IsPassOf, SeesLawful}
use Rattle.version_cell.specs.Terms.{IsEntry, quota}
use Rattle.writer_group.specs.Turns.{no_sample}
use Rattle.reader_group.specs.Settings.{no_keys}
use Rattle.session_model.specs.Deeds.{log_at}
use Rattle.session_model.specs.Events.{reader_at}
use Rattle.session_model.specs.Keeping.{IsPlan}
use Rattle.session_model.specs.Sends.{IsRun, Send, journal, send_entries, sends_of}
use Rattle.session_model.specs.Sets.{AreRowsOf, GrowTo, meta_in}
use Rattle.session_model.specs.Steps as steps
use Rattle.session_model.specs.Steps.{Plan, Step}
use Rattle.session_model.specs.Stores.{Store}
use Rattle.session_laws.specs.Headline.{InSession}
use Rattle.session_laws.specs.Reading.{IsMatchedIn, arrivals_at, first_number_of}
use Rattle.session_laws.specs.Witness.{closing_on, first_session, last_receives, seven, small_datagram, small_plan, small_row, tick_on, whole_session}
use Rattle.session_laws.proofs.SmallSessions.Meeting.{taken-of}
use Rattle.gateway_core.specs.Lived.{collected, plan_again}
use Rattle.gateway_core.specs.Sources.{HaveSources as HaveIndexes, IsSourceOf as IsIndexOf}
use Rattle.gateway_laws.specs.Gateways.{IsHonestAgain, IsHonestSource, IsRelay}
use Rattle.gateway_laws.specs.Lives.{Lives, ShowsOrigins}
use Rattle.gateway_laws.specs.Origins.{CameWith, IsMadeAt, IsUncutBetween, IsUncutSince, WasMade, origin_at}
use Rattle.gateway_laws.specs.Relays.{AreCollected, Collects, seconds, store_row, stores_of}
use Rattle.gateway_laws.specs.Sources.{HaveSources, IsSourceOf, source_at}
use Rattle.gateway_laws.specs.Telling.{AreUncut, HoldsTold, IsNumbered}
use Rattle.gateway_laws.specs.Versions.{HasStored}
use Rattle.gateway_laws.specs.Witness.{again_config, again_set, again_text, first_life, first_relay, first_round, first_source, gets, held_store, its_cell, its_sources, last_round, origin_with, pass_with, seven_entry, seven_stored, whole_life, whole_relay}
use Rattle.gateway_laws.proofs.Joined.{made-once}

-- ---- the second configuration

pub again-is-read : configuration again_text ≡ Ok again_config
unfolding toml_on_literals hex_on_literals is_utf8 chars digits configuration table_faults stands config_of publisher_part data_set_of key_of key_group_of writer_of group_of reader_of read_group_of settings_at header_len again_set built_in_writer built_in_group built_in_reader built_in_read_group built_in_config again_config
again-is-read = refl

pub record AgainLaws : Type 0 where
  pub sound : IsSound again_config
  pub fixed : IsFixedSound again_config
  pub types : HasTypes built_in_config

abbrev q : Plan
q = plan_again again_config

again-types : HasTypes built_in_config → HasTypes again_config
unfolding again_config built_in_config again_set
again-types types = record {
  publisher = types.publisher;
  port = types.port;
  metas = All-cons HasMetaTypes again_set [] (record { major = lit< tt; minor = lit< tt }) (All-nil HasMetaTypes);
  keygroups = types.keygroups;
  groups = types.groups;
  readgroups = types.readgroups;
}

again-grown : HasGrown again_set again_set
unfolding again_set
again-grown = record { fields = refl; quality = refl; major = refl }

grow-to : GrowTo again_config.dataset again_config.dataset
unfolding again_config
grow-to = (again-grown, tt)

again-plan : AgainLaws → IsPlan q
again-plan laws = record {
  good = record { sound = laws.sound; fixed = laws.fixed };
  types = again-types laws.types;
  fit = record { each = laws.sound.metas; room = λ k d below. (laws.sound.groups k d below).room };
  grow = grow-to;
  whole = laws.sound.metas;
}

matched-again : IsMatchedIn again_config 0 0 0 0
unfolding again_config built_in_config built_in_group built_in_writer built_in_read_group built_in_reader
matched-again = record {
  groups = record { publisher = refl; group_id = inl refl; version = inl refl; class_id = inl refl; layout = refl; security = refl; keygroup = refl };
  within = lit< tt;
  reads = record { within = lit< tt; id = refl; dataset = refl; offset = λ fixed. refl; size = λ fixed. refl };
}

pub numbered-again : IsNumbered again_config 0 0 0 0
unfolding again_config built_in_config built_in_group built_in_writer built_in_read_group built_in_reader
numbered-again = record { there = lit< tt; matched = matched-again; numbering = refl }

-- ---- its session

seven-belongs : Belongs again_set seven.row.words
unfolding again_set row_in statuses_in spelled_row spelled_statuses seven
seven-belongs = record {
  whole = refl;
  row = (
    record { is_value = lit< tt; fits = record { same_kind = refl; within = lit≤ tt }; is_status = refl },
    (
      record { is_value = lit< tt; fits = record { same_kind = refl; within = lit≤ tt }; is_status = refl },
      (
        record { is_value = lit< tt; fits = record { same_kind = refl; within = lit≤ tt }; is_status = refl },
        (record { is_value = lit< tt; fits = record { same_kind = refl; within = lit≤ tt }; is_status = refl }, tt),
      ),
    ),
  );
  spelled = refl;
}

seven-rows : (n : ℕ) → AreRowsOf again_config.dataset (seven_stored n ∷ [])
unfolding again_config
seven-rows n = (seven-belongs, tt)

abbrev first_steps : List Step
first_steps = seconds first_relay

abbrev whole_steps : List Step
whole_steps = seconds whole_relay

-- what each tick sends
first-sends : sends_of q (steps.Tick 100 false (seven_stored 1 ∷ []) (true ∷ []) ∷ []) ≡ record { group = 0; datagram = small_datagram 0 } ∷ []
unfolding again_config built_in_config built_in_group built_in_writer again_set seven row_in statuses_in spelled_row spelled_statuses cut_words header_len header_bytes flags_bytes group_bytes security_bytes front_bytes frame_bytes
first-sends = refl

last-sends : sends_of q (steps.Tick 0 true (seven_stored 2 ∷ []) (true ∷ []) ∷ first_steps) ≡ record { group = 0; datagram = small_datagram 1 } ∷ []
unfolding again_config built_in_config built_in_group built_in_writer again_set seven row_in statuses_in spelled_row spelled_statuses cut_words header_len header_bytes flags_bytes group_bytes security_bytes front_bytes frame_bytes
last-sends = refl

again-run : IsRun q whole_steps
again-run = ((lit≤ tt, refl), (sym (ap (λ (l : List Send). length l) last-sends), ((lit≤ tt, refl), (sym (ap (λ (l : List Send). length l) first-sends), tt))))

-- what its link tells
abbrev its_journal : List Entry
its_journal = Sent (small_datagram 0) ∷ Got (small_datagram 0) ∷ Empty ∷ Sent (small_datagram 1) ∷ Got (small_datagram 1) ∷ Empty ∷ []

again-journal : journal q whole_steps ≡ its_journal
again-journal =
    ap (λ (l : List Send). ((send_entries l (true ∷ []) ++ gets 0) ++ send_entries (sends_of q (steps.Tick 0 true (seven_stored 2 ∷ []) (true ∷ []) ∷ first_steps)) (true ∷ [])) ++ gets 1) first-sends
    ∙ ap (λ (l : List Send). Sent (small_datagram 0) ∷ Got (small_datagram 0) ∷ Empty ∷ (send_entries l (true ∷ []) ++ gets 1)) last-sends

pub honest-again : IsHonestAgain again_config 0 whole_relay
honest-again = taken-of q 0 whole_steps its_journal again-run again-journal ((0, lit< tt, refl), ((3, lit< tt, refl), tt))

-- ---- the source

first-numbered : (config_is : IsMatchedIn small_plan.config 0 0 0 0) → IsSourceOf small_plan.config (meta_in again_config.dataset 0) first_source
unfolding small_plan built_in_config built_in_group built_in_writer built_in_read_group built_in_reader demo again_config again_set first_source
first-numbered matched = record { group_there = lit< tt; matched = matched; name = refl; numbering = refl; fields = refl; major = refl; quality = refl }

one-set : length again_config.dataset ≡ 1
unfolding again_config
one-set = refl

one-source : IsMatchedIn small_plan.config 0 0 0 0 → (set : ℕ) → set < length again_config.dataset → IsSourceOf small_plan.config (meta_in again_config.dataset set) (source_at its_sources set)
one-source matched zero lt = first-numbered matched
one-source matched (suc k) lt = let one = one-set in absurd (omega (arith, lt, one))

sources-are : IsMatchedIn small_plan.config 0 0 0 0 → HaveSources small_plan.config again_config its_sources
sources-are matched = record { count = sym one-set; each = one-source matched }

-- ---- what it stored

first-stores : stores_of small_plan.config its_sources 0 first_session ≡ held_store 0 ∷ []
unfolding first_source small_plan built_in_config built_in_group built_in_writer built_in_read_group built_in_reader demo seven byte number block when byte_when text publisher_id group_numbers group_when payload_header ids_when extras security_header parts header header_at ◌>>=◌ read flags1_at flags2_at front_times front_parts front_at behind_front message_at frame_at field_at surplus_at whole_at change_at patch_at content_at block_at text_at kind_at variant_at times_past parts_at data_value_at no_keys
first-stores = refl

whole-stores : stores_of small_plan.config its_sources 0 whole_session ≡ held_store 1 ∷ held_store 0 ∷ []
unfolding first_source small_plan built_in_config built_in_group built_in_writer built_in_read_group built_in_reader demo seven byte number block when byte_when text publisher_id group_numbers group_when payload_header ids_when extras security_header parts header header_at ◌>>=◌ read flags1_at flags2_at front_times front_parts front_at behind_front message_at frame_at field_at surplus_at whole_at change_at patch_at content_at block_at text_at kind_at variant_at times_past parts_at data_value_at no_keys
whole-stores = refl

seven-row : (meta : MetaData) → meta ≡ again_set → row_in meta.fields seven.row.words ≡ small_row
unfolding again_set seven row_in statuses_in
seven-row meta e = ap (λ (m : MetaData). row_in m.fields seven.row.words) e

meta-is : meta_in again_config.dataset 0 ≡ again_set
unfolding again_config
meta-is = refl

collected-of : (now : List Step) (list : List Store) (n : ℕ) → stores_of small_plan.config its_sources 0 now ≡ list → length list ≡ n → store_row again_set list n ≡ small_row
    → AreCollected small_plan.config again_config its_sources now (seven_stored n ∷ [])
collected-of now list n are long row = record { count = sym one-set; each = each }
  where
    each : (set : ℕ) → set < length again_config.dataset → Rattle.gateway_laws.specs.Relays.IsCollected (meta_in again_config.dataset set) (stores_of small_plan.config its_sources set now) (slice_index_or (seven_stored n ∷ []) set no_sample)
    each zero lt = record {
      version = sym long ∙ ap length (sym are);
      belongs = subst (λ (m : MetaData). Belongs m seven.row.words) (sym meta-is) seven-belongs;
      row = seven-row (meta_in again_config.dataset 0) meta-is ∙ sym row ∙ ap (λ (m : MetaData). store_row m list n) (sym meta-is)
          ∙ ap (λ (k : ℕ). store_row (meta_in again_config.dataset 0) list k) (sym long) ∙ ap (λ (l : List Store). store_row (meta_in again_config.dataset 0) l (length l)) (sym are);
    }
    each (suc k) lt = let one = one-set in absurd (omega (arith, lt, one))

collects : Collects small_plan.config again_config its_sources whole_relay
collects = (
  collected-of whole_session (held_store 1 ∷ held_store 0 ∷ []) 2 whole-stores refl refl,
  (collected-of first_session (held_store 0 ∷ []) 1 first-stores refl refl, tt),
)

-- THE RELAY
pub small-relay : AgainLaws → InSession small_plan 0 0 0 0 whole_session → IsRelay small_plan again_config its_sources whole_relay
small-relay laws is = record {
  plan = is.plan;
  steps_are = is.steps_are;
  run = is.run;
  rise = is.rise;
  again_plan = again-plan laws;
  again_run = again-run;
  sources_are = sources-are is.matched;
  collects = collects;
}

pub honest-source : InSession small_plan 0 0 0 0 whole_session → IsHonestSource small_plan first_source whole_session
unfolding first_source
honest-source is = is.honest

-- ---- what is held, and told

pub row-again : (reader_at again_config 0 0 whole_steps).kept.row ≡ Some small_row
unfolding again_config built_in_config built_in_group built_in_writer built_in_read_group built_in_reader again_set seven byte number block when byte_when text publisher_id group_numbers group_when payload_header ids_when extras security_header parts header header_at ◌>>=◌ read flags1_at flags2_at front_times front_parts front_at behind_front message_at frame_at field_at surplus_at whole_at change_at patch_at content_at block_at text_at kind_at variant_at times_past parts_at data_value_at no_keys
row-again = refl

pub older-told : HoldsTold small_plan again_config first_source first_relay 0 0 0 0 1 1
unfolding first_source again_config small_plan built_in_config built_in_group built_in_writer built_in_read_group built_in_reader demo again_set seven row_in statuses_in spelled_row spelled_statuses byte number block when byte_when text publisher_id group_numbers group_when payload_header ids_when extras security_header parts header header_at ◌>>=◌ read flags1_at flags2_at front_times front_parts front_at behind_front message_at frame_at field_at surplus_at whole_at change_at patch_at content_at block_at text_at kind_at variant_at times_past parts_at data_value_at no_keys
older-told = record { holds = record { row = small_row; row_is = refl; number = 0; number_is = refl; named = refl }; told = refl }

pub newer-told : HoldsTold small_plan again_config first_source whole_relay 0 0 0 0 2 1
unfolding first_source again_config small_plan built_in_config built_in_group built_in_writer built_in_read_group built_in_reader demo again_set seven row_in statuses_in spelled_row spelled_statuses byte number block when byte_when text publisher_id group_numbers group_when payload_header ids_when extras security_header parts header header_at ◌>>=◌ read flags1_at flags2_at front_times front_parts front_at behind_front message_at frame_at field_at surplus_at whole_at change_at patch_at content_at block_at text_at kind_at variant_at times_past parts_at data_value_at no_keys
newer-told = record { holds = record { row = small_row; row_is = refl; number = 1; number_is = refl; named = refl }; told = refl }

pub logged-again : log_at q 0 0 whole_steps ≡ (0, 1) ∷ (1, 2) ∷ []
unfolding again_config built_in_config built_in_group built_in_writer again_set seven row_in statuses_in spelled_row spelled_statuses cut_words
logged-again = refl

-- ---- what was made, and when

made-at-first : IsMadeAt small_plan first_source first_session 1 (held_store 0)
unfolding first_source small_plan built_in_config built_in_group built_in_writer built_in_read_group built_in_reader demo seven byte number block when byte_when text publisher_id group_numbers group_when payload_header ids_when extras security_header parts header header_at ◌>>=◌ read flags1_at flags2_at front_times front_parts front_at behind_front message_at frame_at field_at surplus_at whole_at change_at patch_at content_at block_at text_at kind_at variant_at times_past parts_at data_value_at no_keys
made-at-first = record { entries = gets 0; before = tick_on []; ends = refl; stored = refl; number = refl; held = refl }

made-at-last : IsMadeAt small_plan first_source whole_session 2 (held_store 1)
unfolding first_source small_plan built_in_config built_in_group built_in_writer built_in_read_group built_in_reader demo seven byte number block when byte_when text publisher_id group_numbers group_when payload_header ids_when extras security_header parts header header_at ◌>>=◌ read flags1_at flags2_at front_times front_parts front_at behind_front message_at frame_at field_at surplus_at whole_at change_at patch_at content_at block_at text_at kind_at variant_at times_past parts_at data_value_at no_keys
made-at-last = record { entries = last_receives; before = closing_on first_session; ends = refl; stored = refl; number = refl; held = refl }

pub made-first : WasMade small_plan first_source whole_session 1 (held_store 0)
made-first = record { later = steps.Pump last_receives ∷ steps.Tick 0 true (seven ∷ []) (true ∷ []) ∷ []; now = first_session; split = refl; at = made-at-first }

pub made-last : WasMade small_plan first_source whole_session 2 (held_store 1)
made-last = record { later = []; now = whole_session; split = refl; at = made-at-last }

first-origin : (origin_at small_plan first_source first_session).version ≡ Some 1
unfolding row_in statuses_in spelled_row spelled_statuses cut_words first_source small_plan built_in_config built_in_group built_in_writer built_in_read_group built_in_reader demo seven byte number block when byte_when text publisher_id group_numbers group_when payload_header ids_when extras security_header parts header header_at ◌>>=◌ read flags1_at flags2_at front_times front_parts front_at behind_front message_at frame_at field_at surplus_at whole_at change_at patch_at content_at block_at text_at kind_at variant_at times_past parts_at data_value_at no_keys
first-origin = refl

last-origin : (origin_at small_plan first_source whole_session).version ≡ Some 1
unfolding row_in statuses_in spelled_row spelled_statuses cut_words first_source small_plan built_in_config built_in_group built_in_writer built_in_read_group built_in_reader demo seven byte number block when byte_when text publisher_id group_numbers group_when payload_header ids_when extras security_header parts header header_at ◌>>=◌ read flags1_at flags2_at front_times front_parts front_at behind_front message_at frame_at field_at surplus_at whole_at change_at patch_at content_at block_at text_at kind_at variant_at times_past parts_at data_value_at no_keys
last-origin = refl

came-first : CameWith small_plan first_source whole_session 1 1
unfolding made-first
came-first = record { made = held_store 0; was = made-first; version_is = first-origin }

came-last : CameWith small_plan first_source whole_session 2 1
unfolding made-last
came-last = record { made = held_store 1; was = made-last; version_is = last-origin }

-- ---- nothing is cut

-- what came to either reader
abbrev item_at : ℕ → Item
item_at place = record { moment = 100; stamp = None; frame = Whole place small_row }

uncut-again : IsUncutBetween q 0 0 0 0 first_steps whole_steps
unfolding again_config built_in_config built_in_group built_in_writer built_in_read_group built_in_reader again_set seven byte number block when byte_when text publisher_id group_numbers group_when payload_header ids_when extras security_header parts header header_at ◌>>=◌ read flags1_at flags2_at front_times front_parts front_at behind_front message_at frame_at field_at surplus_at whole_at change_at patch_at content_at block_at text_at kind_at variant_at times_past parts_at data_value_at no_keys
uncut-again = record { items = item_at 1 ∷ []; newer = refl }

uncut-last : IsUncutBetween small_plan 0 0 0 0 first_session whole_session
unfolding first_source small_plan built_in_config built_in_group built_in_writer built_in_read_group built_in_reader demo seven byte number block when byte_when text publisher_id group_numbers group_when payload_header ids_when extras security_header parts header header_at ◌>>=◌ read flags1_at flags2_at front_times front_parts front_at behind_front message_at frame_at field_at surplus_at whole_at change_at patch_at content_at block_at text_at kind_at variant_at times_past parts_at data_value_at no_keys
uncut-last = record { items = item_at 1 ∷ []; newer = refl }

uncut-tick : IsUncutBetween small_plan 0 0 0 0 first_session (closing_on first_session)
unfolding first_source small_plan built_in_config built_in_group built_in_writer built_in_read_group built_in_reader demo seven byte number block when byte_when text publisher_id group_numbers group_when payload_header ids_when extras security_header parts header header_at ◌>>=◌ read flags1_at flags2_at front_times front_parts front_at behind_front message_at frame_at field_at surplus_at whole_at change_at patch_at content_at block_at text_at kind_at variant_at times_past parts_at data_value_at no_keys
uncut-tick = record { items = []; newer = refl }

too-long : {A : Type 0} (one other : List Step) → one ≡ other → (length one ≡ length other → Path ℕ 0 1) → A
too-long one other e wrong = absurd (let no_way = wrong (ap length e) in omega (arith, no_way))

-- behind each of its steps since
since-first : (later between : List Step) → whole_session ≡ later ++ (between ++ first_session) → IsUncutBetween small_plan 0 0 0 0 first_session (between ++ first_session)
since-first later [] e = record { items = []; newer = refl }
since-first [] (x ∷ []) e = too-long whole_session (x ∷ first_session) e (λ wrong. omega (arith, wrong))
since-first (y ∷ []) (x ∷ []) e =
    let same : x ∷ first_session ≡ closing_on first_session = cc in subst (IsUncutBetween small_plan 0 0 0 0 first_session) (sym same) uncut-tick
since-first (y ∷ z ∷ later) (x ∷ []) e =
    too-long whole_session (y ∷ z ∷ later ++ (x ∷ first_session)) e (λ wrong. let long = length-append later (x ∷ first_session) in omega (arith, wrong, long))
since-first [] (x ∷ y ∷ []) e = subst (IsUncutBetween small_plan 0 0 0 0 first_session) e uncut-last
since-first (z ∷ later) (x ∷ y ∷ []) e =
    too-long whole_session (z ∷ later ++ (x ∷ y ∷ first_session)) e (λ wrong. let long = length-append later (x ∷ y ∷ first_session) in omega (arith, wrong, long))
since-first later (x ∷ y ∷ z ∷ between) e =
    too-long whole_session (later ++ (x ∷ y ∷ z ∷ between ++ first_session)) e
    (λ wrong. let long = length-append later (x ∷ y ∷ z ∷ between ++ first_session) in let more = length-append between first_session in omega (arith, wrong, long, more))

uncut-since : IsUncutSince small_plan first_source whole_session 1
unfolding first_source made-first
uncut-since made was later between split =
    let same = (made-once small_plan first_source whole_session 1 (held_store 0) made made-first was).1 in
    subst (λ (now : List Step). whole_session ≡ later ++ (between ++ now) → IsUncutBetween small_plan 0 0 0 0 now (between ++ now)) same (since-first later between) split

-- both versions, with nothing cut between
pub small-came : (old : CameWith small_plan first_source whole_session 1 1) × (new : CameWith small_plan first_source whole_session 2 1) × IsUncutBetween small_plan 0 0 0 0 old.was.now new.was.now
unfolding came-first came-last made-first made-last
small-came = (came-first, came-last, uncut-last)

pub uncut-small : AreUncut small_plan again_config first_source (last_round ∷ []) first_relay 0 0 0 0 1
uncut-small = record { reader = uncut-again; source_is = uncut-since }

-- ---- the gateway's own life

one-index : IsMatchedIn small_plan.config 0 0 0 0 → IsIndexOf small_plan.config (meta_in again_config.dataset 0) 0
unfolding small_plan built_in_config built_in_group built_in_writer built_in_read_group built_in_reader demo again_config again_set
one-index matched = record { place = (0, 0); group = 0; writer = 0; place_is = refl; group_there = lit< tt; matched = matched; name = refl; numbering = refl; fields = refl; major = refl; quality = refl }

each-index : IsMatchedIn small_plan.config 0 0 0 0 → (set : ℕ) → set < length again_config.dataset → IsIndexOf small_plan.config (meta_in again_config.dataset set) (slice_index_or (0 ∷ []) set 0)
each-index matched zero lt = one-index matched
each-index matched (suc k) lt = let one = one-set in absurd (omega (arith, lt, one))

pub its-indexes : IsMatchedIn small_plan.config 0 0 0 0 → HaveIndexes small_plan.config again_config (0 ∷ [])
its-indexes matched = record { count = sym one-set; each = each-index matched }

shown-first : seven_stored 1 ∷ [] ≡ collected (0 ∷ []) (pass_with (seven_entry ∷ []) ∷ [])
unfolding seven
shown-first = refl

shown-last : seven_stored 2 ∷ [] ≡ collected (0 ∷ []) (pass_with (seven_entry ∷ seven_entry ∷ []) ∷ [])
unfolding seven
shown-last = refl

told-first : origin_with 1 0 ≡ origin_at small_plan first_source first_session
unfolding row_in statuses_in spelled_row spelled_statuses cut_words first_source small_plan built_in_config built_in_group built_in_writer built_in_read_group built_in_reader demo seven byte number block when byte_when text publisher_id group_numbers group_when payload_header ids_when extras security_header parts header header_at ◌>>=◌ read flags1_at flags2_at front_times front_parts front_at behind_front message_at frame_at field_at surplus_at whole_at change_at patch_at content_at block_at text_at kind_at variant_at times_past parts_at data_value_at no_keys
told-first = refl

told-last : origin_with 2 1 ≡ origin_at small_plan first_source whole_session
unfolding row_in statuses_in spelled_row spelled_statuses cut_words first_source small_plan built_in_config built_in_group built_in_writer built_in_read_group built_in_reader demo seven byte number block when byte_when text publisher_id group_numbers group_when payload_header ids_when extras security_header parts header header_at ◌>>=◌ read flags1_at flags2_at front_times front_parts front_at behind_front message_at frame_at field_at surplus_at whole_at change_at patch_at content_at block_at text_at kind_at variant_at times_past parts_at data_value_at no_keys
told-last = refl

shows-one : (origin : Origin) (now : List Step) → origin ≡ origin_at small_plan first_source now → ShowsOrigins small_plan (0 ∷ []) its_sources now (origin ∷ [])
shows-one origin now e zero lt = e
shows-one origin now e (suc k) lt = absurd (omega (arith, lt))

pub small-lives : Lives small_plan (0 ∷ []) its_sources whole_relay whole_life
small-lives = (
  pass_with (seven_entry ∷ seven_entry ∷ []) ∷ [],
  origin_with 2 1 ∷ [],
  first_life,
  refl,
  shown-last,
  shows-one (origin_with 2 1) whole_session told-last,
  (pass_with (seven_entry ∷ []) ∷ [], origin_with 1 0 ∷ [], [], refl, shown-first, shows-one (origin_with 1 0) first_session told-first, refl),
)

-- ---- a pass of the target

its-meta : AgainLaws → IsMeta again_set.fields
unfolding again_config
its-meta laws = laws.sound.metas 0 again_set (lit< tt)

pub its-cell : AgainLaws → IsCell its_cell
its-cell laws = record { eight = refl; small = lit< tt; meta = its-meta laws }

pub its-pass : IsPassOf its_cell (pass_with (seven_entry ∷ seven_entry ∷ []))
its-pass = record { name = refl; terms = refl }

entry-is : AgainLaws → IsEntry 8 (terms_of its_cell.quotas its_cell.meta) seven_entry
unfolding seven
entry-is laws = record { author = lit< tt; row = record { whole = refl; meta = again_set; is_meta = its-meta laws; of_shape = refl; belongs = seven-belongs } }

other-author : (k : ℕ) → (0 == suc k) ≡ false
other-author k = grind (arith, nat_tests)

none-own : (k : ℕ) → length (own (suc k) (seven_entry ∷ seven_entry ∷ [])) ≡ 0
none-own k =
    ap (λ (b : Bool). length (if b then seven_entry ∷ own (suc k) (seven_entry ∷ []) else own (suc k) (seven_entry ∷ []))) (other-author k)
    ∙ ap (λ (b : Bool). length (if b then seven_entry ∷ [] else [])) (other-author k)

pub its-lawful : AgainLaws → SeesLawful (pass_with (seven_entry ∷ seven_entry ∷ []))
its-lawful laws = record {
  entries = All-cons (IsEntry 8 terms) seven_entry (seven_entry ∷ []) (entry-is laws) (All-cons (IsEntry 8 terms) seven_entry [] (entry-is laws) (All-nil (IsEntry 8 terms)));
  within = within;
}
  where
    terms : List ℕ
    terms = terms_of its_cell.quotas its_cell.meta

    within : (author : ℕ) → author < 8 → length (own author (seven_entry ∷ seven_entry ∷ [])) ≤ quota author terms
    within zero lt = lit≤ tt
    within (suc k) lt = omega (arith, none-own k)

pub its-stored : HasStored (held_store 1 ∷ held_store 0 ∷ []) its_cell.meta (pass_with (seven_entry ∷ seven_entry ∷ []))
unfolding again_set row_in statuses_in
its-stored = refl
