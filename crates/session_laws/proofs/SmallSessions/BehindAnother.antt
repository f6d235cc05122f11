-- Sessions in which an old key frame comes again behind the closing tick meet the premises of what is said of readers with no numbering.
use Rattle.std.proofs.Common.{◌≡◌, refl, sym, ap, ◌∙◌, subst, ℕ, zero, suc, ◌+◌, ◌<◌, ◌≤◌, ◌⊎◌, arith, lit<, lit≤, inl, inr, true, false, List, [], ◌∷◌, ◌++◌, length, map, All, Contains, Some, None, Ok}
use Rattle.std.specs.Prelude.{codes, slice_index_or}
use Rattle.std.specs.Fmt.{digits}
use Rattle.std.specs.Str.{is_utf8, chars}
use Rattle.std.proofs.lemmas.List.{length-append}
use Rattle.std.proofs.lemmas.List.Elements.{All-cons, All-nil}
use Rattle.toml.proofs.OnLiterals.{toml_on_literals}
use Rattle.hex.proofs.OnLiterals.{hex_on_literals}
use Rattle.ua_binary.specs.ReadingValues.{block_at, text_at, kind_at, variant_at, times_past, parts_at, data_value_at}
use Rattle.uadp_header.specs.Formats.{◌>>=◌, read}
use Rattle.uadp_header.specs.Layout.{byte, number, block, when, byte_when, text, publisher_id, group_numbers, group_when, payload_header, ids_when, extras, security_header, parts, header, header_at}
use Rattle.frame_codec.specs.Contents.{field_at, surplus_at, whole_at, change_at, patch_at, content_at}
use Rattle.frame_codec.specs.Fronts.{flags1_at, flags2_at, times_past as front_times, parts_at as front_parts, front_at}
use Rattle.frame_codec.specs.Reading.{behind_front, message_at, frame_at}
use Rattle.ua_base.specs.Journal.{Entry, Sent, Got, Empty}
use Rattle.dataset_meta.specs.DataValues.{DataValue}
use Rattle.dataset_meta.specs.Metas.{IsMeta, MetaData}
use Rattle.dataset_meta.specs.Rows.{row_cut}
use Rattle.row_words.specs.Belonging.{Belongs, row_in, statuses_in, spelled_row, spelled_statuses, cut_words}
use Rattle.uadp_header.specs.Spelling.{header_len, header_bytes, flags_bytes, group_bytes, security_bytes}
use Rattle.frame_codec.specs.Spelling.{front_bytes, frame_bytes}
use Rattle.config_tables.specs.declared.words.Layout.TheVariants as layouts
use Rattle.config_tables.specs.declared.words.Security.TheVariants as security
use Rattle.pubsub_model.specs.Cadence.{WriterTurn}
use Rattle.pubsub_model.specs.Frames.{Whole}
use Rattle.pubsub_model.specs.Records.{Arrival, Came, Item}
use Rattle.ps_config.specs.BuiltIn.{demo, built_in_writer, built_in_group, built_in_config}
use Rattle.ps_config.specs.Configs.{config_of, data_set_of, group_of, key_group_of, key_of, publisher_part, read_group_of, reader_of, writer_of}
use Rattle.ps_config.specs.FixedSound.{IsFixedSound}
use Rattle.ps_config.specs.Reading.{configuration}
use Rattle.ps_config.specs.Refusals.{table_faults, stands}
use Rattle.ps_config.specs.Settings.{settings_at}
use Rattle.ps_config.specs.Sound.{IsSound}
use Rattle.ps_config.specs.Types.{HasReadGroupTypes, HasTypes}
use Rattle.writer_group.specs.declared.sampled.Sampled.{Sampled}
use Rattle.writer_group.specs.Parts.{group_at}
use Rattle.writer_group.specs.Turns.{GroupDeed, GroupTurn, no_sample, took_by, writer_turn}
use Rattle.message_guard.specs.Opening.{open_pass}
use Rattle.reader_group.specs.Opening.{Opened, verdict}
use Rattle.reader_group.specs.Payloads.{Messages, pieces}
use Rattle.reader_group.specs.Members.{seat_at}
use Rattle.reader_group.specs.Settings.{no_keys, setting_of}
use Rattle.group_laws.specs.TurnItems.{IsUncut}
use Rattle.session_model.specs.Counts.{most_taken}
use Rattle.session_model.specs.Deeds.{Deed, group_past, has_turn, turn_input}
use Rattle.session_model.specs.Keeping.{IsPlan, MayCome}
use Rattle.session_model.specs.Sends.{IsPump, IsRun, Send, journal, send_entries, sends_of}
use Rattle.session_model.specs.Sets.{AreRowsOf, GrowTo, meta_in}
use Rattle.session_model.specs.Steps.{Step, Pump, Tick}
use Rattle.session_laws.specs.Bare.{CameQuietly, ClosingGotLast, ClosingGotSinceLast, NoOtherBehind, NoOtherKeys}
use Rattle.session_laws.specs.Headline.{InSession, meta_of}
use Rattle.session_laws.specs.Newest.{CameIn, ClosesBefore, EachPart, HasPartFor, closing_deeds, closing_turn}
use Rattle.session_laws.specs.Reading.{IsMatchedIn, arrivals_at, first_number_of}
use Rattle.session_laws.specs.Sessions.{AreVersions, HasSample}
use Rattle.session_laws.specs.Witness.{GotLast, IsHeldWhere, bare_reader_of, eight, eight_row, first_session, lone_config, lone_plan, lone_readers, lone_text, new, new_again, new_again_session, old, old_first, old_first_session, seven, small_datagram, small_datagram_with, small_frame, small_row, tick_on, turned_on, turned_rows}
use Rattle.session_laws.proofs.SmallSessions.BareMeeting.{HeldLaw, ok-same, only-one, readers-types}
use Rattle.session_laws.proofs.SmallSessions.Meeting.{AreSent, grown, seven-belongs, taken-of}
use Rattle.session_laws.proofs.SmallSessions.OneTick.{matched-to}

pub lone-is-read : configuration lone_text ≡ Ok lone_config
unfolding toml_on_literals hex_on_literals is_utf8 chars digits configuration table_faults stands config_of publisher_part data_set_of key_of key_group_of writer_of group_of reader_of read_group_of settings_at header_len demo built_in_writer built_in_group lone_readers built_in_config lone_config
lone-is-read = refl

pub record LoneLaws : Type 0 where
  pub sound : IsSound lone_config
  pub fixed : IsFixedSound lone_config
  pub types : HasTypes built_in_config

-- ---- the plan

lone-reader-types : HasReadGroupTypes lone_readers
unfolding lone_readers
lone-reader-types = readers-types (codes "rg1") 1 layouts.Dynamic security.None None (bare_reader_of (codes "r1") 1 0 0) (lit< tt) (record { writer = lit< tt; timeout = lit< tt; offset = lit< tt; size = lit< tt })

lone-types : HasTypes built_in_config → HasTypes lone_config
unfolding lone_config
lone-types types = record {
  publisher = types.publisher;
  port = types.port;
  metas = types.metas;
  keygroups = types.keygroups;
  groups = types.groups;
  readgroups = All-cons HasReadGroupTypes lone_readers [] lone-reader-types (All-nil HasReadGroupTypes);
}

grow-to : GrowTo lone_config.dataset lone_plan.full
unfolding lone_config built_in_config lone_plan
grow-to = (grown, tt)

whole-metas : IsSound lone_config → All (λ (meta : MetaData). IsMeta meta.fields) lone_plan.full
unfolding lone_config built_in_config lone_plan
whole-metas sound = sound.metas

plan-is : LoneLaws → IsPlan lone_plan
unfolding lone_plan
plan-is laws = record {
  good = record { sound = laws.sound; fixed = laws.fixed };
  types = lone-types laws.types;
  fit = record { each = laws.sound.metas; room = λ k d below. (laws.sound.groups k d below).room };
  grow = grow-to;
  whole = whole-metas laws.sound;
}

matched-is : IsMatchedIn lone_plan.config 0 0 0 0
unfolding lone_plan lone_config built_in_config built_in_group built_in_writer lone_readers
matched-is = matched-to lone_config (codes "rg1") 1 built_in_group (bare_reader_of (codes "r1") 1 0 0) refl (inl refl) (record { within = lit< tt; id = refl; dataset = refl; offset = λ fixed. refl; size = λ fixed. refl })

-- ---- the sessions

abbrev sent : List Step
sent = Tick 0 true (eight ∷ []) (true ∷ []) ∷ first_session

eight-belongs : Belongs demo eight.row.words
unfolding demo row_in statuses_in spelled_row spelled_statuses eight seven
eight-belongs = record {
  whole = refl;
  row = (record { is_value = lit< tt; fits = record { same_kind = refl; within = lit≤ tt }; is_status = refl }, seven-belongs.row.1);
  spelled = refl;
}

seven-rows : AreRowsOf lone_plan.full (seven ∷ [])
unfolding lone_plan
seven-rows = (seven-belongs, tt)

eight-rows : AreRowsOf lone_plan.full (eight ∷ [])
unfolding lone_plan
eight-rows = (eight-belongs, tt)

may-tick : MayCome lone_plan [] 100 false (seven ∷ [])
may-tick = record { rows = seven-rows; short = lit≤ tt; running = refl; left = λ is_open. lit< tt; still = λ closing. absurd (cc) }

may-close : MayCome lone_plan first_session 0 true (eight ∷ [])
may-close = record { rows = eight-rows; short = lit≤ tt; running = refl; left = λ is_open. absurd (cc); still = λ closing. refl }

first-sends : sends_of lone_plan (tick_on []) ≡ record { group = 0; datagram = small_datagram 0 } ∷ []
unfolding lone_plan lone_config built_in_config built_in_group built_in_writer demo seven row_in statuses_in spelled_row spelled_statuses cut_words header_len header_bytes flags_bytes group_bytes security_bytes front_bytes frame_bytes
first-sends = refl

second-sends : sends_of lone_plan sent ≡ record { group = 0; datagram = small_datagram_with 1 8 } ∷ []
unfolding lone_plan lone_config built_in_config built_in_group built_in_writer demo seven eight row_in statuses_in spelled_row spelled_statuses cut_words header_len header_bytes flags_bytes group_bytes security_bytes front_bytes frame_bytes
second-sends = refl

rises : (index : ℕ) → (slice_index_or (seven ∷ []) index no_sample).version ≤ (slice_index_or (eight ∷ []) index no_sample).version
unfolding seven eight
rises zero = lit≤ tt
rises (suc index) = lit≤ tt

rise : (index : ℕ) (now : MetaData) (sample : Sampled) → HasSample lone_plan first_session index now sample → sample.version ≤ (slice_index_or (eight ∷ []) index no_sample).version
rise index now sample (inl has) = subst (λ (s : Sampled). s.version ≤ (slice_index_or (eight ∷ []) index no_sample).version) has.0 (rises index)
rise index now sample (inr none) = absurd none

there-is : 0 < length lone_plan.config.group
unfolding lone_plan lone_config built_in_config
there-is = lit< tt

-- what is in the journal before the last pump
abbrev sent_so_far : List Entry
sent_so_far = Sent (small_datagram 0) ∷ old ∷ Empty ∷ Sent (small_datagram_with 1 8) ∷ []

journal-is : (entries : List Entry) → journal lone_plan (turned_on entries) ≡ sent_so_far ++ entries
journal-is entries =
    ap (λ (l : List Send). ((send_entries l (true ∷ []) ++ old ∷ Empty ∷ []) ++ send_entries (sends_of lone_plan sent) (true ∷ [])) ++ entries) first-sends
    ∙ ap (λ (l : List Send). Sent (small_datagram 0) ∷ old ∷ Empty ∷ (send_entries l (true ∷ []) ++ entries)) second-sends

turned-run : (entries : List Entry) → IsPump most_taken entries → IsRun lone_plan (turned_on entries)
turned-run entries pump = (pump, (sym (ap (λ (l : List Send). length l) second-sends), ((lit≤ tt, refl), (sym (ap (λ (l : List Send). length l) first-sends), tt))))

in-turned : LoneLaws → (entries : List Entry) → IsPump most_taken entries → AreSent sent_so_far entries → InSession lone_plan 0 0 0 0 (turned_on entries)
in-turned laws entries pump are = record {
  plan = plan-is laws;
  steps_are = (lit< tt, (may-close, (lit< tt, (may-tick, tt))));
  run = turned-run entries pump;
  rise = (rise, (λ index now sample has. absurd has, tt));
  there = there-is;
  matched = matched-is;
  honest = taken-of lone_plan 0 (turned_on entries) (sent_so_far ++ entries) (turned-run entries pump) (journal-is entries) ((0, lit< tt, refl), are);
}

in-old_first : LoneLaws → InSession lone_plan 0 0 0 0 old_first_session
in-old_first laws = in-turned laws old_first (lit≤ tt, (lit≤ tt, refl)) ((0, lit< tt, refl), ((3, lit< tt, refl), tt))

in-new_again : LoneLaws → InSession lone_plan 0 0 0 0 new_again_session
in-new_again laws = in-turned laws new_again (lit≤ tt, (lit≤ tt, (lit≤ tt, refl))) ((3, lit< tt, refl), ((0, lit< tt, refl), ((3, lit< tt, refl), tt)))

row-of-seven : (index : ℕ) → row_in (meta_in lone_plan.full index).fields (slice_index_or (seven ∷ []) index no_sample).row.words ≡ turned_rows index (slice_index_or (seven ∷ []) index no_sample).version
unfolding lone_plan demo seven row_in statuses_in
row-of-seven zero = refl
row-of-seven (suc index) = refl

row-of-eight : (index : ℕ) → row_in (meta_in lone_plan.full index).fields (slice_index_or (eight ∷ []) index no_sample).row.words ≡ turned_rows index (slice_index_or (eight ∷ []) index no_sample).version
unfolding lone_plan demo eight row_in statuses_in
row-of-eight zero = refl
row-of-eight (suc index) = refl

versions-turned : (entries : List Entry) → AreVersions lone_plan (turned_on entries) turned_rows
versions-turned entries index now sample (inl has) = subst (λ (s : Sampled). row_in (meta_in lone_plan.full index).fields s.row.words ≡ turned_rows index s.version) has.0 (row-of-eight index)
versions-turned entries index now sample (inr (inl has)) = subst (λ (s : Sampled). row_in (meta_in lone_plan.full index).fields s.row.words ≡ turned_rows index s.version) has.0 (row-of-seven index)
versions-turned entries index now sample (inr (inr none)) = absurd none

-- ---- what came to the reader

abbrev item_with : List DataValue → Item
item_with row = record { moment = 100; stamp = None; frame = Whole 0 row }

abbrev arrived : List Step → List Arrival
arrived steps = arrivals_at lone_plan.config 0 0 (first_number_of lone_plan.config 0 0) steps

abbrev old_came : Arrival
old_came = Came (item_with small_row)

abbrev new_came : Arrival
new_came = Came (item_with eight_row)

abbrev came_old_first : List Arrival
came_old_first = new_came ∷ old_came ∷ old_came ∷ []

abbrev came_new_again : List Arrival
came_new_again = new_came ∷ old_came ∷ new_came ∷ old_came ∷ []

all-old_first : arrived old_first_session ≡ came_old_first
unfolding lone_plan lone_config built_in_config built_in_group built_in_writer lone_readers demo seven byte number block when byte_when text publisher_id group_numbers group_when payload_header ids_when extras security_header parts header header_at ◌>>=◌ read flags1_at flags2_at front_times front_parts front_at behind_front message_at frame_at field_at surplus_at whole_at change_at patch_at content_at block_at text_at kind_at variant_at times_past parts_at data_value_at no_keys
all-old_first = refl

both-old_first : arrived (turned_on (old ∷ new ∷ [])) ≡ came_old_first
unfolding lone_plan lone_config built_in_config built_in_group built_in_writer lone_readers demo seven byte number block when byte_when text publisher_id group_numbers group_when payload_header ids_when extras security_header parts header header_at ◌>>=◌ read flags1_at flags2_at front_times front_parts front_at behind_front message_at frame_at field_at surplus_at whole_at change_at patch_at content_at block_at text_at kind_at variant_at times_past parts_at data_value_at no_keys
both-old_first = refl

all-new_again : arrived new_again_session ≡ came_new_again
unfolding lone_plan lone_config built_in_config built_in_group built_in_writer lone_readers demo seven byte number block when byte_when text publisher_id group_numbers group_when payload_header ids_when extras security_header parts header header_at ◌>>=◌ read flags1_at flags2_at front_times front_parts front_at behind_front message_at frame_at field_at surplus_at whole_at change_at patch_at content_at block_at text_at kind_at variant_at times_past parts_at data_value_at no_keys
all-new_again = refl

last-new_again : arrived (turned_on (new ∷ old ∷ new ∷ [])) ≡ came_new_again
unfolding lone_plan lone_config built_in_config built_in_group built_in_writer lone_readers demo seven byte number block when byte_when text publisher_id group_numbers group_when payload_header ids_when extras security_header parts header header_at ◌>>=◌ read flags1_at flags2_at front_times front_parts front_at behind_front message_at frame_at field_at surplus_at whole_at change_at patch_at content_at block_at text_at kind_at variant_at times_past parts_at data_value_at no_keys
last-new_again = refl

-- nothing came behind steps by which all of it came
none-behind : (row : List DataValue) (list newer : List Arrival) → list ≡ newer ++ list → NoOtherKeys row newer
none-behind row list [] e = tt
none-behind row list (x ∷ newer) e = absurd (let same : length list ≡ suc (length newer + length list) = ap (λ (l : List Arrival). length l) e ∙ ap suc (length-append newer list) in omega (arith, same))

-- ---- the closing turn

abbrev deeds_so_far : List Deed
deeds_so_far = closing_deeds lone_plan first_session 0 (eight ∷ []) 0

abbrev its_turn : GroupTurn
its_turn = closing_turn lone_plan first_session 0 (eight ∷ []) 0

abbrev its_past : List GroupDeed
its_past = group_past lone_plan.config 0 deeds_so_far

abbrev its_own : WriterTurn
its_own = writer_turn (group_at lone_plan.config 0) (turn_input lone_plan first_session 100 true (eight ∷ []) deeds_so_far 0).told 0

abbrev its_row : List DataValue
its_row = row_cut (meta_of lone_plan 0 0) its_own.row

-- behind these steps no other key frame came
quiet-behind : (entries : List Entry) (here : List Step) (list : List Arrival) → arrived (turned_on entries) ≡ list → arrived here ≡ list → NoOtherBehind lone_plan 0 0 0 0 (turned_on entries) here its_row
quiet-behind entries here list all is newer e = none-behind its_row list newer (sym all ∙ e ∙ ap (λ (l : List Arrival). newer ++ l) is)

its-made : its_turn.made ≡ small_datagram_with 1 8 ∷ []
unfolding lone_plan lone_config built_in_config built_in_group built_in_writer demo seven eight row_in statuses_in spelled_row spelled_statuses cut_words header_len header_bytes flags_bytes group_bytes security_bytes front_bytes frame_bytes
its-made = refl

own-datagram : (datagram : List ℕ) → Contains its_turn.made datagram → small_datagram_with 1 8 ≡ datagram
own-datagram datagram has = only-one (small_datagram_with 1 8) datagram (subst (λ (xs : List (List ℕ)). Contains xs datagram) its-made has)

abbrev opened : Opened
opened = record { pass = open_pass (small_datagram_with 1 8); payload = Messages ((1, small_frame 1 8) ∷ []) }

is-opened : verdict (setting_of lone_plan.config 0).group (setting_of lone_plan.config 0).setup [] (small_datagram_with 1 8) ≡ Ok opened
unfolding lone_plan lone_config built_in_config built_in_group built_in_writer lone_readers demo seven byte number block when byte_when text publisher_id group_numbers group_when payload_header ids_when extras security_header parts header header_at ◌>>=◌ read flags1_at flags2_at front_times front_parts front_at behind_front message_at frame_at field_at surplus_at whole_at change_at patch_at content_at block_at text_at kind_at variant_at times_past parts_at data_value_at no_keys
is-opened = refl

uncut : All IsUncut (pieces (seat_at (setting_of lone_plan.config 0).seats 0).part opened.payload)
unfolding lone_plan lone_config lone_readers
uncut = All-cons IsUncut _ [] tt (All-nil IsUncut)

comes-whole : (datagram : List ℕ) → Contains its_turn.made datagram → (part : HasPartFor (setting_of lone_plan.config 0) 0 datagram) → All IsUncut (pieces (seat_at (setting_of lone_plan.config 0).seats 0).part part.opened.payload)
comes-whole datagram has part =
    let setting = setting_of lone_plan.config 0 in
    let opens : verdict setting.group setting.setup [] datagram ≡ Ok opened = subst (λ (d : List ℕ). verdict setting.group setting.setup [] d ≡ Ok opened) (own-datagram datagram has) is-opened in
    let same : opened ≡ part.opened = ok-same opened part.opened (sym opens ∙ part.opens) in
    subst (λ (o : Opened). All IsUncut (pieces (seat_at setting.seats 0).part o.payload)) same uncut

abbrev its_ends : (entries : List Entry) → took_by 0 its_turn ≡ Some its_own → ClosesBefore lone_plan 0 0 0 (turned_on entries) sent its_turn its_own
its_ends entries took = record { took = took; closing = refl; pumps = entries ∷ []; split = refl; operational = refl; enabled = refl }

its-took : took_by 0 its_turn ≡ Some its_own
unfolding lone_plan lone_config built_in_config built_in_group
its-took = refl

its-had : has_turn lone_plan first_session 100 true deeds_so_far 0 ≡ true
unfolding lone_plan lone_config built_in_config built_in_group
its-had = refl

-- the closing datagram has a part for the reader
its-part : HasPartFor (setting_of lone_plan.config 0) 0 (small_datagram_with 1 8)
unfolding lone_plan lone_config lone_readers
its-part = record { opened = opened; opens = is-opened; part = λ none. cc }

made-it : Contains its_turn.made (small_datagram_with 1 8)
made-it = subst (λ (xs : List (List ℕ)). Contains xs (small_datagram_with 1 8)) (sym its-made) (0, lit< tt, refl)

-- ---- the old one first

-- each datagram of the closing turn with a part for the reader came in these entries
abbrev AllIn : List Entry → Type 0
AllIn entries = EachPart lone_plan 0 0 its_turn.made (CameIn (entries ∷ []))

its-in : (entries : List Entry) → AllIn entries → Contains entries new
its-in entries all = on (all (small_datagram_with 1 8) made-it its-part)
  where
    on : Contains entries new ⊎ ⊥ → Contains entries new
    on (inl has) = has
    on (inr none) = absurd none

not-old : Path Entry old new → ⊥
not-old e = let same : small_datagram 0 ≡ small_datagram_with 1 8 = cc in let numbers : Path ℕ 0 1 = ap (λ (l : List ℕ). slice_index_or l 5 0) same in cc

abbrev QuietAt : List Entry → Type 0
QuietAt first = NoOtherBehind lone_plan 0 0 0 0 old_first_session (turned_on first) its_row

at-moment : (first behind : List Entry) → old_first ≡ first ++ behind → AllIn first → QuietAt first
at-moment [] behind e all = absurd (let has = its-in [] all in let below = has.1 in omega (arith, below))
at-moment (a ∷ []) behind e all = absurd (not-old (let same : old ≡ a = cc in same ∙ only-one a new (its-in (a ∷ []) all)))
at-moment (a ∷ b ∷ []) behind e all =
    let head : old ≡ a = cc in
    let next : new ≡ b = cc in
    subst (λ (y : Entry). QuietAt (a ∷ y ∷ [])) next (subst (λ (x : Entry). QuietAt (x ∷ new ∷ [])) head (quiet-behind old_first (turned_on (old ∷ new ∷ [])) came_old_first all-old_first both-old_first))
at-moment (a ∷ b ∷ c ∷ []) behind e all =
    let head : old ≡ a = cc in
    let next : new ≡ b = cc in
    let last : Empty ≡ c = cc in
    subst (λ (z : Entry). QuietAt (a ∷ b ∷ z ∷ [])) last (subst (λ (y : Entry). QuietAt (a ∷ y ∷ Empty ∷ [])) next (subst (λ (x : Entry). QuietAt (x ∷ new ∷ Empty ∷ [])) head (quiet-behind old_first old_first_session came_old_first all-old_first all-old_first)))
at-moment (a ∷ b ∷ c ∷ d ∷ first) behind e all = absurd (let rest : [] ≡ d ∷ first ++ behind = cc in cc)

at-moments : (later before : List (List Entry)) (first behind : List Entry) → old_first ∷ [] ≡ later ++ (first ++ behind) ∷ before → EachPart lone_plan 0 0 its_turn.made (CameIn (first ∷ before))
    → NoOtherBehind lone_plan 0 0 0 0 old_first_session (Pump first ∷ map Pump before ++ sent) its_row
at-moments [] before first behind e all =
    let head : old_first ≡ first ++ behind = cc in
    let tail : before ≡ [] = cc in
    subst (λ (l : List (List Entry)). NoOtherBehind lone_plan 0 0 0 0 old_first_session (Pump first ∷ map Pump l ++ sent) its_row) (sym tail)
    (at-moment first behind head (subst (λ (l : List (List Entry)). EachPart lone_plan 0 0 its_turn.made (CameIn (first ∷ l))) tail all))
at-moments (x ∷ later) before first behind e all = absurd (let rest : [] ≡ later ++ (first ++ behind) ∷ before = cc in no-more later rest)
  where
    no-more : (later : List (List Entry)) → Path (List (List Entry)) [] (later ++ (first ++ behind) ∷ before) → ⊥
    no-more [] e = cc
    no-more (z ∷ later) e = cc

since : ClosingGotSinceLast lone_plan 0 0 0 0 old_first_session its_own
unfolding lone_plan lone_config built_in_config lone_readers
since = record {
  bare = refl;
  unsecured_or_named = inl refl;
  tick = record { start = first_session; ms = 0; samples = eight ∷ []; done = true ∷ []; had = its-had; ends = its_ends old_first its-took };
  came = λ datagram has part. inl (1, lit< tt, ap (λ (d : List ℕ). Got d) (own-datagram datagram has));
  quiet = λ later before first behind split all_came. at-moments later before first behind split all_came;
}

-- ---- the closing one again

received : ClosingGotLast lone_plan 0 0 0 0 new_again_session its_past its_turn its_own
unfolding lone_plan lone_config built_in_config built_in_group built_in_writer lone_readers
received = record {
  bare = refl;
  unsecured = refl;
  last = refl;
  start = sent;
  ends = its_ends new_again its-took;
  whole = comes-whole;
  came = λ datagram has part. subst (CameQuietly lone_plan 0 0 0 0 (new_again ∷ []) sent its_row) (own-datagram datagram has)
      (record { later = []; before = []; first = new ∷ old ∷ []; behind = Empty ∷ []; is = refl; quiet = quiet-behind new_again (turned_on (new ∷ old ∷ new ∷ [])) came_new_again all-new_again last-new_again });
}

-- ---- so it is held

pub received-again : LoneLaws → HeldLaw GotLast → IsHeldWhere GotLast lone_plan 0 0 new_again_session turned_rows
received-again laws law =
    let is = in-new_again laws in
    let got : GotLast lone_plan 0 0 0 0 new_again_session its_own = (its_past, its_turn, received) in
    record { session = is; versions = versions-turned new_again; own = its_own; came = got; held = law lone_plan 0 0 0 0 new_again_session turned_rows its_own is (versions-turned new_again) got }

pub since-old : LoneLaws → HeldLaw ClosingGotSinceLast → IsHeldWhere ClosingGotSinceLast lone_plan 0 0 old_first_session turned_rows
since-old laws law =
    let is = in-old_first laws in
    record { session = is; versions = versions-turned old_first; own = its_own; came = since; held = law lone_plan 0 0 0 0 old_first_session turned_rows its_own is (versions-turned old_first) since }
