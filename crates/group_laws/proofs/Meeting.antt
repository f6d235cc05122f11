-- First turns of three groups meet what the laws ask for.
use Rattle.std.proofs.Common.{◌≡◌, refl, sym, ◌∙◌, subst, inl, ℕ, zero, suc, ◌<◌, ◌^◌, lit<, lit≤, arith, true, false, [], ◌∷◌, length, Contains, Some, None, Ok, IfSome}
use Rattle.std.specs.Prelude.{IsSome, nat_le, slice_index_or}
use Rattle.std.specs.Fmt.{digits}
use Rattle.std.specs.Str.{is_utf8, chars}
use Rattle.std.proofs.lemmas.List.Elements.{All-cons, All-nil, All-replicate}
use Rattle.toml.proofs.OnLiterals.{toml_on_literals}
use Rattle.hex.proofs.OnLiterals.{hex_on_literals}
use Rattle.dataset_meta.specs.Rows.{IsRow}
use Rattle.row_words.specs.Belonging.{row_in, statuses_in, spelled_row, spelled_statuses}
use Rattle.row_words.specs.Words.{packed, unpacked}
use Rattle.pubsub_model.specs.Cadence.{HasRowsOf}
use Rattle.chunker.specs.Joining.{Joining, empty}
use Rattle.pubsub_model.specs.Frames.{Whole}
use Rattle.frame_codec.specs.Spelling.{front_bytes, frame_bytes}
use Rattle.message_guard.specs.Senders.{SenderState}
use Rattle.ps_config.specs.declared.parts.GroupPart.{GroupPart}
use Rattle.ps_config.specs.Configs.{config_of, data_set_of, group_of, key_group_of, key_of, publisher_part, read_group_of, reader_of, writer_of}
use Rattle.ps_config.specs.FixedSound.{IsFixedSound}
use Rattle.ps_config.specs.Reading.{configuration}
use Rattle.ps_config.specs.Refusals.{table_faults, stands}
use Rattle.ps_config.specs.Settings.{settings_at}
use Rattle.ps_config.specs.Sound.{IsSound}
use Rattle.ps_config.specs.Types.{HasGroupTypes, HasKeyGroupTypes, HasKeyTypes, HasMetaTypes, HasReadGroupTypes, HasReaderTypes, HasTypes, HasWriterTypes}
use Rattle.ps_config.proofs.Accepted.{fixed_configuration, sound_configuration}
use Rattle.uadp_header.specs.Spelling.{header_len, header_bytes, flags_bytes, group_bytes, security_bytes}
use Rattle.writer_group.specs.Answering.{with_turn}
use Rattle.writer_group.specs.Envelopes.{frame_room}
use Rattle.writer_group.specs.Payloads.{IsFrameIf, meta_at, payloads_of, size_of, spelled_by, writer_at}
use Rattle.writer_group.specs.Sealing.{AreWritten}
use Rattle.writer_group.specs.Standing.{AreMetas}
use Rattle.writer_group.specs.Turning.{CanGiveFronts}
use Rattle.writer_group.proofs.AnswerFrames.{answer-frame}
use Rattle.writer_group.proofs.SomeDatagrams.{turn-count}
use Rattle.writer_group.proofs.WrittenHeaders.{turn-written}
use Rattle.writer_group.specs.Turns.{TurnInput, answer_by, envelope_of, frame_by, frames_in, turn_by, turn_datagrams, writer_past}
use Rattle.group_laws.specs.Matching.{IsGroupTurn, IsMatched, IsSenderOf, MaySend, ReadsWriter, reader_at}
use Rattle.group_laws.specs.TurnDelivered.{AreEnabled, ComesInFrames, ComesInSlots, Delivery, IsInOrder, IsSenderAhead, IsSenderAheadIf, answer_for, its_datagrams, its_seat, its_setting, member_before}
use Rattle.group_laws.specs.TurnReading.{IsBehind, IsSampled}
use Rattle.group_laws.proofs.Allowed.{header-types}
use Rattle.group_laws.proofs.Delivered.{opening-ahead}
use Rattle.group_laws.specs.Witness.{at_once, blob, chunked_course, cut_group, cut_readers, first_input, fixed_course, ones, secured_course, signed_group, signed_readers, slotted_group, slotted_readers, three_config, three_key, three_keys, three_sender, three_text}

-- ---- the configuration

pub three_is_read : configuration three_text ≡ Ok three_config
unfolding toml_on_literals hex_on_literals is_utf8 chars digits configuration table_faults stands config_of publisher_part data_set_of key_of key_group_of writer_of group_of reader_of read_group_of settings_at header_len blob three_key three_keys signed_group slotted_group cut_group signed_readers slotted_readers cut_readers three_config
three_is_read = refl

-- ---- what laws below say of any turn

pub record TurnFacts : Type 0 where
  pub sound : IsSound three_config
  pub fixed : IsFixedSound three_config
  pub written : (group : GroupPart) (input : TurnInput) → Contains three_config.group group → IfSome input.sender CanGiveFronts
      → AreWritten (envelope_of three_config group []) input.sender 0 (payloads_of three_config group (frames_in group [] input))
  pub frame : (group : GroupPart) (input : TurnInput) → (let meta = meta_at group input.told.metas 0 in meta.major < 2 ^ 32 → meta.minor < 2 ^ 32
      → HasRowsOf meta (with_turn (turn_by group input 0) (writer_past 0 [])) → IsFrameIf (writer_at group 0) meta (answer_by group [] input 0))
  pub count : (group : GroupPart) (input : TurnInput) → length (turn_datagrams three_config group [] input) ≡ length (payloads_of three_config group (frames_in group [] input))
  pub ahead : (s : SenderState) → IsSenderAhead [] s

-- ---- the groups and their readers

signed-there : Contains three_config.group signed_group
unfolding three_config
signed-there = (0, lit< tt, refl)

slotted-there : Contains three_config.group slotted_group
unfolding three_config
slotted-there = (1, lit< tt, refl)

cut-there : Contains three_config.group cut_group
unfolding three_config
cut-there = (2, lit< tt, refl)

signed-matched : IsMatched three_config signed_group signed_readers
unfolding three_config signed_group signed_readers
signed-matched = record { publisher = refl; group_id = inl refl; version = inl refl; class_id = inl refl; layout = refl; security = refl; keygroup = refl }

slotted-matched : IsMatched three_config slotted_group slotted_readers
unfolding three_config slotted_group slotted_readers
slotted-matched = record { publisher = refl; group_id = inl refl; version = inl refl; class_id = inl refl; layout = refl; security = refl; keygroup = refl }

cut-matched : IsMatched three_config cut_group cut_readers
unfolding three_config cut_group cut_readers
cut-matched = record { publisher = refl; group_id = inl refl; version = inl refl; class_id = inl refl; layout = refl; security = refl; keygroup = refl }

-- ---- what each turn sends

signed-count : length (payloads_of three_config signed_group (frames_in signed_group [] (first_input (Some three_sender)))) ≡ 1
unfolding three_config signed_group blob ones row_in statuses_in unpacked spelled_row spelled_statuses packed header_len front_bytes frame_bytes
signed-count = refl

slotted-count : length (payloads_of three_config slotted_group (frames_in slotted_group [] (first_input None))) ≡ 1
unfolding three_config slotted_group blob ones row_in statuses_in unpacked spelled_row spelled_statuses packed header_len front_bytes frame_bytes
slotted-count = refl

cut-count : length (payloads_of three_config cut_group (frames_in cut_group [] (first_input None))) ≡ 2
unfolding three_config cut_group blob ones row_in statuses_in unpacked spelled_row spelled_statuses packed header_len front_bytes frame_bytes
cut-count = refl

pub signed-answers : IsSome (answer_for secured_course 0)
unfolding three_config signed_group signed_readers blob ones row_in statuses_in unpacked
signed-answers = refl

pub slotted-answers : IsSome (answer_for fixed_course 0)
unfolding three_config slotted_group slotted_readers blob ones row_in statuses_in unpacked
slotted-answers = refl

pub cut-answers : IsSome (answer_for chunked_course 0)
unfolding three_config cut_group cut_readers blob ones row_in statuses_in unpacked
cut-answers = refl

-- ---- the row

ones-fit : IsRow blob (row_in blob.fields ones.row.words)
unfolding blob ones row_in statuses_in unpacked
ones-fit = (
  record {
    is_value = record { at_most_256 = lit≤ tt; in_range = All-replicate (λ (byte : ℕ). byte < 256) 120 1 (lit< tt) };
    fits = record { same_kind = refl; within = lit≤ tt };
    is_status = refl;
  },
  tt,
)

at-delivery : AreEnabled 0 (at_once ∷ [])
at-delivery = All-cons (λ (d : Delivery). slice_index_or d.on 0 false ≡ true) at_once [] refl (All-nil (λ (d : Delivery). slice_index_or d.on 0 false ≡ true))

at-deliveries : AreEnabled 0 (at_once ∷ at_once ∷ [])
at-deliveries = All-cons (λ (d : Delivery). slice_index_or d.on 0 false ≡ true) at_once (at_once ∷ []) refl at-delivery

-- ---- the signed one

three-sends : IsSenderOf three_keys three_sender
unfolding three_keys three_key three_sender
three-sends = record { sender_is = record { random = refl; used = lit< tt }; keys = refl; first_block = refl }

three-gives : CanGiveFronts three_sender
unfolding three_sender three_keys three_key
three-gives = record { random = refl; token = lit< tt }

one-may : MaySend three_config signed_group 1 (Some three_sender)
unfolding three_config signed_group three_sender three_keys
one-may = (refl, lit< tt, three-sends)

signed-turn : TurnFacts → IsGroupTurn three_config signed_group [] (first_input (Some three_sender))
unfolding signed_group
signed-turn facts = record {
  sound = facts.sound;
  group_is = signed-there;
  on = lit≤ tt;
  sender = subst (λ (n : ℕ). MaySend three_config signed_group n (Some three_sender)) (sym signed-count) one-may;
  written = facts.written signed_group (first_input (Some three_sender)) signed-there three-gives;
}

signed-sampled : TurnFacts → IsSampled signed_group [] (first_input (Some three_sender)) 0
unfolding three_config signed_group blob ones row_in statuses_in unpacked
signed-sampled facts = record {
  meta = facts.sound.metas 0 blob (lit< tt);
  frame = facts.frame signed_group (first_input (Some three_sender)) (lit< tt) (lit< tt) (ones-fit, tt);
}

signed-reads : ReadsWriter signed_group 0 (its_seat secured_course).part
unfolding three_config signed_group signed_readers
signed-reads = record { within = lit< tt; id = refl; dataset = refl; offset = λ fixed. refl; size = λ fixed. refl }

signed-meta : (its_seat secured_course).meta ≡ meta_at signed_group (blob ∷ []) 0
unfolding three_config signed_group signed_readers
signed-meta = refl

signed-seats : 0 < length (its_setting secured_course).seats
unfolding three_config signed_readers
signed-seats = lit< tt

signed-ahead : TurnFacts → IsSenderAheadIf secured_course.before.accepted (Some three_sender)
signed-ahead facts = facts.ahead three_sender

signed-order : TurnFacts → IsInOrder secured_course
signed-order facts = record {
  taken = record {
    turn = signed-turn facts;
    matched = signed-matched;
    each = sym (facts.count signed_group (first_input (Some three_sender)) ∙ signed-count);
    ahead = signed-ahead facts;
  };
  within = signed-seats;
  enabled = at-delivery;
}

signed-whole : nat_le (size_of (spelled_by signed_group (blob ∷ []) 0 (Whole 0 (row_in blob.fields ones.row.words)))) (frame_room three_config.publisher.id signed_group) ≡ true
unfolding three_config signed_group blob ones row_in statuses_in unpacked header_len front_bytes frame_bytes
signed-whole = refl

signed-behind : (joining : Joining) → IsBehind three_config.publisher.id signed_group joining (frame_by signed_group [] (first_input (Some three_sender)) 0)
unfolding signed_group
signed-behind joining = λ cut. absurd (let wrong : true ≡ false = sym signed-whole ∙ cut in cc)

pub secured-comes : TurnFacts → ComesInFrames secured_course 0
unfolding signed_group
secured-comes facts = record {
  order = signed-order facts;
  dynamic = refl;
  reads = signed-reads;
  frames = inl signed-meta;
  sampled = signed-sampled facts;
  behind = signed-behind (member_before secured_course).joining;
}

-- ---- the fixed one

slotted-turn : TurnFacts → IsGroupTurn three_config slotted_group [] (first_input None)
unfolding slotted_group
slotted-turn facts = record {
  sound = facts.sound;
  group_is = slotted-there;
  on = lit≤ tt;
  sender = refl;
  written = facts.written slotted_group (first_input None) slotted-there tt;
}

slotted-sampled : TurnFacts → (writer : ℕ) → writer < length slotted_group.writer → IsSampled slotted_group [] (first_input None) writer
unfolding three_config slotted_group blob ones row_in statuses_in unpacked
slotted-sampled facts zero within = record {
  meta = facts.sound.metas 0 blob (lit< tt);
  frame = facts.frame slotted_group (first_input None) (lit< tt) (lit< tt) (ones-fit, tt);
}
slotted-sampled facts (suc writer) within = absurd (omega arith)

slotted-reads : ReadsWriter slotted_group 0 (its_seat fixed_course).part
unfolding three_config slotted_group slotted_readers
slotted-reads = record { within = lit< tt; id = refl; dataset = refl; offset = λ fixed. refl; size = λ fixed. refl }

slotted-meta : (its_seat fixed_course).meta ≡ meta_at slotted_group three_config.dataset 0
unfolding three_config slotted_group slotted_readers
slotted-meta = refl

slotted-seats : 0 < length (its_setting fixed_course).seats
unfolding three_config slotted_readers
slotted-seats = lit< tt

slotted-order : TurnFacts → IsInOrder fixed_course
slotted-order facts = record {
  taken = record {
    turn = slotted-turn facts;
    matched = slotted-matched;
    each = sym (facts.count slotted_group (first_input None) ∙ slotted-count);
    ahead = tt;
  };
  within = slotted-seats;
  enabled = at-delivery;
}

slotted-metas : AreMetas three_config slotted_group (blob ∷ [])
unfolding three_config slotted_group
slotted-metas = record { count = refl; fixed = λ fixed writer within. refl; room = refl }

pub fixed-comes : TurnFacts → ComesInSlots fixed_course 0
unfolding slotted_group
fixed-comes facts = record {
  order = slotted-order facts;
  fixed = refl;
  reads = slotted-reads;
  meta = slotted-meta;
  turn = record { fixed = facts.fixed; metas = slotted-metas; sampled = slotted-sampled facts };
}

-- ---- the one whose frame is cut

cut-turn : TurnFacts → IsGroupTurn three_config cut_group [] (first_input None)
unfolding cut_group
cut-turn facts = record {
  sound = facts.sound;
  group_is = cut-there;
  on = lit≤ tt;
  sender = refl;
  written = facts.written cut_group (first_input None) cut-there tt;
}

cut-sampled : TurnFacts → IsSampled cut_group [] (first_input None) 0
unfolding three_config cut_group blob ones row_in statuses_in unpacked
cut-sampled facts = record {
  meta = facts.sound.metas 0 blob (lit< tt);
  frame = facts.frame cut_group (first_input None) (lit< tt) (lit< tt) (ones-fit, tt);
}

cut-reads : ReadsWriter cut_group 0 (its_seat chunked_course).part
unfolding three_config cut_group cut_readers
cut-reads = record { within = lit< tt; id = refl; dataset = refl; offset = λ fixed. refl; size = λ fixed. refl }

cut-meta : (its_seat chunked_course).meta ≡ meta_at cut_group (blob ∷ []) 0
unfolding three_config cut_group cut_readers
cut-meta = refl

cut-seats : 0 < length (its_setting chunked_course).seats
unfolding three_config cut_readers
cut-seats = lit< tt

cut-order : TurnFacts → IsInOrder chunked_course
cut-order facts = record {
  taken = record {
    turn = cut-turn facts;
    matched = cut-matched;
    each = sym (facts.count cut_group (first_input None) ∙ cut-count);
    ahead = tt;
  };
  within = cut-seats;
  enabled = at-deliveries;
}

nothing-joined : (member_before chunked_course).joining ≡ empty
unfolding three_config cut_group cut_readers blob ones row_in statuses_in unpacked spelled_row spelled_statuses packed header_len header_bytes flags_bytes group_bytes security_bytes front_bytes frame_bytes
nothing-joined = refl

cut-behind : IsBehind three_config.publisher.id cut_group empty (frame_by cut_group [] (first_input None) 0)
unfolding cut_group
cut-behind = λ cut. tt

pub chunked-comes : TurnFacts → ComesInFrames chunked_course 0
unfolding cut_group
chunked-comes facts = record {
  order = cut-order facts;
  dynamic = refl;
  reads = cut-reads;
  frames = inl cut-meta;
  sampled = cut-sampled facts;
  behind = subst (λ (joining : Joining). IsBehind three_config.publisher.id cut_group joining (frame_by cut_group [] (first_input None) 0)) (sym nothing-joined) cut-behind;
}

pub many : (facts : TurnFacts) → (length (its_datagrams secured_course) ≡ 1) × (length (its_datagrams fixed_course) ≡ 1) × (length (its_datagrams chunked_course) ≡ 2)
many facts = (
  facts.count signed_group (first_input (Some three_sender)) ∙ signed-count,
  facts.count slotted_group (first_input None) ∙ slotted-count,
  facts.count cut_group (first_input None) ∙ cut-count,
)

-- ---- what laws below say

three-key-types : HasKeyTypes three_key
unfolding three_key
three-key-types = record { token = lit< tt; from = lit< tt; signing = refl; nonce = refl }

three-keys-types : HasKeyGroupTypes three_keys
unfolding three_keys
three-keys-types = record {
  random = refl;
  first_block = lit< tt;
  used = lit< tt;
  keys = All-cons HasKeyTypes three_key [] three-key-types (All-nil HasKeyTypes);
}

blob-types : HasMetaTypes blob
unfolding blob
blob-types = record { major = lit< tt; minor = lit< tt }

signed_group-types : HasGroupTypes signed_group
unfolding signed_group
signed_group-types = record {
  id = lit< tt;
  interval = lit< tt;
  max_size = lit< tt;
  version = lit< tt;
  class_id = tt;
  writers = All-cons HasWriterTypes (writer_at signed_group 0) [] (record { id = lit< tt; key_frame_count = lit< tt; keep_alive = lit< tt; first_number = lit< tt; offset = lit< tt; size = lit< tt }) (All-nil HasWriterTypes);
}

slotted_group-types : HasGroupTypes slotted_group
unfolding slotted_group
slotted_group-types = record {
  id = lit< tt;
  interval = lit< tt;
  max_size = lit< tt;
  version = lit< tt;
  class_id = tt;
  writers = All-cons HasWriterTypes (writer_at slotted_group 0) [] (record { id = lit< tt; key_frame_count = lit< tt; keep_alive = lit< tt; first_number = lit< tt; offset = lit< tt; size = lit< tt }) (All-nil HasWriterTypes);
}

cut_group-types : HasGroupTypes cut_group
unfolding cut_group
cut_group-types = record {
  id = lit< tt;
  interval = lit< tt;
  max_size = lit< tt;
  version = lit< tt;
  class_id = tt;
  writers = All-cons HasWriterTypes (writer_at cut_group 0) [] (record { id = lit< tt; key_frame_count = lit< tt; keep_alive = lit< tt; first_number = lit< tt; offset = lit< tt; size = lit< tt }) (All-nil HasWriterTypes);
}

signed_readers-types : HasReadGroupTypes signed_readers
unfolding signed_readers
signed_readers-types = record {
  publisher = lit< tt;
  group_id = lit< tt;
  version = lit< tt;
  class_id = tt;
  readers = All-cons HasReaderTypes (reader_at signed_readers 0) [] (record { writer = lit< tt; timeout = lit< tt; offset = lit< tt; size = lit< tt }) (All-nil HasReaderTypes);
}

slotted_readers-types : HasReadGroupTypes slotted_readers
unfolding slotted_readers
slotted_readers-types = record {
  publisher = lit< tt;
  group_id = lit< tt;
  version = lit< tt;
  class_id = tt;
  readers = All-cons HasReaderTypes (reader_at slotted_readers 0) [] (record { writer = lit< tt; timeout = lit< tt; offset = lit< tt; size = lit< tt }) (All-nil HasReaderTypes);
}

cut_readers-types : HasReadGroupTypes cut_readers
unfolding cut_readers
cut_readers-types = record {
  publisher = lit< tt;
  group_id = lit< tt;
  version = lit< tt;
  class_id = tt;
  readers = All-cons HasReaderTypes (reader_at cut_readers 0) [] (record { writer = lit< tt; timeout = lit< tt; offset = lit< tt; size = lit< tt }) (All-nil HasReaderTypes);
}

pub three-types : HasTypes three_config
unfolding three_config
three-types = record {
  publisher = lit< tt;
  port = lit< tt;
  metas = All-cons HasMetaTypes blob [] blob-types (All-nil HasMetaTypes);
  keygroups = All-cons HasKeyGroupTypes three_keys [] three-keys-types (All-nil HasKeyGroupTypes);
  groups = All-cons HasGroupTypes signed_group (slotted_group ∷ cut_group ∷ []) signed_group-types
      (All-cons HasGroupTypes slotted_group (cut_group ∷ []) slotted_group-types (All-cons HasGroupTypes cut_group [] cut_group-types (All-nil HasGroupTypes)));
  readgroups = All-cons HasReadGroupTypes signed_readers (slotted_readers ∷ cut_readers ∷ []) signed_readers-types
      (All-cons HasReadGroupTypes slotted_readers (cut_readers ∷ []) slotted_readers-types
      (All-cons HasReadGroupTypes cut_readers [] cut_readers-types (All-nil HasReadGroupTypes)));
}

pub turn-facts : TurnFacts
turn-facts = record {
  sound = sound_configuration three_text three_config three_is_read;
  fixed = fixed_configuration three_text three_config three_is_read;
  written = λ group input there gives. turn-written three_config group [] input (sound_configuration three_text three_config three_is_read) there (header-types three_config group three-types there) gives;
  frame = λ group input. answer-frame group [] input 0;
  count = λ group input. turn-count three_config group [] input;
  ahead = opening-ahead;
}
