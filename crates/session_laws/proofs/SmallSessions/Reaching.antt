-- A small session whose closing frame comes last.
use Rattle.std.proofs.Common.{◌≡◌, refl, sym, subst, ℕ, lit<, Option, Some, true, List, [], ◌∷◌, Result, Ok, Err, inl, inr}
use Rattle.std.specs.Prelude.{is_ok}
use Rattle.ua_base.specs.Journal.{Empty}
use Rattle.ua_binary.specs.ReadingValues.{block_at, text_at, kind_at, variant_at, times_past, parts_at, data_value_at}
use Rattle.uadp_header.specs.Formats.{◌>>=◌, read}
use Rattle.uadp_header.specs.Layout.{byte, number, block, when, byte_when, text, publisher_id, group_numbers, group_when, payload_header, ids_when, extras, security_header, parts, header, header_at}
use Rattle.uadp_header.specs.Spelling.{header_len, header_bytes, flags_bytes, group_bytes, security_bytes}
use Rattle.frame_codec.specs.declared.fault.FrameFault.{FrameFault}
use Rattle.frame_codec.specs.Contents.{field_at, surplus_at, whole_at, change_at, patch_at, content_at}
use Rattle.frame_codec.specs.Frames.{Frame}
use Rattle.frame_codec.specs.Fronts.{flags1_at, flags2_at, times_past as front_times, parts_at as front_parts, front_at}
use Rattle.frame_codec.specs.Reading.{behind_front, message_at, frame_at}
use Rattle.frame_codec.specs.Spelling.{front_bytes, frame_bytes}
use Rattle.row_words.specs.Belonging.{row_in, statuses_in, spelled_row, spelled_statuses, cut_words}
use Rattle.ps_config.specs.BuiltIn.{demo, built_in_writer, built_in_group, built_in_reader, built_in_read_group, built_in_config}
use Rattle.reader_group.specs.declared.refusal.Refusal.{Refusal}
use Rattle.reader_group.specs.Members.{seat_at}
use Rattle.reader_group.specs.Opening.{Opened}
use Rattle.reader_group.specs.Payloads.{Message}
use Rattle.reader_group.specs.Plain.{verdict_in}
use Rattle.reader_group.specs.Settings.{no_keys, setting_of}
use Rattle.session_model.specs.Events.{plain_at}
use Rattle.session_model.specs.Steps.{Pump}
use Rattle.session_laws.specs.Newest.{BringsLast, IsNewest}
use Rattle.session_laws.specs.Witness.{small_plan, seven, small_datagram, closing_on, first_session, last_receives, small_row}

ok-opened : (answer : Result Opened Refusal) → is_ok answer ≡ true → (opened : Opened) × (answer ≡ Ok opened)
ok-opened (Ok opened) e = (opened, refl)
ok-opened (Err refusal) e = absurd (cc)

ok-frame : (read : Result Frame FrameFault) → is_ok read ≡ true → (frame : Frame) × (read ≡ Ok frame)
ok-frame (Ok frame) e = (frame, refl)
ok-frame (Err fault) e = absurd (cc)

-- the message of the second datagram
abbrev second_message : List ℕ
second_message = 9 ∷ 1 ∷ 0 ∷ 4 ∷ 0 ∷ 7 ∷ 7 ∷ 0 ∷ 0 ∷ 0 ∷ 7 ∷ 0 ∷ 0 ∷ 0 ∷ 0 ∷ 7 ∷ 0 ∷ 0 ∷ 0 ∷ 0 ∷ 7 ∷ 0 ∷ 0 ∷ 0 ∷ 0 ∷ []

whole-brings : (last : BringsLast small_plan 0 0 (closing_on first_session) last_receives small_row) × (last.brings.frame.number ≡ Some 1)
unfolding small_plan built_in_config built_in_group built_in_writer built_in_read_group built_in_reader demo seven byte number block when byte_when text publisher_id group_numbers group_when payload_header ids_when extras security_header parts header header_at ◌>>=◌ read flags1_at flags2_at front_times front_parts front_at behind_front message_at frame_at field_at surplus_at whole_at change_at patch_at content_at block_at text_at kind_at variant_at times_past parts_at data_value_at no_keys ok-opened ok-frame
whole-brings =
    let opened = ok-opened (verdict_in (setting_of small_plan.config 0) (plain_at small_plan.config 0 (Pump [] ∷ closing_on first_session)) (small_datagram 1)) refl in
    let frame = ok-frame (frame_at (seat_at (setting_of small_plan.config 0).seats 0).meta second_message) refl in (
      record {
        operational = refl;
        earlier = [];
        datagram = small_datagram 1;
        behind = Empty ∷ [];
        split = refl;
        last = refl;
        brings = record {
          opened = opened.0;
          taken = opened.1;
          reader = lit< tt;
          enabled = refl;
          piece = Message second_message;
          alone = refl;
          frame = frame.0;
          brings = frame.1;
          content = refl;
          major = tt;
          follows = (1, refl, inr (inr (inl (record { last = 0; last_is = refl; is_newer = refl }))));
        };
      },
      refl,
    )

whole-newest : IsNewest small_plan 0 0 0 0 (closing_on first_session) last_receives (Some 1) 1
unfolding small_plan built_in_config built_in_group built_in_writer built_in_read_group built_in_reader demo seven row_in statuses_in spelled_row spelled_statuses cut_words header_len header_bytes flags_bytes group_bytes security_bytes front_bytes frame_bytes
whole-newest = record { numbered = refl; place = 1; number_is = refl; logged = ((0, 1) ∷ [], refl) }

pub reaches : (last : BringsLast small_plan 0 0 (closing_on first_session) last_receives small_row) × IsNewest small_plan 0 0 0 0 (closing_on first_session) last_receives last.brings.frame.number 1
reaches = (whole-brings.0, subst (λ (number : Option ℕ). IsNewest small_plan 0 0 0 0 (closing_on first_session) last_receives number 1) (sym whole-brings.1) whole-newest)
