-- The closing frame of a small session came since the last cut, and the reader holds it.
use Rattle.std.proofs.Common.{◌≡◌, refl, sym, subst, ℕ, lit<, List, [], ◌∷◌, Contains, None, true}
use Rattle.ua_binary.specs.ReadingValues.{block_at, text_at, kind_at, variant_at, times_past, parts_at, data_value_at}
use Rattle.uadp_header.specs.Formats.{◌>>=◌, read}
use Rattle.uadp_header.specs.Layout.{byte, number, block, when, byte_when, text, publisher_id, group_numbers, group_when, payload_header, ids_when, extras, security_header, parts, header, header_at}
use Rattle.frame_codec.specs.Contents.{field_at, surplus_at, whole_at, change_at, patch_at, content_at}
use Rattle.frame_codec.specs.Fronts.{flags1_at, flags2_at, times_past as front_times, parts_at as front_parts, front_at}
use Rattle.frame_codec.specs.Reading.{behind_front, message_at, frame_at}
use Rattle.reader_group.specs.Settings.{no_keys}
use Rattle.ps_config.specs.BuiltIn.{demo, built_in_writer, built_in_group, built_in_reader, built_in_read_group, built_in_config}
use Rattle.pubsub_model.specs.Cadence.{WriterDeed, WriterTurn}
use Rattle.pubsub_model.specs.Frames.{Whole}
use Rattle.pubsub_model.specs.Records.{Arrival, Came, Item, since_cut}
use Rattle.writer_group.specs.Parts.{group_at}
use Rattle.writer_group.specs.Turns.{writer_turn}
use Rattle.session_model.specs.Deeds.{turn_input, writer_deeds}
use Rattle.session_laws.specs.Headline.{InSession}
use Rattle.session_laws.specs.Newest.{ClosingCame, closing_deeds}
use Rattle.session_laws.specs.Reading.{arrivals_at, first_number_of}
use Rattle.session_laws.specs.Sessions.{AreVersions}
use Rattle.session_laws.specs.Witness.{CameSinceCut, IsNewestWhere, first_session, seven, small_plan, small_row, small_rows, whole_session}
use Rattle.session_laws.proofs.SmallSessions.ThreeGroups.{NewestLaw, newest-where}

abbrev its_own : WriterTurn
its_own = writer_turn (group_at small_plan.config 0) (turn_input small_plan first_session 100 true (seven ∷ []) (closing_deeds small_plan first_session 0 (seven ∷ []) 0) 0).told 0

abbrev its_past : List WriterDeed
its_past = writer_deeds small_plan 0 0 first_session

abbrev item_at : ℕ → Item
item_at place = record { moment = 100; stamp = None; frame = Whole place small_row }

its-arrivals : arrivals_at small_plan.config 0 0 (first_number_of small_plan.config 0 0) whole_session ≡ Came (item_at 1) ∷ Came (item_at 0) ∷ []
unfolding small_plan built_in_config built_in_group built_in_writer built_in_read_group built_in_reader demo seven byte number block when byte_when text publisher_id group_numbers group_when payload_header ids_when extras security_header parts header header_at ◌>>=◌ read flags1_at flags2_at front_times front_parts front_at behind_front message_at frame_at field_at surplus_at whole_at change_at patch_at content_at block_at text_at kind_at variant_at times_past parts_at data_value_at no_keys
its-arrivals = refl

whole-came : ClosingCame small_plan 0 0 0 0 whole_session its_past its_own
unfolding small_plan built_in_config built_in_group built_in_writer built_in_read_group built_in_reader
whole-came = record {
  numbered = refl;
  last = refl;
  closing = refl;
  came = record { item = item_at 1; came = subst (λ (list : List Arrival). Contains (since_cut list) (item_at 1)) (sym its-arrivals) (0, lit< tt, refl); stands = refl };
}

pub whole-newest : InSession small_plan 0 0 0 0 whole_session → AreVersions small_plan whole_session small_rows → NewestLaw CameSinceCut → IsNewestWhere CameSinceCut small_plan 0 0 whole_session small_rows
whole-newest is versions law = newest-where CameSinceCut small_plan 0 0 whole_session small_rows its_own law is versions (its_past, whole-came)
