-- A reader is given what its writer answered at a turn of a fixed group.
use Rattle.std.proofs.Common.{◌≡◌, inl, refl, sym, ap, ◌∙◌, subst, arith, ℕ, ◌+◌, ◌-◌, Bool, true, false, List, [], ◌∷◌, ◌++◌, length, map, replicate, fold, Option, Some, None, Ok}
use Rattle.std.specs.Prelude.{option_map}
use Rattle.std.specs.Option.{option_map_or}
use Rattle.std.specs.List.{flat_map}
use Rattle.std.proofs.lemmas.List.Elements.{All-contains}
use Rattle.std.proofs.lemmas.Option.{slice_get-get_or}
use Rattle.dataset_meta.specs.Metas.{MetaData, no_meta}
use Rattle.pubsub_model.specs.Frames.{PlacedFrame, Whole}
use Rattle.pubsub_model.specs.Cadence.{WriterTurn, cadence, next_place}
use Rattle.frame_codec.specs.Frames.{Frame, frame_cut}
use Rattle.frame_codec.proofs.WrittenLaws.{cut-whole}
use Rattle.fixed_layout.specs.Datagrams.{filled}
use Rattle.config_tables.specs.declared.words.Layout.{Layout}
use Rattle.config_tables.specs.declared.words.Layout.TheVariants as layouts
use Rattle.ps_config.specs.declared.parts.Config.{Config}
use Rattle.ps_config.specs.declared.parts.GroupPart.{GroupPart}
use Rattle.ps_config.specs.FixedSound.{IsFixedGroup, writer_slot}
use Rattle.ps_config.specs.Rooms.{is_fixed}
use Rattle.ps_config.specs.Sound.{IsGroup}
use Rattle.dataset_writer.specs.Turns.{model_settings}
use Rattle.writer_group.specs.Payloads.{spelled_by, carried_frame, laid_frame, raw_frame, writer_at, meta_at, no_writer}
use Rattle.writer_group.specs.Turns.{GroupDeed, TurnInput, answer_of, settings_of, writer_past, frame_by, turn_by, answer_to, answer_by}
use Rattle.reader_group.specs.Members.{Seat, MemberValue}
use Rattle.reader_group.specs.Opening.{Opened}
use Rattle.reader_group.specs.Payloads.{Slotted, pieces}
use Rattle.reader_group.specs.Plain.{Fed, count_if, given, read_case, piece_case}
use Rattle.reader_group.specs.SlotFrames.{slot_frame_at}
use Rattle.group_laws.specs.Matching.{ReadsWriter, IsGroupTurn}
use Rattle.group_laws.specs.TurnOpened.{turn_opened}
use Rattle.group_laws.specs.TurnPieces.{fixed_pieces, turn_pieces, writer_pieces}
use Rattle.group_laws.specs.TurnReading.{Received, fed_all, frame_answered, frame_read, IsSampled, IsGiven, IsReadInSlot, IsFixedTurn}
use Rattle.group_laws.proofs.DynamicReading.{answer-frame, frame-by-is, more-receipts}
use Rattle.group_laws.proofs.FixedFrames.{turn-whole}
use Rattle.group_laws.proofs.FixedPieces.{fixed-turn}
use Rattle.group_laws.proofs.Members.{joining-given}
use Rattle.group_laws.proofs.PartsReading.{Part, part_on, parts_for, fed-parts, pieces-of, receipts-of, one-part}
use Rattle.group_laws.proofs.SlotReading.{good-row, raw-read, zeros-read}
use Rattle.writer_group.proofs.SmallIds.{group-sound}

-- a slot that is read as a frame, and one that isn't

slot-given : (seat : Seat) (fed : Fed) (parts : List Part) (bytes : List ℕ) (frame : Frame) → slot_frame_at seat.meta bytes ≡ Ok frame → map (λ (p : Part). p.piece) parts ≡ Slotted bytes ∷ []
    → IsGiven seat (map (λ p. p.receipt) parts) fed frame (fold (part_on seat) fed parts)
slot-given seat fed parts bytes frame read e =
    let one = one-part parts (Slotted bytes) e in
    let after : piece_case seat one.receipt fed.member (Slotted bytes) ≡ (given seat one.receipt fed.member frame, false) = ap (read_case seat one.receipt fed.member) read in
    subst (λ (l : List Part). IsGiven seat (map (λ (p : Part). p.receipt) l) fed frame (fold (part_on seat) fed l)) (sym one.is)
    (record {
      receipt = one.receipt;
      one_of = (0, omega arith, refl);
      joining = fed.member.joining;
      joins = inl refl;
      member = ap (λ (p : MemberValue × Bool). p.0) after ∙ sym (joining-given seat one.receipt fed.member frame);
      good = ap (λ (p : MemberValue × Bool). fed.bad + count_if p.1) after ∙ omega arith;
    })

slot-empty : (seat : Seat) (fed : Fed) (parts : List Part) (zeros : ℕ) → map (λ (p : Part). p.piece) parts ≡ Slotted (replicate zeros 0) ∷ []
    → ((fold (part_on seat) fed parts).member ≡ fed.member) × ((fold (part_on seat) fed parts).bad ≡ fed.bad + 1)
slot-empty seat fed parts zeros e =
    let one = one-part parts (Slotted (replicate zeros 0)) e in
    let none = zeros-read seat.meta zeros in
    let after : piece_case seat one.receipt fed.member (Slotted (replicate zeros 0)) ≡ (fed.member, true) = ap (read_case seat one.receipt fed.member) none.is in
    subst (λ (l : List Part). ((fold (part_on seat) fed l).member ≡ fed.member) × ((fold (part_on seat) fed l).bad ≡ fed.bad + 1)) (sym one.is)
    (ap (λ (p : MemberValue × Bool). p.0) after, ap (λ (p : MemberValue × Bool). fed.bad + count_if p.1) after)

module _ (config : Config) (group : GroupPart) (past : List GroupDeed) (input : TurnInput) (writer : ℕ) (seat : Seat)
    (is : group.layout ≡ layouts.Fixed) (turn : IsGroupTurn config group past input) (fixed : IsFixedTurn config group past input) (reader : ReadsWriter group writer seat.part) (same : seat.meta ≡ meta_at group config.dataset writer) where
  abbrev meta : MetaData
  meta = meta_at group input.told.metas writer

  pub turn-is : (answer : Option PlacedFrame) → answer_by group past input writer ≡ answer → turn_pieces config group past input writer ≡ fixed_pieces config group writer (option_map (spelled_by group input.told.metas writer) answer)
  turn-is answer e =
      ap (λ (l : Layout). writer_pieces l config group writer (frame_by group past input writer)) is
      ∙ ap (fixed_pieces config group writer) (frame-by-is group past input writer)
      ∙ ap (λ (o : Option PlacedFrame). fixed_pieces config group writer (option_map (spelled_by group input.told.metas writer) o)) e

  pub sound : IsGroup config group
  sound = group-sound config group turn.sound turn.group_is

  pub group_fixed : IsFixedGroup config group
  group_fixed = All-contains (λ (g : GroupPart). is_fixed g.layout ≡ true → IsFixedGroup config g) config.group group fixed.fixed.groups turn.group_is (ap is_fixed is)

  sampled : IsSampled group past input writer
  sampled = fixed.sampled writer reader.within

  now_is : seat.meta ≡ meta
  now_is = same ∙ sym (fixed.metas.fixed (ap is_fixed is) writer reader.within)

  -- the data set of a fixed writer has no statuses
  no-quality : meta.quality ≡ false
  no-quality =
      let part_is = writer_at group writer in
      let known = (sound.writers writer no_writer reader.within).dataset in
      ap (λ (m : MetaData). m.quality) (fixed.metas.fixed (ap is_fixed is) writer reader.within)
      ∙ sym (ap (λ (o : Option MetaData). option_map_or (λ (m : MetaData). m.quality) o false) (slice_get-get_or config.dataset part_is.dataset no_meta known))
      ∙ (group_fixed.writers writer no_writer reader.within).no_quality

  -- the place of the key frame that a turn is answered with
  abbrev pub place_now : ℕ
  place_now = next_place (model_settings (settings_of (writer_at group writer))) (cadence (model_settings (settings_of (writer_at group writer))) (writer_past writer past))

  pub answer-is : (took : WriterTurn) → answer_of group past writer took ≡ Some (Whole place_now took.row)
  answer-is took = turn-whole config group past input is group_fixed sound (fixed.metas.fixed (ap is_fixed is)) writer took reader.within

  pub slot-is : (took : WriterTurn) (place : ℕ) → answer_by group past input writer ≡ Some (Whole place took.row)
      → slot_frame_at seat.meta (filled (writer_slot config (writer_at group writer)) (spelled_by group input.told.metas writer (Whole place took.row)).bytes)
      ≡ Ok (frame_read group input writer seat (Whole place took.row))
  slot-is took place e =
      let placed = Whole place took.row in
      let frame = carried_frame (writer_at group writer) meta placed in
      let spelled = spelled_by group input.told.metas writer placed in
      let slot = writer_slot config (writer_at group writer) in
      let frame_is = answer-frame group past input writer placed sampled e in
      let bytes_are : spelled.bytes ≡ raw_frame meta.fields frame = ap (λ (l : Layout). laid_frame l meta frame) is in
      let good = good-row meta.quality meta.fields took.row no-quality frame_is.content in
      ap (λ (m : MetaData). slot_frame_at m (filled slot spelled.bytes)) now_is
      ∙ ap (λ (bytes : List ℕ). slot_frame_at meta (bytes ++ replicate (slot.size - length spelled.bytes) 0)) bytes_are
      ∙ raw-read meta frame took.row (slot.size - length spelled.bytes) refl sampled.meta frame_is frame_is.content good
      ∙ ap (λ (f : Frame). Ok f) (sym (ap (λ (m : MetaData). frame_cut m frame) now_is ∙ cut-whole meta frame frame_is))

module _ (config : Config) (group : GroupPart) (past : List GroupDeed) (input : TurnInput) (writer : ℕ) (seat : Seat) (fed : Fed) (received : List Received)
    (is : group.layout ≡ layouts.Fixed) (turn : IsGroupTurn config group past input) (fixed : IsFixedTurn config group past input) (reader : ReadsWriter group writer seat.part) (same : seat.meta ≡ meta_at group config.dataset writer)
    (opened_are : map (λ (a : Received). a.opened) received ≡ turn_opened config group past input) where
  abbrev its_meta : MetaData
  its_meta = meta_at group input.told.metas writer

  abbrev parts : List Part
  parts = parts_for seat received

  parts-are : (answer : Option PlacedFrame) → answer_by group past input writer ≡ answer → map (λ (p : Part). p.piece) parts ≡ fixed_pieces config group writer (option_map (spelled_by group input.told.metas writer) answer)
  parts-are answer e =
      pieces-of seat received ∙ ap (flat_map (λ (o : Opened). pieces seat.part o.payload)) opened_are
      ∙ fixed-turn config group past input writer seat is turn fixed reader
      ∙ turn-is config group past input writer seat is turn fixed reader same answer e

  whole-read : (took : WriterTurn) (place : ℕ) → answer_by group past input writer ≡ Some (Whole place took.row)
      → IsGiven seat (map (λ (p : Part). p.receipt) parts) fed (frame_read group input writer seat (Whole place took.row)) (fold (part_on seat) fed parts)
  whole-read took place e =
      let spelled = spelled_by group input.told.metas writer (Whole place took.row) in
      slot-given seat fed parts (filled (writer_slot config (writer_at group writer)) spelled.bytes) (frame_read group input writer seat (Whole place took.row))
      (slot-is config group past input writer seat is turn fixed reader same took place e) (parts-are (Some (Whole place took.row)) e)

  on-turn : (took : Option WriterTurn) → turn_by group input writer ≡ took
      → IsReadInSlot seat (map (λ (a : Received). a.receipt) received) fed (option_map (frame_read group input writer seat) (answer_to group past writer took)) (fold (part_on seat) fed parts)
  on-turn None had =
      slot-empty seat fed parts (writer_slot config (writer_at group writer)).size (parts-are None (ap (answer_to group past writer) had))
  on-turn (Some took) had =
      let place = place_now config group past input writer seat is turn fixed reader same in
      let answer : answer_of group past writer took ≡ Some (Whole place took.row) = answer-is config group past input writer seat is turn fixed reader same took in
      let frame = frame_read group input writer seat (Whole place took.row) in
      subst (λ (o : Option PlacedFrame). IsReadInSlot seat (map (λ (a : Received). a.receipt) received) fed (option_map (frame_read group input writer seat) o) (fold (part_on seat) fed parts)) (sym answer)
      (more-receipts seat (map (λ (p : Part). p.receipt) parts) (map (λ (a : Received). a.receipt) received) fed frame (fold (part_on seat) fed parts) (receipts-of seat received)
      (whole-read took place (ap (answer_to group past writer) had ∙ answer)))

  pub fixed-read : IsReadInSlot seat (map (λ (a : Received). a.receipt) received) fed (frame_answered group past input writer seat) (fed_all seat fed received)
  fixed-read =
      subst (λ (after : Fed). IsReadInSlot seat (map (λ (a : Received). a.receipt) received) fed (frame_answered group past input writer seat) after) (sym (fed-parts seat fed received))
      (on-turn (turn_by group input writer) refl)
