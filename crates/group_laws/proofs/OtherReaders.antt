-- A dynamic turn has nothing for the readers of writers that aren't of the group.
use Rattle.std.proofs.Common.{◌≡◌, ◌≢◌, refl, sym, ap, ◌∙◌, arith, ℕ, ◌<◌, ◌≤◌, ◌⊎◌, inl, inr, Bool, false, List, [], ◌∷◌, ◌++◌, length, All}
use Rattle.std.specs.Prelude.{◌==◌, slice_index_or, if◌then◌else◌}
use Rattle.std.specs.List.{flat_map}
use Rattle.std.proofs.lemmas.Bool.{cases_lt, ne_eqb}
use Rattle.std.proofs.lemmas.List.{get_or_past}
use Rattle.std.proofs.lemmas.List.Elements.{All-head, All-tail}
use Rattle.config_tables.specs.declared.words.Layout.{Layout}
use Rattle.config_tables.specs.declared.words.Layout.TheVariants as layouts
use Rattle.ps_config.specs.declared.parts.Config.{Config}
use Rattle.ps_config.specs.declared.parts.GroupPart.{GroupPart}
use Rattle.ps_config.specs.declared.parts.WriterPart.{WriterPart}
use Rattle.ps_config.specs.Rooms.{chunk_room}
use Rattle.writer_group.specs.Envelopes.{frame_room}
use Rattle.writer_group.specs.Payloads.{Spelled, no_writer, payloads_by}
use Rattle.writer_group.specs.Turns.{GroupDeed, TurnInput, envelope_of, frames_in, turns_from}
use Rattle.reader_group.specs.Members.{Seat}
use Rattle.reader_group.specs.Opening.{Opened}
use Rattle.reader_group.specs.Payloads.{pieces}
use Rattle.group_laws.specs.Matching.{IsGroupTurn}
use Rattle.group_laws.specs.TurnOpened.{opened_from, turn_opened}
use Rattle.group_laws.specs.TurnPieces.{frame_pieces}
use Rattle.group_laws.proofs.DynamicPieces.{own, brought-all}
use Rattle.writer_group.proofs.SmallIds.{frames-by, turn-small, id_at, group-sound}
use Rattle.group_laws.proofs.TurnLaws.{opened-brings, room-small}

none-own : (id frame_room room : ℕ) (frames : List Spelled) → All (λ frame. frame.id ≢ id) frames → flat_map (own id frame_room room) frames ≡ []
none-own id frame_room room [] all = refl
none-own id frame_room room (frame ∷ frames) all =
    let other : (frame.id == id) ≡ false = ne_eqb frame.id id (All-head (λ (f : Spelled). f.id ≢ id) frame frames all) in
    ap (λ (b : Bool). (if b then frame_pieces frame_room room frame else []) ++ flat_map (own id frame_room room) frames) other
    ∙ none-own id frame_room room frames (All-tail (λ (f : Spelled). f.id ≢ id) frame frames all)

pub no-writer-has : (group : GroupPart) (id writer : ℕ) → 1 ≤ id → All (λ writer. writer.id ≢ id) group.writer → id_at group writer ≢ id
no-writer-has group id writer some all = on (cases_lt writer (length group.writer))
  where
    on : (writer < length group.writer) ⊎ (length group.writer ≤ writer) → id_at group writer ≢ id
    on (inl within) = all writer no_writer within
    on (inr past) = λ same. let none : id_at group writer ≡ 0 = ap (λ (w : WriterPart). w.id) (get_or_past group.writer writer no_writer past) in absurd (omega (arith, same, none, some))

pub others-none : (config : Config) (group : GroupPart) (past : List GroupDeed) (input : TurnInput) (seat : Seat) → group.layout ≡ layouts.Dynamic → IsGroupTurn config group past input → 1 ≤ seat.part.writer
    → All (λ writer. writer.id ≢ seat.part.writer) group.writer → flat_map (λ opened. pieces seat.part opened.payload) (turn_opened config group past input) ≡ []
others-none config group past input seat is turn some all =
    let sound = group-sound config group turn.sound turn.group_is in
    let frames = frames_in group past input in
    let room = frame_room config.publisher.id group in
    let by = frames-by group input.told.metas past 0 (turns_from group input.told 0 input.on) in
    ap (λ (l : Layout). flat_map (λ (opened : Opened). pieces seat.part opened.payload) (opened_from l (envelope_of config group past) input.sender 0 (payloads_by l config group frames))) is
    ∙ opened-brings seat.part (envelope_of config group past) input.sender 0 (payloads_by layouts.Dynamic config group frames)
    ∙ brought-all seat.part room (chunk_room config.publisher.id group) frames (room-small config group sound) (turn-small config group past input sound)
    ∙ none-own seat.part.writer room (chunk_room config.publisher.id group) frames
    (λ k d below. λ same. no-writer-has group seat.part.writer (slice_index_or frames k d).writer some all (sym (by k d below).id ∙ same))
