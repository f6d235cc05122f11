-- Where a writer's answers stand, and that a turn in which it answers makes a datagram.
use Rattle.std.proofs.Common.{◌≡◌, refl, sym, ap, ◌∙◌, subst, arith, ℕ, ◌+◌, ◌<◌, ◌≤◌, false, List, ◌∷◌, length, Option, Some, None, inl, Contains}
use Rattle.std.specs.Prelude.{option_map}
use Rattle.std.proofs.lemmas.List.Elements.{All-contains}
use Rattle.pubsub_model.specs.Answers.{InSpan, places_used}
use Rattle.pubsub_model.specs.Cadence.{HadTurn, WriterTurn, answer, cadence, is_fresh, next_place}
use Rattle.pubsub_model.specs.Frames.{Alive, Change, IsPlacedFrame, PlacedFrame, Whole, is_silent, place_of}
use Rattle.pubsub_model.proofs.AnswerPlaces.{answers-span, data-at, next-count, next-is, place-span}
use Rattle.pubsub_model.proofs.PlaceLaws.{IsNext}
use Rattle.dataset_meta.specs.Metas.{MetaData}
use Rattle.ps_config.specs.declared.parts.Config.{Config}
use Rattle.ps_config.specs.declared.parts.GroupPart.{GroupPart}
use Rattle.ps_config.specs.Rooms.{lacks_room}
use Rattle.ps_config.specs.Sound.{IsGroup}
use Rattle.writer_group.specs.Payloads.{spelled_by}
use Rattle.writer_group.specs.Turns.{GroupDeed, GroupTurn, TurnInput, answer_to, frame_of_writer, frames_in, took_by, turn_by, turn_datagrams, turns_from, writer_past}
use Rattle.writer_group.proofs.SomeDatagrams.{turn-some}
use Rattle.group_laws.proofs.FixedFrames.{has-frame}
use Rattle.session_laws.specs.Pasts.{IsTurn, settings_at}
use Rattle.session_laws.proofs.Versions.Answering.{with_turn}
use Rattle.turn_laws.proofs.Rising.{IsPlacedAt}

-- ---- the answer of a turn

placed-in : (first next after : ℕ) (frame : PlacedFrame) → IsNext next (Some frame) → after ≡ next + places_used (Some frame) → first ≤ place_of frame → place_of frame < after → IsPlacedAt first next after (place_of frame)
placed-in first next after (Whole place row) is count above below =
    record { low = omega (arith, is); high = omega (arith, is); above = above; below = below; top = omega (arith, is, count); more = omega (arith, count) }
placed-in first next after (Change place patch) is count above below =
    record { low = omega (arith, is); high = omega (arith, is); above = above; below = below; top = omega (arith, is, count); more = omega (arith, count) }
placed-in first next after (Alive n) is count above below =
    record { low = omega (arith, is); high = omega (arith, is); above = above; below = below; top = omega (arith, is, count); more = omega (arith, count) }

in-good : (first next : ℕ) (frame : PlacedFrame) → InSpan first next frame → IsPlacedFrame frame
in-good first next (Whole place row) h = tt
in-good first next (Change place patch) h = tt
in-good first next (Alive n) h = let low = h.0 in omega (arith, low)

-- ---- of a writer of a group, with or without a turn

abbrev pub next_of : GroupPart → ℕ → List GroupDeed → ℕ
next_of group w past = next_place (settings_at group w) (cadence (settings_at group w) (writer_past w past))

-- the next place once it had this turn
abbrev pub next_with : GroupPart → ℕ → Option WriterTurn → List GroupDeed → ℕ
next_with group w took past = next_place (settings_at group w) (cadence (settings_at group w) (with_turn took (writer_past w past)))

pub placed-to : (group : GroupPart) (w : ℕ) (took : Option WriterTurn) (past : List GroupDeed) (frame : PlacedFrame) → answer_to group past w took ≡ Some frame
    → IsPlacedAt (settings_at group w).first_number (next_of group w past) (next_with group w took past) (place_of frame)
placed-to group w None past frame e = absurd (cc)
placed-to group w (Some turn) past frame e =
    let s = settings_at group w in
    let before = writer_past w past in
    let next = next_place s (cadence s before) in
    let after = next_place s (cadence s (HadTurn turn ∷ before)) in
    let count : after ≡ next + places_used (Some frame) =
    next-count s (cadence s before) turn (answer s (is_fresh before) (cadence s before) turn) ∙ ap (λ (o : Option PlacedFrame). next + places_used o) e in
    let span = place-span s.first_number after frame (answers-span s (HadTurn turn ∷ before) frame (inl e)) in
    placed-in s.first_number next after frame (next-is s before turn frame e) count span.0 span.1

pub good-to : (group : GroupPart) (w : ℕ) (took : Option WriterTurn) (past : List GroupDeed) (frame : PlacedFrame) → answer_to group past w took ≡ Some frame → IsPlacedFrame frame
good-to group w None past frame e = absurd (cc)
good-to group w (Some turn) past frame e =
    let s = settings_at group w in
    let before = writer_past w past in
    in-good s.first_number (next_place s (cadence s (HadTurn turn ∷ before))) frame (answers-span s (HadTurn turn ∷ before) frame (inl e))

pub loud-to : (group : GroupPart) (w : ℕ) (took : Option WriterTurn) (past : List GroupDeed) (frame : PlacedFrame) → answer_to group past w took ≡ Some frame → is_silent frame ≡ false → place_of frame ≡ next_of group w past
loud-to group w None past frame e loud = absurd (cc)
loud-to group w (Some turn) past frame e loud =
    let s = settings_at group w in
    let before = writer_past w past in
    data-at (next_place s (cadence s before)) frame loud (next-is s before turn frame e)

plus-none : (n : ℕ) → n + 0 ≡ n
plus-none n = omega arith

pub quiet-to : (group : GroupPart) (w : ℕ) (took : Option WriterTurn) (past : List GroupDeed) → answer_to group past w took ≡ None → next_with group w took past ≡ next_of group w past
quiet-to group w None past e = refl
quiet-to group w (Some turn) past e =
    let s = settings_at group w in
    let before = writer_past w past in
    let next = next_place s (cadence s before) in
    next-count s (cadence s before) turn (answer s (is_fresh before) (cadence s before) turn) ∙ ap (λ (o : Option PlacedFrame). next + places_used o) e ∙ plus-none next

pub further-to : (group : GroupPart) (w : ℕ) (took : Option WriterTurn) (past : List GroupDeed) → next_of group w past ≤ next_with group w took past
further-to group w None past = omega arith
further-to group w (Some turn) past =
    let s = settings_at group w in
    let before = writer_past w past in
    let count = next-count s (cadence s before) turn (answer s (is_fresh before) (cadence s before) turn) in
    omega (arith, count)

-- ---- its datagrams

spelled-to : (group : GroupPart) (metas : List MetaData) (past : List GroupDeed) (w : ℕ) (took : Option WriterTurn) (frame : PlacedFrame) → answer_to group past w took ≡ Some frame
    → frame_of_writer group metas past w took ≡ Some (spelled_by group metas w frame)
spelled-to group metas past w None frame e = absurd (cc)
spelled-to group metas past w (Some turn) frame e = ap (option_map (spelled_by group metas w)) e

-- a turn in which the writer answers makes one
pub input-makes : (config : Config) (group : GroupPart) (w : ℕ) (past : List GroupDeed) (input : TurnInput) (frame : PlacedFrame) → w < length group.writer → lacks_room config.publisher.id config.dataset group ≡ false
    → answer_to group past w (turn_by group input w) ≡ Some frame → 0 < length (turn_datagrams config group past input)
input-makes config group w past input frame within room e =
    let spelled = spelled_by group input.told.metas w frame in
    let own : frame_of_writer group input.told.metas past w (turn_by group input w) ≡ Some spelled = spelled-to group input.told.metas past w (turn_by group input w) frame e in
    let there : Contains (frames_in group past input) spelled = has-frame group input.told.metas past 0 w w (turns_from group input.told 0 input.on) spelled (omega arith) own in
    let some : 0 < length (frames_in group past input) = let below = there.1 in omega (arith, below) in
    turn-some config group config.dataset past input (omega (arith, within)) room some

pub turn-makes : (config : Config) (group : GroupPart) (w : ℕ) (past : List GroupDeed) (turn : GroupTurn) (frame : PlacedFrame) → IsTurn config group past turn → w < length group.writer → answer_to group past w (took_by w turn) ≡ Some frame
    → 0 < length turn.made
turn-makes config group w past turn frame is within e =
    let own : answer_to group past w (turn_by group is.input w) ≡ Some frame = sym (ap (λ (t : GroupTurn). answer_to group past w (took_by w t)) is.is) ∙ e in
    let part = All-contains (IsGroup config) config.group group is.may.sound.groups is.may.group_is in
    subst (λ (t : GroupTurn). 0 < length t.made) (sym is.is) (input-makes config group w past is.input frame within part.room own)
