-- One deed of a group more: what its writers answered stays so, and the bytes of each place.
use Rattle.std.proofs.Common.{◌≡◌, refl, sym, ap, ◌∙◌, subst, arith, ℕ, ◌<◌, Bool, true, false, not, ◌&&◌, List, [], ◌∷◌, Option, Some, None, inl, inr}
use Rattle.std.specs.Prelude.{◌==◌, option_map, if◌then◌else◌}
use Rattle.std.specs.List.{cons_option}
use Rattle.std.proofs.lemmas.Bool.Decides.{nat_tests}
use Rattle.pubsub_model.specs.Frames.{PlacedFrame, place_of, is_silent}
use Rattle.pubsub_model.specs.Cadence.{Settings, WriterTurn, WriterDeed, Refreshed, HadTurn, cadence, next_place}
use Rattle.pubsub_model.proofs.PlaceLaws.{IsNext}
use Rattle.ps_config.specs.declared.parts.Config.{Config}
use Rattle.ps_config.specs.declared.parts.GroupPart.{GroupPart}
use Rattle.writer_group.specs.Payloads.{spelled_by}
use Rattle.writer_group.specs.Turns.{GroupDeed, GroupTurn, RefreshedWriter, HadGroupTurn, writer_past, took_by, turn_by, answer_to, answer_by}
use Rattle.pubsub_model.specs.Answers.{IsAnswer}
use Rattle.session_laws.specs.Pasts.{IsTurn, AreTurns, answered_by, settings_at}
use Rattle.pubsub_model.proofs.AnswerPlaces.{answers-span, place-span, data-at, next-is}

-- ---- a refresh

refresh-if : (s : Settings) (b : Bool) (past : List WriterDeed) → cadence s (cons_option (if b then Some Refreshed else None) past) ≡ cadence s past
refresh-if s true past = refl
refresh-if s false past = refl

-- answers nothing
pub refresh-same : (group : GroupPart) (writer other : ℕ) (before : List GroupDeed) → answered_by group writer (RefreshedWriter other ∷ before) ≡ answered_by group writer before
refresh-same group writer other before = refresh-if (settings_at group writer) (other == writer) (writer_past writer before)

-- ---- a turn

abbrev pub with_turn : Option WriterTurn → List WriterDeed → List WriterDeed
with_turn took past = cons_option (option_map HadTurn took) past

turn-stays : (s : Settings) (took : Option WriterTurn) (past : List WriterDeed) (frame : PlacedFrame) → IsAnswer (cadence s past) frame → IsAnswer (cadence s (with_turn took past)) frame
turn-stays s None past frame is = is
turn-stays s (Some turn) past frame is = inr is

turn-now : (group : GroupPart) (writer : ℕ) (took : Option WriterTurn) (before : List GroupDeed) (frame : PlacedFrame) → answer_to group before writer took ≡ Some frame
    → IsAnswer (cadence (settings_at group writer) (with_turn took (writer_past writer before))) frame
turn-now group writer None before frame e = absurd (cc)
turn-now group writer (Some turn) before frame e = inl e

-- what the writer answered before
pub answer-stays : (group : GroupPart) (writer : ℕ) (turn : GroupTurn) (before : List GroupDeed) (frame : PlacedFrame) → IsAnswer (answered_by group writer before) frame → IsAnswer (answered_by group writer (HadGroupTurn turn ∷ before)) frame
answer-stays group writer turn before frame is = turn-stays (settings_at group writer) (took_by writer turn) (writer_past writer before) frame is

took-is : (config : Config) (group : GroupPart) (before : List GroupDeed) (turn : GroupTurn) (writer : ℕ) (is : IsTurn config group before turn) → took_by writer turn ≡ turn_by group is.input writer
took-is config group before turn writer is = ap (took_by writer) is.is

-- and what it answers now
pub answer-now : (config : Config) (group : GroupPart) (before : List GroupDeed) (turn : GroupTurn) (writer : ℕ) (frame : PlacedFrame) (is : IsTurn config group before turn) → answer_by group before is.input writer ≡ Some frame
    → IsAnswer (answered_by group writer (HadGroupTurn turn ∷ before)) frame
answer-now config group before turn writer frame is e =
    subst (λ (took : Option WriterTurn). IsAnswer (cadence (settings_at group writer) (with_turn took (writer_past writer before))) frame) (sym (took-is config group before turn writer is))
    (turn-now group writer (turn_by group is.input writer) before frame e)

next-to : (group : GroupPart) (writer : ℕ) (took : Option WriterTurn) (before : List GroupDeed) (frame : PlacedFrame) → answer_to group before writer took ≡ Some frame
    → IsNext (next_place (settings_at group writer) (answered_by group writer before)) (Some frame)
next-to group writer None before frame e = absurd (cc)
next-to group writer (Some turn) before frame e = next-is (settings_at group writer) (writer_past writer before) turn frame e

-- ---- the bytes of a place

abbrev pub bytes_if : ℕ → (PlacedFrame → List ℕ) → Option PlacedFrame → List ℕ → List ℕ
bytes_if place spelled None rest = rest
bytes_if place spelled (Some frame) rest = if not (is_silent frame) && (place_of frame == place) then spelled frame else rest

-- the message of the data frame with this place, as the writer spelled it
abbrev pub spelled_at : (config : Config) (group : GroupPart) (writer : ℕ) (past : List GroupDeed) → AreTurns config group past → ℕ → List ℕ
spelled_at config group writer [] are place = []
spelled_at config group writer (RefreshedWriter other ∷ before) are place = spelled_at config group writer before are place
spelled_at config group writer (HadGroupTurn turn ∷ before) are place =
    bytes_if place (λ frame. (spelled_by group are.0.input.told.metas writer frame).bytes) (answer_by group before are.0.input writer) (spelled_at config group writer before are.1 place)

bytes-now : (place : ℕ) (spelled : PlacedFrame → List ℕ) (frame : PlacedFrame) (rest : List ℕ) → is_silent frame ≡ false → place_of frame ≡ place → bytes_if place spelled (Some frame) rest ≡ spelled frame
bytes-now place spelled frame rest loud at =
    let test : (not (is_silent frame) && (place_of frame == place)) ≡ true = ap (λ (b : Bool). not b && (place_of frame == place)) loud ∙ grind (arith, nat_tests, at) in
    ap (λ (b : Bool). if b then spelled frame else rest) test

bytes-before : (place : ℕ) (spelled : PlacedFrame → List ℕ) (o : Option PlacedFrame) (rest : List ℕ) → ((frame : PlacedFrame) → o ≡ Some frame → is_silent frame ≡ false → place < place_of frame) → bytes_if place spelled o rest ≡ rest
bytes-before place spelled None rest below = refl
bytes-before place spelled (Some frame) rest below = on (is_silent frame) refl
  where
    on : (b : Bool) → is_silent frame ≡ b → bytes_if place spelled (Some frame) rest ≡ rest
    on true e = ap (λ (b : Bool). if not b && (place_of frame == place) then spelled frame else rest) e
    on false e =
        let lt = below frame refl e in
        let test : (not (is_silent frame) && (place_of frame == place)) ≡ false = ap (λ (b : Bool). not b && (place_of frame == place)) e ∙ grind (arith, nat_tests, lt) in
        ap (λ (b : Bool). if b then spelled frame else rest) test

-- a turn's own
pub spelled-now : (config : Config) (group : GroupPart) (writer : ℕ) (turn : GroupTurn) (before : List GroupDeed) (are : AreTurns config group (HadGroupTurn turn ∷ before)) (frame : PlacedFrame)
    → answer_by group before are.0.input writer ≡ Some frame → is_silent frame ≡ false
    → spelled_at config group writer (HadGroupTurn turn ∷ before) are (place_of frame) ≡ (spelled_by group are.0.input.told.metas writer frame).bytes
spelled-now config group writer turn before are frame e loud =
    let spelled : PlacedFrame → List ℕ = λ frame. (spelled_by group are.0.input.told.metas writer frame).bytes in
    let rest = spelled_at config group writer before are.1 (place_of frame) in
    ap (λ (o : Option PlacedFrame). bytes_if (place_of frame) spelled o rest) e ∙ bytes-now (place_of frame) spelled frame rest loud refl

-- and those of earlier answers
pub spelled-stays : (config : Config) (group : GroupPart) (writer : ℕ) (turn : GroupTurn) (before : List GroupDeed) (are : AreTurns config group (HadGroupTurn turn ∷ before)) (frame : PlacedFrame)
    → IsAnswer (answered_by group writer before) frame
    → spelled_at config group writer (HadGroupTurn turn ∷ before) are (place_of frame) ≡ spelled_at config group writer before are.1 (place_of frame)
spelled-stays config group writer turn before are frame is =
    let s = settings_at group writer in
    let next = next_place s (answered_by group writer before) in
    let old = place-span s.first_number next frame (answers-span s (writer_past writer before) frame is) in
    bytes-before (place_of frame) (λ frame. (spelled_by group are.0.input.told.metas writer frame).bytes) (answer_by group before are.0.input writer) (spelled_at config group writer before are.1 (place_of frame))
    (λ new e loud. let at = data-at next new loud (next-to group writer (turn_by group are.0.input writer) before new e) in let lt = old.1 in omega (arith, at, lt))
