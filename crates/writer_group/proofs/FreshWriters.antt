-- A writer that was refreshed is fresh, and its answer is a key frame.
use Rattle.std.proofs.Common.{◌≡◌, ℕ, Bool, true, false, ◌||◌, ◌&&◌, ◌==◌, List, [], ◌∷◌, refl, ap, ◌∙◌, Option, Some, None}
use Rattle.std.specs.Prelude.{is_none, option_map, if◌then◌else◌}
use Rattle.std.specs.List.{cons_option}
use Rattle.pubsub_model.specs.Frames.{Whole}
use Rattle.pubsub_model.specs.Cadence.{Settings, WriterTurn, WriterDeed, Refreshed, HadTurn, Answered, answer, cadence, is_fresh, next_place}
use Rattle.dataset_writer.specs.Turns.{model_settings}
use Rattle.ps_config.specs.declared.parts.GroupPart.{GroupPart}
use Rattle.writer_group.specs.Payloads.{writer_at}
use Rattle.writer_group.specs.Turns.{GroupDeed, RefreshedWriter, HadGroupTurn, answer_of, is_refreshed, settings_of, took_by, writer_past}

after_refresh : (b : Bool) (past : List WriterDeed) (refreshed : Bool) → is_fresh past ≡ refreshed → is_fresh (cons_option (if b then Some Refreshed else None) past) ≡ (b || refreshed)
after_refresh true past refreshed is = refl
after_refresh false past refreshed is = is

after_turn : (took : Option WriterTurn) (past : List WriterDeed) (refreshed : Bool) → is_fresh past ≡ refreshed → is_fresh (cons_option (option_map HadTurn took) past) ≡ (is_none took && refreshed)
after_turn None past refreshed is = is
after_turn (Some had) past refreshed is = refl

pub fresh-refreshed : (writer : ℕ) (past : List GroupDeed) → is_fresh (writer_past writer past) ≡ is_refreshed writer past
fresh-refreshed writer [] = refl
fresh-refreshed writer (RefreshedWriter other ∷ before) = after_refresh (other == writer) (writer_past writer before) (is_refreshed writer before) (fresh-refreshed writer before)
fresh-refreshed writer (HadGroupTurn turn ∷ before) = after_turn (took_by writer turn) (writer_past writer before) (is_refreshed writer before) (fresh-refreshed writer before)

key-due : (s : Settings) (fresh : Bool) (before : List Answered) (turn : WriterTurn) → fresh ≡ true → answer s fresh before turn ≡ Some (Whole (next_place s before) turn.row)
key-due s fresh before turn is = ap (λ (b : Bool). answer s b before turn) is

pub whole-answer : (part : GroupPart) (past : List GroupDeed) (writer : ℕ) (turn : WriterTurn) → is_refreshed writer past ≡ true
    → answer_of part past writer turn ≡ Some (Whole (next_place (model_settings (settings_of (writer_at part writer))) (cadence (model_settings (settings_of (writer_at part writer))) (writer_past writer past))) turn.row)
whole-answer part past writer turn is =
    let s = model_settings (settings_of (writer_at part writer)) in
    key-due s (is_fresh (writer_past writer past)) (cadence s (writer_past writer past)) turn (fresh-refreshed writer past ∙ is)
