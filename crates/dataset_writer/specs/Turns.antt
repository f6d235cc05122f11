-- What a turn sends: the frame of the model's answer.
use Rattle.std.specs.Prelude.{ℕ, Bool, List, [], ◌∷◌, Option, Some, None, ⊤}
use Rattle.dataset_meta.specs.declared.field.Field.{Field}
use Rattle.dataset_meta.specs.Metas.{MetaData}
use Rattle.row_words.specs.declared.row.Row.{Row}
use Rattle.row_words.specs.Belonging.{row_in}
use Rattle.pubsub_model.specs.Frames.{PlacedFrame}
use Rattle.pubsub_model.specs.Cadence.{Settings, WriterTurn, Answered}
use Rattle.frame_codec.specs.declared.frame.Frame.{Frame}
use Rattle.frame_codec.specs.Words.{IsFrameOf}
use Rattle.dataset_writer.specs.declared.settings.WriterSettings.{WriterSettings}
use Rattle.dataset_writer.specs.declared.turn.Turn.{Turn}
use Rattle.dataset_writer.specs.declared.turn.Turn.TheVariants.{Send, Quiet}

abbrev pub model_settings : WriterSettings → Settings
model_settings s =
    record {
      first_number = s.first_number;
      key_frame_count = s.key_frame_count;
      keep_alive = s.keep_alive;
    }

-- a turn at this moment, with the row that the words stand for
abbrev pub turn_at : List Field → ℕ → Row → ℕ → Bool → WriterTurn
turn_at fields now row version closing =
    record { moment = now; row = row_in fields row.words; version = version; closing = closing }

-- what the latest turn is answered
abbrev pub latest_answer : List Answered → Option PlacedFrame
latest_answer [] = None
latest_answer (answered ∷ before) = answered.answer

-- the frame that a turn sends
abbrev pub sent_by : Turn → Option Frame
sent_by (Send frame) = Some frame
sent_by Quiet = None

-- the words of a frame that is sent are those of a row, or of a patch, of this meta
abbrev pub IsTurnOf : MetaData → Turn → Type 0
IsTurnOf meta (Send frame) = IsFrameOf meta frame
IsTurnOf meta Quiet = ⊤

-- the same settings, with this number as that of the first data frame
abbrev pub beginning_at : ℕ → WriterSettings → WriterSettings
beginning_at first settings = record settings { first_number = first }
