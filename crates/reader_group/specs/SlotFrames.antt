-- The DataSetMessage in a slot of a fixed layout (OPC 10000-14 7.2.4.5, RawData field encoding). With RawData a key frame is its front and a row, and a
-- keep-alive is its front; with any other encoding the message is as in a dynamic layout. Zeros may follow it.
use Rattle.std.specs.Prelude.{ℕ, zero, suc, ◌==◌, true, List, Result, Ok, Err, if◌then◌else◌}
use Rattle.ua_binary.specs.Reading.{◌>>=◌}
use Rattle.dataset_meta.specs.declared.field.Field.{Field}
use Rattle.dataset_meta.specs.Metas.{MetaData}
use Rattle.fixed_layout.specs.declared.fault.RawFault.{RawFault}
use Rattle.fixed_layout.specs.declared.fault.RawFault.TheVariants as raws
use Rattle.fixed_layout.specs.Reading.{raw_row_at}
use Rattle.frame_codec.specs.declared.fault.FrameFault.{FrameFault}
use Rattle.frame_codec.specs.declared.fault.FrameFault.TheVariants.{Short, BadValue}
use Rattle.frame_codec.specs.declared.front.Front.{Front}
use Rattle.frame_codec.specs.Frames.{Content, Whole, Alive, Frame}
use Rattle.frame_codec.specs.Fronts.{front_at}
use Rattle.frame_codec.specs.Reading.{frame_with, ended, frame_at}

-- a row's fault, as the message's
abbrev pub fault_of : RawFault → FrameFault
fault_of raws.Short = Short
fault_of raws.BadLength = BadValue
fault_of raws.BadUtf8 = BadValue

abbrev pub in_frame : {A : Type 0} → Result A RawFault → Result A FrameFault
in_frame (Ok x) = Ok x
in_frame (Err fault) = Err (fault_of fault)

-- by the kind of message: 0 is a key frame, and 3 a keep-alive; with RawData a front tells of no other kind
unfoldable pub raw_content_at : List Field → ℕ → List ℕ → Result (Content × List ℕ) FrameFault
raw_content_at fields zero bytes = in_frame (raw_row_at fields bytes) >>= λ row. Ok (Whole row.0, row.1)
raw_content_at fields (suc kind) bytes = Ok (Alive, bytes)

unfoldable pub raw_frame_at : MetaData → Front → List ℕ → Result Frame FrameFault
raw_frame_at meta front bytes =
    raw_content_at meta.fields front.kind bytes >>= λ content. ended (frame_with front content.0, content.1)

-- the message whose front this is, and which these bytes begin with
abbrev pub frame_behind : MetaData → List ℕ → Front × List ℕ → Result Frame FrameFault
frame_behind meta bytes front =
    if front.0.encoding == 1 then raw_frame_at meta front.0 front.1 else frame_at meta bytes

unfoldable pub slot_frame_at : MetaData → List ℕ → Result Frame FrameFault
slot_frame_at meta bytes = front_at true bytes >>= frame_behind meta bytes
