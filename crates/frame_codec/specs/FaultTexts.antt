-- What faults say of themselves.
use Rattle.std.specs.Prelude.{ℕ, List, ◌++◌, codes}
use Rattle.std.specs.Fmt.{decimal}
use Rattle.frame_codec.specs.declared.fault.FrameFault.{FrameFault}
use Rattle.frame_codec.specs.declared.fault.FrameFault.TheVariants as frame_faults

abbrev pub frame_fault : FrameFault → List ℕ
frame_fault frame_faults.Short =
    codes "the bytes end before the message does"
frame_fault frame_faults.BadEncoding =
    codes "the field encoding is 3, or RawData outside a fixed layout or in a delta frame"
frame_fault frame_faults.KindOut =
    codes "a value's type byte is of no kind that a field can have"
frame_fault frame_faults.BadValue =
    codes "a value doesn't fit its field"
frame_fault (frame_faults.BadIndex got) =
    codes "no field has the delta frame's index " ++ decimal got ++ codes ": compare the configuration versions"
frame_fault (frame_faults.WrongCount got) =
    codes "the key frame has " ++ decimal got ++ codes " fields, another number than the data set: compare the configuration versions"
frame_fault frame_faults.Trailing =
    codes "a byte behind the message isn't 0"
frame_fault frame_faults.NotValid =
    codes "the message says that it isn't valid"
frame_fault frame_faults.EventOut =
    codes "the message is an event, and data sets of events are out"
frame_fault frame_faults.ReservedBits =
    codes "the message has a kind or a flag that the standard reserves"
