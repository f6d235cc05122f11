-- What faults say of themselves.
use Rattle.std.specs.Prelude.{ℕ, List, ◌++◌, codes}
use Rattle.std.specs.Fmt.{decimal}
use Rattle.uadp_header.specs.FaultTexts.{header_fault}
use Rattle.frame_codec.specs.FaultTexts.{frame_fault}
use Rattle.chunker.specs.FaultTexts.{chunk_fault}
use Rattle.message_guard.specs.FaultTexts.{open_fault}
use Rattle.reader_group.specs.declared.notice.PartFault.{PartFault}
use Rattle.reader_group.specs.declared.notice.PartFault.TheVariants as faults
use Rattle.reader_group.specs.declared.refusal.Refusal.{Refusal}
use Rattle.reader_group.specs.declared.refusal.Refusal.TheVariants as refusals

abbrev pub refusal : Refusal → List ℕ
refusal (refusals.Header fault) = codes "no header was read: " ++ header_fault fault
refusal refusals.NotOurs =
    codes "the publisher, the group, its version, the class id or the NetworkMessageNumber isn't the one that the read group asks for"
refusal refusals.NoIds = codes "there is no payload header, which a dynamic layout wants"
refusal (refusals.Guard fault) = open_fault fault
refusal refusals.BadSizes = codes "the sizes of the messages, or the messages, pass the end of the datagram"

abbrev pub part_fault : PartFault → List ℕ
part_fault (faults.Frame fault) = frame_fault fault
part_fault (faults.Chunk fault) = chunk_fault fault
part_fault (faults.TooLong total) =
    codes "the chunk's message has " ++ decimal total ++ codes " bytes, more than the 4096 that are joined"
part_fault (faults.BadRange offset total) =
    codes "the chunk has no bytes, or from byte " ++ (decimal offset ++ (codes " on they pass the " ++ (decimal total ++ codes " of its message")))
part_fault (faults.Differs first now) =
    codes "the chunk's message has " ++ (decimal now ++ (codes " bytes, and " ++ (decimal first ++ codes " by the chunks before")))
part_fault faults.Missing = codes "the datagram ends before the reader's slot does"
