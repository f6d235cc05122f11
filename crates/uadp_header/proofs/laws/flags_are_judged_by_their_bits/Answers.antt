use Rattle.uadp_header.proofs.FaultLaws.{version_judged, type_judged, discovery_judged, message_type_judged}
use Rattle.uadp_header.proofs.laws.flags_are_judged_by_their_bits.Goals as goal

pub returns : goal.returns
returns c = record { version = version_judged; publisher_type = type_judged; discovery = discovery_judged; message_type = message_type_judged }
