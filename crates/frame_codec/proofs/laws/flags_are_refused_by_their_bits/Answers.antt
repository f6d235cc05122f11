use Rattle.frame_codec.proofs.FlagFaultLaws.{even-refused, encoding-refused, raw_delta-refused, event-refused, kind-refused, bits-refused}
use Rattle.frame_codec.proofs.laws.flags_are_refused_by_their_bits.Goals as goal

pub returns : goal.returns
returns c = record { not_valid = even-refused; encoding = encoding-refused; raw_delta = raw_delta-refused; event = event-refused; kind = kind-refused; bits = bits-refused }
