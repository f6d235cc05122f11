use Rattle.uadp_header.proofs.Lengths.{length-is_header, alike-len}
use Rattle.uadp_header.proofs.laws.a_length_goes_by_the_parts.Goals as goal

pub returns : goal.returns
returns c = record { len = length-is_header; alike = alike-len }
