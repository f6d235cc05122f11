use Rattle.uadp_header.specs.Layout.{header, header_at}
use Rattle.uadp_header.proofs.FormatLaws.{fewer-short}
use Rattle.uadp_header.proofs.laws.fewer_bytes_are_short.Goals as goal

pub returns : goal.returns
unfolding header_at
returns c = λ bytes rest one len. fewer-short header bytes one rest len
