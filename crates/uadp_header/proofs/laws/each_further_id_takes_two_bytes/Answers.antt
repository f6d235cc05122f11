use Rattle.uadp_header.proofs.SentLaws.{further-ids}
use Rattle.uadp_header.proofs.laws.each_further_id_takes_two_bytes.Goals as goal

pub returns : goal.returns
returns c = further-ids
