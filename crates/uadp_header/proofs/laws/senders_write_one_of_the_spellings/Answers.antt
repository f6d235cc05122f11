use Rattle.uadp_header.proofs.SentLaws.{sent-spelled}
use Rattle.uadp_header.proofs.laws.senders_write_one_of_the_spellings.Goals as goal

pub returns : goal.returns
returns c = sent-spelled
