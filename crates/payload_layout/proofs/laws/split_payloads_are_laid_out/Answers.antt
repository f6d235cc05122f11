use Rattle.payload_layout.proofs.Again.{split-spelled}
use Rattle.payload_layout.proofs.laws.split_payloads_are_laid_out.Goals as goal

pub returns : goal.returns
returns c = split-spelled
