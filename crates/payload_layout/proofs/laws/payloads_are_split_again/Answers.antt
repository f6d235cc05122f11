use Rattle.payload_layout.proofs.Again.{several-again, one-again, laid-good}
use Rattle.payload_layout.proofs.laws.payloads_are_split_again.Goals as goal

pub returns : goal.returns
returns c = record { several = several-again; one = one-again; good = laid-good }
