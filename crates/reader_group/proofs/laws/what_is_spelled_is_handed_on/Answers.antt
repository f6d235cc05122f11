use Rattle.reader_group.proofs.Handing.{hands-on, messages-back, chunk-back, slots-back}
use Rattle.reader_group.proofs.laws.what_is_spelled_is_handed_on.Goals as goal

pub returns-clause-payload : goal.returns-clause-payload
returns-clause-payload c = hands-on

pub returns-clause-messages : goal.returns-clause-messages
returns-clause-messages c = messages-back

pub returns-clause-chunk : goal.returns-clause-chunk
returns-clause-chunk c = chunk-back

pub returns-clause-slots : goal.returns-clause-slots
returns-clause-slots c = slots-back
