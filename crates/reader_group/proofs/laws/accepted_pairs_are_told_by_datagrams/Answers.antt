use Rattle.reader_group.proofs.Accepting.{plain-accepted}
use Rattle.reader_group.proofs.laws.accepted_pairs_are_told_by_datagrams.Goals as goal

pub returns : goal.returns
returns c = plain-accepted
