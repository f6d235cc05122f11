use Rattle.writer_group.specs.Payloads.{payloads_of}
use Rattle.writer_group.specs.Turns.{frames_in}
use Rattle.writer_group.proofs.SmallIds.{group-sound}
use Rattle.group_laws.proofs.OtherGroups.{fixed-refused, not-named, others-pieces, turn-of}
use Rattle.group_laws.proofs.laws.a_datagram_has_nothing_for_readers_of_other_groups.Goals as goal

pub returns-clause-named : goal.returns-clause-named
returns-clause-named c config group past input readers setup accepted datagram turn has =
    let is = turn-of config group past input (group-sound config group turn.sound turn.group_is) datagram turn.written has in
    not-named readers setup accepted group (payloads_of config group (frames_in group past input)) datagram is

pub returns-clause-fixed : goal.returns-clause-fixed
returns-clause-fixed c config group past input readers setup accepted datagram turn has =
    let is = turn-of config group past input (group-sound config group turn.sound turn.group_is) datagram turn.written has in
    fixed-refused config group (frames_in group past input) readers setup accepted datagram is

pub returns-clause-dynamic : goal.returns-clause-dynamic
returns-clause-dynamic c config group past input readers setup accepted datagram opened reader turn has =
    let sound = group-sound config group turn.sound turn.group_is in
    others-pieces config group past input sound readers setup accepted datagram opened reader (turn-of config group past input sound datagram turn.written has)
