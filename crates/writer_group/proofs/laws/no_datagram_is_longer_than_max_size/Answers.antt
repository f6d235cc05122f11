use Rattle.std.proofs.Common.{get_or}
use Rattle.writer_group.proofs.LongestTurns.{none-longer, turn-of}
use Rattle.writer_group.proofs.laws.no_datagram_is_longer_than_max_size.Goals as goal

pub returns : goal.returns
returns c = λ config index made metas frames sender good within d class_id is_sender are_metas answers.
    none-longer config (get_or config.group index d) made metas frames sender (turn-of config index metas frames sender d good within class_id is_sender are_metas answers)
