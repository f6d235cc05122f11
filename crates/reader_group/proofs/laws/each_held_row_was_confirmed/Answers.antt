use Rattle.reader_group.proofs.Confirmed.{rows-confirmed}
use Rattle.reader_group.proofs.laws.each_held_row_was_confirmed.Goals as goal

pub returns : goal.returns
returns c = rows-confirmed
