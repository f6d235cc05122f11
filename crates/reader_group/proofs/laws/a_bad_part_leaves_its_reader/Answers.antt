use Rattle.reader_group.proofs.BadParts.{bad-left}
use Rattle.reader_group.proofs.laws.a_bad_part_leaves_its_reader.Goals as goal

pub returns : goal.returns
returns c = bad-left
