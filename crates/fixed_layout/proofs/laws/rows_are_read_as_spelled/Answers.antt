use Rattle.fixed_layout.proofs.RawLaws.{row-begins, row-begins-read}
use Rattle.fixed_layout.proofs.laws.rows_are_read_as_spelled.Goals as goal

pub returns : goal.returns
returns c = λ fields bytes rest row meta all. (row-begins fields bytes rest row meta all, row-begins-read fields bytes rest row meta)
