use Rattle.fixed_layout.proofs.RawLaws.{row-size}
use Rattle.fixed_layout.proofs.Sizes.{length-raw_row}
use Rattle.fixed_layout.proofs.laws.rows_have_the_size_of_their_meta.Goals as goal

pub returns : goal.returns
returns c = record { written = λ meta row. length-raw_row meta.quality meta.fields row; read = row-size }
