use Rattle.fixed_layout.proofs.RawLaws.{written-read, words-read, statuses-read}
use Rattle.fixed_layout.proofs.laws.written_rows_are_read.Goals as goal

pub returns : goal.returns
returns c = record { rows = written-read; words = words-read; statuses = statuses-read }
