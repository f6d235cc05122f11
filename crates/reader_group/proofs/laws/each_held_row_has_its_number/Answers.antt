use Rattle.reader_group.proofs.Numbered.{opening-numbered, plain-numbered, renewed-numbered, step-numbered}
use Rattle.reader_group.proofs.laws.each_held_row_has_its_number.Goals as goal

pub returns : goal.returns
returns c = record { plain = plain-numbered; opened = opening-numbered; stepped = step-numbered; renewed = renewed-numbered }
