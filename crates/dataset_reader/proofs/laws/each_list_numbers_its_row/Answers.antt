use Rattle.dataset_reader.proofs.NumberedLaws.{numbers-list, numbers-frame, numbers-cut}
use Rattle.dataset_reader.proofs.laws.each_list_numbers_its_row.Goals as goal

pub returns : goal.returns
returns c = record { list = numbers-list; frame = numbers-frame; cut = numbers-cut }
