use Rattle.std.proofs.Common.{refl, arith}
use Rattle.key_delta.proofs.FrontLaws.{opening_behind}
use Rattle.dataset_writer.proofs.sends.Sends.new.Goals as goal

pub returns-clause-zeros : goal.returns-clause-zeros
returns-clause-zeros c = record { narrow = omega arith; row = opening_behind 0 _ c.opening.ensures.zeros; frame = opening_behind 0 _ refl }
