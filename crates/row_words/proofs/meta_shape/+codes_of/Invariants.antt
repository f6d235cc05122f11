use Rattle.std.proofs.Common.{length}
use Rattle.row_words.proofs.meta_shape.+codes_of.Given as goal

abbrev pub decreases-codes_of : goal.decreases-codes_of
decreases-codes_of l = length l.fields.now
