use Rattle.std.proofs.Common.{refl, ◌∙◌}
use Rattle.row_words.proofs.Loops.{number_of_front}
use Rattle.row_words.proofs.digits.word_of.Goals as goal

pub returns : goal.returns
returns c = c.from_le_bytes.ensures ∙ rw c.copy_from_slice.ensures.after (number_of_front c.args.bytes.now _ c.requires refl)
