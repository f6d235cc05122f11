use Rattle.std.proofs.Common.{sym, ◌∙◌}
use Rattle.key_delta.proofs.copying.copy_front.Goals as goal

pub copy_words-requires-clause-same : goal.copy_words-requires-clause-same
copy_words-requires-clause-same c = c.requires.to.zeros ∙ sym c.requires.from.zeros
