use Rattle.std.proofs.Common.{ℕ, List, subst}
use Rattle.row_words.specs.Belonging.{Belongs}
use Rattle.frame_codec.proofs.reading.opening.Goals as goal

pub returns : goal.returns
returns c = subst (λ (words : List ℕ). Belongs c.args.meta.now words) c.opening-zeros.ensures.zeros (c.opening-zeros.ensures.belongs c.args.meta.now c.fields.ensures.meta)
