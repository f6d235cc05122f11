use Rattle.ua_binary.proofs.Spelled.{variant-begins, variant-begins-read}
use Rattle.ua_binary.proofs.laws.variants_are_read_as_spelled.Goals as goal

pub returns : goal.returns
returns c = λ bytes rest value all. (variant-begins bytes rest value all, variant-begins-read bytes rest value)
