use Rattle.ua_binary.proofs.Spelled.{variant_again}
use Rattle.ua_binary.proofs.laws.written_variants_are_read.Goals as goal

pub returns : goal.returns
returns c = variant_again
