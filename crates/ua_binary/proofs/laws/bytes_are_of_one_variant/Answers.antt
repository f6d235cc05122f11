use Rattle.ua_binary.proofs.Spelled.{same_variant}
use Rattle.ua_binary.proofs.laws.bytes_are_of_one_variant.Goals as goal

pub returns : goal.returns
returns c = same_variant
