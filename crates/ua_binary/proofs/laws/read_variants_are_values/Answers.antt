use Rattle.ua_binary.proofs.Spelled.{variant-is_value, variant-fits}
use Rattle.ua_binary.proofs.laws.read_variants_are_values.Goals as goal

pub returns : goal.returns
returns c = record { value = variant-is_value; fits = variant-fits }
