use Rattle.ua_binary.proofs.Spelled.{variant-fewer, data_value-fewer}
use Rattle.ua_binary.proofs.laws.fewer_bytes_are_short.Goals as goal

pub returns : goal.returns
returns c = record { variants = variant-fewer; data_values = data_value-fewer }
