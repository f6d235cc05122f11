use Rattle.frame_codec.proofs.RefusalLaws.{variants-refused, data_values-refused, surplus-variants-refused, surplus-data_values-refused}
use Rattle.frame_codec.proofs.laws.values_are_refused_for_their_own_fault.Goals as goal

pub returns-clause-variants : goal.returns-clause-variants
returns-clause-variants c = variants-refused

pub returns-clause-data_values : goal.returns-clause-data_values
returns-clause-data_values c = data_values-refused

pub returns-clause-surplus_variants : goal.returns-clause-surplus_variants
returns-clause-surplus_variants c = surplus-variants-refused

pub returns-clause-surplus_data_values : goal.returns-clause-surplus_data_values
returns-clause-surplus_data_values c = surplus-data_values-refused
