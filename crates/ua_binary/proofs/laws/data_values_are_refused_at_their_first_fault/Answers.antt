use Rattle.ua_binary.proofs.Faults.{reserved-refused, data-value-fault, data-value-refused}
use Rattle.ua_binary.proofs.laws.data_values_are_refused_at_their_first_fault.Goals as goal

pub returns : goal.returns
returns c = record {
  reserved = reserved-refused;
  value = λ mask rest fault clear other. (data-value-fault mask rest fault clear other, λ is. data-value-refused mask rest fault clear is.0 is.1);
}
