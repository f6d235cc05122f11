use Rattle.ua_binary.specs.declared.fault.ValueFault.TheVariants.{KindOut, BadUtf8, BadLength}
use Rattle.ua_binary.proofs.Faults.{variant-cause, other-type, bad-length-read, bad-text-read}
use Rattle.ua_binary.proofs.laws.variants_are_refused_at_their_first_fault.Goals as goal

pub returns : goal.returns
returns c = record {
  kind_out = λ bytes. (variant-cause bytes KindOut, other-type bytes);
  bad_length = λ bytes all. (λ e. variant-cause bytes BadLength e all, bad-length-read bytes);
  bad_utf8 = λ bytes all. (λ e. variant-cause bytes BadUtf8 e all, bad-text-read bytes);
}
