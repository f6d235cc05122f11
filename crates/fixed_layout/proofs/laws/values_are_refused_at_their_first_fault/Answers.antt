use Rattle.fixed_layout.proofs.FaultLaws.{length-refused, text-refused, bad-length-read, bad-text-read}
use Rattle.fixed_layout.proofs.laws.values_are_refused_at_their_first_fault.Goals as goal

pub returns : goal.returns
returns c = record {
  bad_length = λ field bytes all. (length-refused field bytes all, bad-length-read field bytes);
  bad_utf8 = λ field bytes small all. (text-refused field bytes small all, λ b. bad-text-read field bytes small b all);
}
