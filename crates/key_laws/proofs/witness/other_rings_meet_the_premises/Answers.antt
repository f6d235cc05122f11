use Rattle.key_laws.proofs.Small.{accepted-other, covered-then, late-is-sender, late-kept, late-not-ahead, late-publisher, late-steps-no-higher, other-covered, other-no-higher, other-taken}
use Rattle.key_laws.proofs.witness.other_rings_meet_the_premises.Goals as goal

pub returns : goal.returns
returns c = record {
  accepted = accepted-other;
  covered = other-covered;
  takes_on = other-taken;
  covered_then = covered-then;
  publisher = late-publisher;
  keeps = late-kept;
  not_ahead = late-not-ahead;
  sender = late-is-sender;
  lower = other-no-higher;
  steps = late-steps-no-higher;
}
