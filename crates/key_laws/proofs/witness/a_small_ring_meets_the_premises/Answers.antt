use Rattle.key_laws.proofs.Small.{accepted-two, calls-acceptable, guard-of-none, pulled-uses, sender-block, small-acceptable, small-covered, small-guard, small-made, small-of-ring, small-order, small-over, small-publisher, small-pullable, small-read, small-readers, small-says}
use Rattle.key_laws.proofs.witness.a_small_ring_meets_the_premises.Goals as goal

pub returns : goal.returns
returns c = record {
  accepted = accepted-two;
  publisher = small-publisher;
  covered = small-covered;
  made = small-made;
  guard = small-guard;
  first_block = sender-block;
  none = guard-of-none;
  acceptable = small-acceptable;
  says = small-says;
  pulled_at = small-pullable;
  over = small-over;
  uses = pulled-uses;
  read = small-read;
  readers = small-readers;
  order = small-order;
  of_ring = small-of-ring;
  calls = calls-acceptable;
}
