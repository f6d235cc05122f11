use Rattle.play_laws.proofs.SmallText.{both-read, first-read, last-read}
use Rattle.play_laws.proofs.witness.a_script_with_a_fate_is_read_so.Goals as goal

pub returns : goal.returns
returns c = record { first = first-read; last = last-read; both = both-read }
