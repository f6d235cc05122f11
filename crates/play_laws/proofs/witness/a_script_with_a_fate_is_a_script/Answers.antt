use Rattle.play_laws.proofs.SmallText.{both-is, first-is, last-is}
use Rattle.play_laws.proofs.witness.a_script_with_a_fate_is_a_script.Goals as goal

pub returns : goal.returns
returns c = record { first = first-is; last = last-is; both = both-is }
