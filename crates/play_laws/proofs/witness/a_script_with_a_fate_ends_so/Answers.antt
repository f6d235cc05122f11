use Rattle.mem_edge.proofs.Fated.{told_fated}
use Rattle.play_laws.proofs.SmallRun.{both-so, first-so, last-so}
use Rattle.play_laws.proofs.witness.a_script_with_a_fate_ends_so.Goals as goal

pub returns : goal.returns
returns c = record { first = first-so told_fated; last = last-so told_fated; both = both-so told_fated }
