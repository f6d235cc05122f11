use Rattle.std.proofs.Common.{ℕ, ◌<◌}
use Rattle.session_model.specs.Sets.{meta_in}
use Rattle.cmd_relay.specs.Sources.{HasSource}
use Rattle.cmd_relay.proofs.sources.unsourced.Given as goal

abbrev pub invariant-loop-set : goal.invariant-loop-set
invariant-loop-set l = (k : ℕ) → k < l.set → HasSource l.first (meta_in l.second.dataset k)
