-- The threads before this one have their counts.
use Rattle.std.proofs.Common.{◌≡◌, ◌<◌, ℕ, length, get_or}
use Rattle.ps_script.specs.Sessions.{writes_in}
use Rattle.script_player.proofs.sizes.writes_to.Given as goal

abbrev pub invariant-loop-thread : goal.invariant-loop-thread
invariant-loop-thread l = record { eight : length l.writes ≡ 8; writes : (k : ℕ) → k < l.thread → get_or l.writes k 0 ≡ writes_in k l.set l.script.lines }
