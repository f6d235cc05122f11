use Rattle.std.proofs.Common.{◌≡◌, ◌+◌, length}
use Rattle.cmd_relay.proofs.relaying.add_origins.Given as goal

abbrev pub invariant-loop-reader : goal.invariant-loop-reader
invariant-loop-reader l = length l.origins.items ≡ length l.fn.origins.items + l._reader
