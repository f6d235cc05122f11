use Rattle.std.proofs.Common.{◌≡◌, length}
use Rattle.payload_layout.proofs.parts.fill.Given as goal

abbrev pub invariant-loop : goal.invariant-loop
invariant-loop l = length l.parts.items ≡ l.counter
