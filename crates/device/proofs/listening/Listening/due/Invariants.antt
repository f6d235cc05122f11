use Rattle.std.proofs.Common.{ℕ, ◌<◌}
use Rattle.device.specs.Due.{HasTimeout, IsInTime, TellsFirst}
use Rattle.device.proofs.listening.Listening.due.Given as goal

abbrev pub invariant-loop-reader : goal.invariant-loop-reader
invariant-loop-reader l =
    TellsFirst l.now (λ t. (reader : ℕ) → reader < l.reader → IsInTime t reader l.self.group) (λ t. HasTimeout t l.self) l.first
