-- The token and the number of the last datagram that a read group accepted under a security header.
use Rattle.std.specs.Prelude.{[], ◌∷◌, Option, Some, None, if◌then◌else◌}
use Rattle.message_guard.specs.declared.mode.Mode.{Mode}
use Rattle.message_guard.specs.declared.pass.Pass1.{Pass1}
use Rattle.message_guard.specs.Acceptance.{Accepted}
use Rattle.message_guard.specs.Modes.{is_secured}
use Rattle.reader_group.specs.declared.receipt.TokenNumber.{TokenNumber}

-- of the pairs that were accepted, the latest first
abbrev pub last_pair : Accepted → Option TokenNumber
last_pair [] = None
last_pair (pair ∷ before) = Some (record { token = pair.0; number = pair.1 })

-- after a datagram that is accepted
abbrev pub pair_on : Mode → Pass1 → Option TokenNumber → Option TokenNumber
pair_on mode pass before =
    if is_secured mode then Some (record { token = pass.token; number = pass.number }) else before
