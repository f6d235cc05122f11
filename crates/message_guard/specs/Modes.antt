-- What a mode asks of a datagram (OPC 10000-14, MessageSecurityMode).
use Rattle.std.specs.Prelude.{Bool, true, false, not}
use Rattle.message_guard.specs.declared.mode.Mode.{Mode}
use Rattle.message_guard.specs.declared.mode.Mode.TheVariants as modes

abbrev pub is_secured : Mode → Bool
is_secured modes.None = false
is_secured modes.Sign = true
is_secured modes.Encrypt = true

abbrev pub encrypts : Mode → Bool
encrypts modes.None = false
encrypts modes.Sign = false
encrypts modes.Encrypt = true

-- two truth values are the same
abbrev pub is_same : Bool → Bool → Bool
is_same true b = b
is_same false b = not b
