-- What a sender is once the security header that borrows its nonce is let go.
use Rattle.std.specs.Prelude.{◌≡◌, ⊤}
use Rattle.std.specs.Borrow.{follows_so, MutBor, Fml}
use mathlib.Core.Option.{none}
use Rattle.message_guard.specs.contracts.sender.Sender.{the_row}
use Rattle.message_guard.specs.declared.mode.Mode.{Mode}
use Rattle.message_guard.specs.Senders.{SenderState, advanced}

-- it has taken the next number
abbrev pub LendsFront : Mode → MutBor SenderState → Fml
LendsFront mode s = follows_so the_row the_row s.ghost_name none (λ _ _. ⊤) (λ last. last ≡ advanced mode s.now)
