use Rattle.std.proofs.Common.{◌≡◌, ◌++◌, sym, ◌∙◌, ap, take, drop, ℕ, List, false}
use Rattle.std.specs.Prelude.{slice_range}
use Rattle.message_guard.specs.Protection.{keys_with, message_nonce}
use Rattle.message_guard.specs.Modes.{encrypts}
use Rattle.message_guard.proofs.Lists.{three_parts}
use Rattle.message_guard.proofs.Plain.{no_stream}
use Rattle.message_guard.proofs.guard.Guard.decrypt.Goals as goal

pub returns-then-not-encrypts : goal.returns-then-not-encrypts
returns-then-not-encrypts c =
    let datagram = c.args.datagram.now in
    let guard = c.args.self.now in
    let pass = c.args.pass.now in
    let off : encrypts guard.mode ≡ false = sym c.encrypts.ensures ∙ c.if-not-encrypts.true in
    sym (ap (λ (xs : List ℕ). take c.args.payload datagram ++ xs ++ drop pass.end datagram)
    (no_stream guard.mode (keys_with guard.keys pass.token) (message_nonce pass.random pass.number) guard.first_block (slice_range datagram c.args.payload pass.end) off)
    ∙ three_parts datagram c.args.payload pass.end c.requires.order)
