-- What faults say of themselves.
use Rattle.std.specs.Prelude.{ℕ, List, ◌++◌, codes}
use Rattle.std.specs.Fmt.{decimal}
use Rattle.message_guard.specs.declared.open_fault.OpenFault.{OpenFault}
use Rattle.message_guard.specs.declared.open_fault.OpenFault.TheVariants as open_faults

abbrev pub open_fault : OpenFault → List ℕ
open_fault open_faults.ModeDiffers =
    codes "the datagram isn't signed and encrypted as the security mode wants: give both sides the same mode"
open_fault open_faults.FooterOut =
    codes "the datagram has a security footer, which isn't read: send without one"
open_fault open_faults.KeyResetOut =
    codes "the sender asks for new keys, which isn't followed: configure its next key set"
open_fault (open_faults.BadNonceLength got) =
    codes "the message nonce has " ++ decimal got ++ codes " bytes: send with one of 8"
open_fault open_faults.Short =
    codes "fewer than 32 bytes come after the header: send with a signature of 32 bytes"
open_fault (open_faults.UnknownToken got) =
    codes "no key set has security token " ++ decimal got ++ codes ": add the sender's key set"
open_fault (open_faults.OldToken got high) =
    codes "security token " ++ (decimal got ++ (codes " is below " ++ (decimal high
    ++ codes ", which was accepted before: send with the keys of the higher one")))
open_fault open_faults.BadSignature =
    codes "the last 32 bytes aren't the signature of those before: compare the signing keys of both sides"
open_fault open_faults.Repeated =
    codes "a datagram with this token and number was accepted before: leave out the copy"
open_fault (open_faults.TooOld high) =
    codes "the message number is 1,024 or more below " ++ decimal high
    ++ codes ", the greatest accepted: send with a higher one"
