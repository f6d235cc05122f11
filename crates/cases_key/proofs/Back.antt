-- Keys that were written are read back.
use Rattle.std.proofs.Common.{◌≡◌, ℕ, List, Result, Ok, ap, ◌∙◌}
use Rattle.key_service.specs.declared.service.Keys.{Keys}
use Rattle.key_service.specs.declared.wire_fault.WireFault.{WireFault}
use Rattle.key_service.specs.Pulled.{as_read}
use Rattle.key_service.specs.Reading.{reply_in}
use Rattle.key_service.specs.Spelling.{reply_bytes}

same_keys : (a b : Keys) (r : Result Keys WireFault) → Ok a ≡ r → r ≡ Ok b → a ≡ b
same_keys a b r one other = cc

pub back_is : (keys back : Keys) (bytes : List ℕ) → bytes ≡ reply_bytes keys → Ok back ≡ reply_in bytes → reply_in (reply_bytes keys) ≡ Ok (as_read keys) → back ≡ as_read keys
back_is keys back bytes written read law = same_keys back (as_read keys) (reply_in (reply_bytes keys)) (read ∙ ap reply_in written) law
