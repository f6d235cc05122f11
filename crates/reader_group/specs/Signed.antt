-- A datagram that was signed.
use Rattle.std.specs.Prelude.{◌≡◌, ℕ, true, List, Contains, Ok}
use Rattle.hmac_sign.specs.Hmac.{hmac_sha256}
use Rattle.message_guard.specs.declared.keys.TokenKeys.{TokenKeys}
use Rattle.message_guard.specs.Acceptance.{Accepted}
use Rattle.message_guard.specs.Guards.{Setup}
use Rattle.message_guard.specs.Modes.{is_secured}
use Rattle.message_guard.specs.Protection.{body_of, signature_of}
use Rattle.ps_config.specs.declared.parts.ReadGroupPart.{ReadGroupPart}
use Rattle.reader_group.specs.Opening.{Opened, verdict}

-- the last 32 bytes are the signature of those before, under the signing key of one of these key sets
pub record IsSignedBy (keys : List TokenKeys) (datagram : List ℕ) : Type 0 where
  pub signer : TokenKeys
  pub one_of : Contains keys signer
  pub signature : signature_of datagram ≡ hmac_sha256 signer.signing (body_of datagram)

-- a secured group takes only what is signed under a key of its ring
abbrev pub TakesSignedAlone : Type 0
TakesSignedAlone =
    (group : ReadGroupPart) (setup : Setup) (accepted : Accepted) (datagram : List ℕ) (opened : Opened)
    → verdict group setup accepted datagram ≡ Ok opened → is_secured setup.mode ≡ true
    → IsSignedBy setup.keys datagram
