-- What the laws of a guard speak of: a datagram that may be opened, and one that was.
use Rattle.std.specs.Prelude.{◌≡◌, ℕ, ◌+◌, ◌<◌, ◌≤◌, ◌^◌, true, List, length, Option, Some}
use Rattle.hmac_sign.specs.Hmac.{hmac_sha256}
use Rattle.uadp_header.specs.Headers.{SecurityValue}
use Rattle.message_guard.specs.declared.keys.TokenKeys.{TokenKeys}
use Rattle.message_guard.specs.declared.mode.Mode.{Mode}
use Rattle.message_guard.specs.declared.pass.Pass1.{Pass1}
use Rattle.message_guard.specs.Modes.{is_secured}
use Rattle.message_guard.specs.Protection.{keys_with, number_in, body_of, signature_of}
use Rattle.message_guard.specs.Acceptance.{Accepted, is_acceptable}
use Rattle.message_guard.specs.Opening.{has_mode, signed_pass}
use Rattle.message_guard.specs.Senders.{SenderState}

-- a guard with these keys and accepted pairs has the sender's key set, and accepts its last number
pub record MayOpen (mode : Mode) (s : SenderState) (keys : List TokenKeys) (accepted : Accepted) : Type 0 where
  pub secured : is_secured mode ≡ true
  pub random : length s.random ≡ 4
  pub number : s.used < 2 ^ 32
  pub known : keys_with keys s.keys.token ≡ Some s.keys
  pub acceptable : is_acceptable keys accepted s.keys.token s.used ≡ true

-- what the guard finds of it
abbrev pub sent_pass : SenderState → List ℕ → List ℕ → Pass1
sent_pass s header payload = record { token = s.keys.token; number = s.used; random = s.random; end = length header + length payload }

-- a datagram that was passed: its security header is of the mode, it is signed under the keys of its token, and
-- token and number are acceptable
pub record IsPassed (mode : Mode) (keys : List TokenKeys) (accepted : Accepted) (security : Option SecurityValue) (datagram : List ℕ) (payload : ℕ) (pass : Pass1) : Type 0 where
  pub part : SecurityValue
  pub told : security ≡ Some part
  pub has_mode : has_mode mode (Some part) ≡ true
  pub nonce : length part.nonce ≡ 8
  pub room : payload + 32 ≤ length datagram
  pub signer : TokenKeys
  pub known : keys_with keys part.token ≡ Some signer
  pub signature : signature_of datagram ≡ hmac_sha256 signer.signing (body_of datagram)
  pub acceptable : is_acceptable keys accepted part.token (number_in part.nonce) ≡ true
  pub found : pass ≡ signed_pass part datagram
