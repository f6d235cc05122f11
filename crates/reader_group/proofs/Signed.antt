-- What a secured read group takes is signed under a key of its ring.
use Rattle.std.proofs.Common.{◌≡◌, arith, ℕ, suc, ◌-◌, Bool, true, false, not, List, [], ◌∷◌, ◌++◌, length, Option, Some, Result, Ok, Err, Contains}
use Rattle.std.specs.Prelude.{find, drop, ◌==◌, if◌then◌else◌}
use Rattle.uadp_header.specs.declared.fault.HeaderFault.{HeaderFault}
use Rattle.uadp_header.specs.Headers.{HeaderValue, SecurityValue}
use Rattle.uadp_header.specs.Layout.{header_at}
use Rattle.message_guard.specs.declared.keys.TokenKeys.{TokenKeys}
use Rattle.message_guard.specs.declared.mode.Mode.{Mode}
use Rattle.message_guard.specs.declared.pass.Pass1.{Pass1}
use Rattle.message_guard.specs.Acceptance.{Accepted}
use Rattle.message_guard.specs.Guards.{Setup}
use Rattle.message_guard.specs.Modes.{is_secured}
use Rattle.message_guard.specs.Opened.{IsPassed}
use Rattle.message_guard.specs.Opening as guards
use Rattle.ps_config.specs.declared.parts.ReadGroupPart.{ReadGroupPart}
use Rattle.reader_group.specs.declared.refusal.Refusal.TheVariants as refusals
use Rattle.reader_group.specs.Filter.{is_ours}
use Rattle.reader_group.specs.Opening.{Opened, verdict, verdict_of, decrypted, guard_refusals, payload_refusals, opened_as}
use Rattle.reader_group.specs.Signed.{IsSignedBy}
use Rattle.message_guard.proofs.Judged.{judged-more, judged_as-front}

-- the law of guards, as `message_guard` has it
abbrev pub PassedLaw : Type 0
PassedLaw =
    (mode : Mode) (keys : List TokenKeys) (accepted : Accepted) (security : Option SecurityValue) (datagram : List ℕ) (payload : ℕ) (pass : Pass1) → is_secured mode ≡ true
    → guards.verdict mode keys accepted security datagram payload ≡ Ok pass → IsPassed mode keys accepted security datagram payload pass

found-in : (token : ℕ) (keys : List TokenKeys) (signer : TokenKeys) → find (λ k. k.token == token) keys ≡ Some signer → Contains keys signer
found-in token [] signer e = absurd (cc)
found-in token (k ∷ keys) signer e = on (k.token == token) e (found-in token keys signer)
  where
    on : (b : Bool) → (if b then Some k else find (λ k. k.token == token) keys) ≡ Some signer → (find (λ k. k.token == token) keys ≡ Some signer → Contains keys signer) → Contains (k ∷ keys) signer
    on true e rest = let same : k ≡ signer = cc in (0, omega arith, same)
    on false e rest = let h = rest e in (suc h.0, let lt = h.1 in omega (arith, lt), h.2)

read-signed : PassedLaw → (group : ReadGroupPart) (setup : Setup) (accepted : Accepted) (datagram : List ℕ) (read : Result (HeaderValue × List ℕ) HeaderFault) (opened : Opened) → is_secured setup.mode ≡ true
    → verdict_of group setup accepted datagram read ≡ Ok opened → IsSignedBy setup.keys datagram
read-signed law group setup accepted datagram (Err fault) opened secured e = absurd (cc)
read-signed law group setup accepted datagram (Ok read) opened secured e =
    let payload = length datagram - length read.1 in
    let pass = guards.pass_of setup.mode read.0.security datagram in
    let list = guards.refusals setup.mode setup.keys accepted read.0.security datagram payload in
    let last = payload_refusals group.layout read.0.ids (drop payload (decrypted setup pass payload datagram)) in
    let x = opened_as group setup datagram read.0 payload in
    let more = judged-more (not (is_ours group read.0)) refusals.NotOurs (guard_refusals list ++ last) x opened e in
    let passed : guards.verdict setup.mode setup.keys accepted read.0.security datagram payload ≡ Ok pass = judged_as-front refusals.Guard list last x opened pass more in
    let is = law setup.mode setup.keys accepted read.0.security datagram payload pass secured passed in
    record { signer = is.signer; one_of = found-in is.part.token setup.keys is.signer is.known; signature = is.signature }

pub taken-signed : PassedLaw → (group : ReadGroupPart) (setup : Setup) (accepted : Accepted) (datagram : List ℕ) (opened : Opened) → verdict group setup accepted datagram ≡ Ok opened → is_secured setup.mode ≡ true
    → IsSignedBy setup.keys datagram
taken-signed law group setup accepted datagram opened e secured = read-signed law group setup accepted datagram (header_at datagram) opened secured e
