-- What a secured read group takes has a token of its ring.
use Rattle.std.proofs.Common.{◌≡◌, sym, ap, ◌∙◌, subst, ℕ, ◌-◌, true, not, List, ◌++◌, length, Some, Result, Ok, Err}
use Rattle.std.specs.Prelude.{drop}
use Rattle.uadp_header.specs.declared.fault.HeaderFault.{HeaderFault}
use Rattle.uadp_header.specs.Headers.{HeaderValue}
use Rattle.uadp_header.specs.Layout.{header_at}
use Rattle.message_guard.specs.declared.keys.TokenKeys.{TokenKeys}
use Rattle.message_guard.specs.declared.pass.Pass1.{Pass1}
use Rattle.message_guard.specs.Acceptance.{Accepted, is_acceptable}
use Rattle.message_guard.specs.Guards.{Setup}
use Rattle.message_guard.specs.Modes.{is_secured}
use Rattle.message_guard.specs.Opening as guards
use Rattle.message_guard.specs.Protection.{keys_with}
use Rattle.message_guard.proofs.Judged.{judged-more, judged-value, judged_as-front}
use Rattle.message_guard.proofs.Telling.{passed_acceptable, passed_is}
use Rattle.ps_config.specs.declared.parts.ReadGroupPart.{ReadGroupPart}
use Rattle.reader_group.specs.declared.refusal.Refusal.TheVariants as refusals
use Rattle.reader_group.specs.Filter.{is_ours}
use Rattle.reader_group.specs.Opening.{Opened, decrypted, guard_refusals, list_of, opened_as, payload_refusals, verdict, verdict_of}

-- the token is one of the ring's
pub record HasKnownToken (setup : Setup) (opened : Opened) : Type 0 where
  pub signer : TokenKeys
  pub known : keys_with setup.keys opened.pass.token ≡ Some signer

read-known : (group : ReadGroupPart) (setup : Setup) (accepted : Accepted) (datagram : List ℕ) (read : Result (HeaderValue × List ℕ) HeaderFault) (opened : Opened) → is_secured setup.mode ≡ true
    → verdict_of group setup accepted datagram read ≡ Ok opened → HasKnownToken setup opened
read-known group setup accepted datagram (Err fault) opened secured e = absurd (cc)
read-known group setup accepted datagram (Ok read) opened secured e =
    let payload = length datagram - length read.1 in
    let pass = guards.pass_of setup.mode read.0.security datagram in
    let list = guards.refusals setup.mode setup.keys accepted read.0.security datagram payload in
    let last = payload_refusals group.layout read.0.ids (drop payload (decrypted setup pass payload datagram)) in
    let x = opened_as group setup datagram read.0 payload in
    let more = judged-more (not (is_ours group read.0)) refusals.NotOurs (guard_refusals list ++ last) x opened e in
    let passed : guards.verdict setup.mode setup.keys accepted read.0.security datagram payload ≡ Ok pass = judged_as-front refusals.Guard list last x opened pass more in
    let is = passed_is setup.mode setup.keys accepted read.0.security datagram payload pass secured passed in
    let same : x ≡ opened = judged-value (list_of group setup accepted datagram read.0 payload) x opened e in
    let token : opened.pass.token ≡ is.part.token = sym (ap (λ (o : Opened). o.pass.token) same) ∙ ap (λ (q : Pass1). q.token) is.found in
    record { signer = is.signer; known = ap (λ (t : ℕ). keys_with setup.keys t) token ∙ is.known }

pub known-token : (group : ReadGroupPart) (setup : Setup) (accepted : Accepted) (datagram : List ℕ) (opened : Opened) → verdict group setup accepted datagram ≡ Ok opened → is_secured setup.mode ≡ true
    → HasKnownToken setup opened
known-token group setup accepted datagram opened e secured = read-known group setup accepted datagram (header_at datagram) opened secured e

-- and a number that is acceptable under it
read-acceptable : (group : ReadGroupPart) (setup : Setup) (accepted : Accepted) (datagram : List ℕ) (read : Result (HeaderValue × List ℕ) HeaderFault) (opened : Opened) → is_secured setup.mode ≡ true
    → verdict_of group setup accepted datagram read ≡ Ok opened → is_acceptable setup.keys accepted opened.pass.token opened.pass.number ≡ true
read-acceptable group setup accepted datagram (Err fault) opened secured e = absurd (cc)
read-acceptable group setup accepted datagram (Ok read) opened secured e =
    let payload = length datagram - length read.1 in
    let pass = guards.pass_of setup.mode read.0.security datagram in
    let list = guards.refusals setup.mode setup.keys accepted read.0.security datagram payload in
    let last = payload_refusals group.layout read.0.ids (drop payload (decrypted setup pass payload datagram)) in
    let x = opened_as group setup datagram read.0 payload in
    let more = judged-more (not (is_ours group read.0)) refusals.NotOurs (guard_refusals list ++ last) x opened e in
    let passed : guards.verdict setup.mode setup.keys accepted read.0.security datagram payload ≡ Ok pass = judged_as-front refusals.Guard list last x opened pass more in
    let same : x ≡ opened = judged-value (list_of group setup accepted datagram read.0 payload) x opened e in
    subst (λ (o : Opened). is_acceptable setup.keys accepted o.pass.token o.pass.number ≡ true) same
    (passed_acceptable setup.mode setup.keys accepted read.0.security datagram payload pass secured passed)

pub taken-acceptable : (group : ReadGroupPart) (setup : Setup) (accepted : Accepted) (datagram : List ℕ) (opened : Opened) → verdict group setup accepted datagram ≡ Ok opened → is_secured setup.mode ≡ true
    → is_acceptable setup.keys accepted opened.pass.token opened.pass.number ≡ true
taken-acceptable group setup accepted datagram opened e secured = read-acceptable group setup accepted datagram (header_at datagram) opened secured e
