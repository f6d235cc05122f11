-- A sender that the ring of its service renews, and one that uses a puller's keys, uses the ring's.
use Rattle.std.proofs.Common.{◌≡◌, ℕ, ◌+◌, ◌-◌, ◌<◌, nat_lt, Bool, true, false, List, Option, Some, None, refl, sym, ◌∙◌, ap, subst, arith, inl, inr}
use Rattle.std.specs.Prelude.{◌⊎◌, ◌↔◌, if◌then◌else◌}
use Rattle.std.specs.Option.{option_map}
use Rattle.std.proofs.lemmas.Bool.Decides.{nat_tests, leb_tells}
use Rattle.aes_ctr.specs.declared.stream.Key.{Key}
use Rattle.group_keys.specs.declared.key_set.KeySet.{KeySet}
use Rattle.group_keys.specs.declared.ring.Ring.{Ring}
use Rattle.group_keys.specs.KeySets.{current, with_token}
use Rattle.group_keys.specs.Ring.{key_sets}
use Rattle.group_keys.proofs.Finding.{some_last}
use Rattle.group_keys.proofs.Moments.{found_by_token}
use Rattle.key_service.specs.Answers.{answer}
use Rattle.key_service.specs.Laws.{IsCovered, IsServedRing}
use Rattle.key_service.specs.Pulled.{from_moment}
use Rattle.key_service.proofs.Later.{uses_later}
use Rattle.key_service.proofs.Used.{puller_uses}
use Rattle.message_guard.specs.declared.keys.TokenKeys.{TokenKeys}
use Rattle.message_guard.specs.Protection.{keys_in}
use Rattle.message_guard.specs.Senders.{AreKeysOf, AreKeysOfOne, KeepsToken, SenderState, renewed, turned, turned_by}
use Rattle.key_laws.specs.Pulled.{GivesRingsKeys, IsCoveredSender, IsPublisherAt, UsesKeysAt}
use Rattle.key_laws.specs.Renewing.{IsNotAhead, TakesOn}
use Rattle.key_laws.proofs.Known.{sets_stay}

-- the set that a served ring uses at a moment
set_at : (ring : Ring) (moment : ℕ) → IsServedRing ring → (set : KeySet) × (current (key_sets ring) moment ≡ Some set)
set_at ring moment served = by_found (current (key_sets ring) moment) refl
  where
    by_found : (o : Option KeySet) → current (key_sets ring) moment ≡ o → (set : KeySet) × (current (key_sets ring) moment ≡ Some set)
    by_found None none = absurd (some_last (λ (set : KeySet). set.from) moment (key_sets ring) served.accepted.has_key served.accepted.first_at_zero none)
    by_found (Some set) is = (set, is)

-- ---- keys of a set

keys_are : (keys : TokenKeys) (set : KeySet) → AreKeysOf keys set → keys_in set ≡ keys
keys_are keys set are =
    sym (ap (λ (x : ℕ). with_all x keys.nonce keys.signing keys.encrypting) are.token
    ∙ ap (λ (x : List ℕ). with_all set.token x keys.signing keys.encrypting) are.nonce
    ∙ ap (λ (x : List ℕ). with_all set.token set.nonce x keys.encrypting) are.signing
    ∙ ap (λ (x : Key). with_all set.token set.nonce set.signing x) are.encrypting)
  where
    with_all : ℕ → List ℕ → List ℕ → Key → TokenKeys
    with_all token nonce signing encrypting = record { token = token; nonce = nonce; signing = signing; encrypting = encrypting }

are_keys : (keys : TokenKeys) (set : KeySet) → keys_in set ≡ keys → AreKeysOf keys set
are_keys keys set same =
    subst (λ (k : TokenKeys). AreKeysOf k set) same (record { token = refl; nonce = refl; signing = refl; encrypting = refl })

-- ---- a renewed sender

-- the sender with the keys of the set where its token is higher
abbrev chosen : SenderState → KeySet → Bool → SenderState
chosen s set higher = if higher then record s { keys = keys_in set; used = 0; fronted = None } else s

taken_on : (s : SenderState) (set : KeySet) (higher : Bool) → nat_lt s.keys.token set.token ≡ higher → (s.keys.token < set.token) ⊎ AreKeysOf s.keys set
    → keys_in set ≡ (chosen s set higher).keys
taken_on s set true test may = refl
taken_on s set false test (inl above) = absurd (grind (arith, nat_tests, test, above))
taken_on s set false test (inr are) = keys_are s.keys set are

takes_on : (s : SenderState) (set : KeySet) (higher : Bool) → nat_lt s.keys.token set.token ≡ higher → keys_in set ≡ (chosen s set higher).keys
    → (s.keys.token < set.token) ⊎ AreKeysOf s.keys set
takes_on s set true test same = inl (grind (arith, nat_tests, test))
takes_on s set false test same = inr (are_keys s.keys set same)

pub renewed_is : (ring : Ring) (moment : ℕ) (s : SenderState) → IsServedRing ring → TakesOn ring moment s
    → IsPublisherAt ring moment (turned (renewed s (key_sets ring)) moment)
renewed_is ring moment s served may =
    let other = renewed s (key_sets ring) in
    let at = set_at ring moment served in
    let same = taken_on other at.0 (nat_lt s.keys.token at.0.token) refl (may at.0 at.1) in
    record {
      sets = sets_stay other (current (key_sets ring) moment);
      keys = subst (λ (o : Option KeySet). option_map keys_in o ≡ Some (turned_by other o).keys) (sym at.1) (ap Some same);
    }

pub renewed_only : (ring : Ring) (moment : ℕ) (s : SenderState) → IsPublisherAt ring moment (turned (renewed s (key_sets ring)) moment)
    → TakesOn ring moment s
renewed_only ring moment s is set set_is =
    let other = renewed s (key_sets ring) in
    let both : Path (Option TokenKeys) (Some (keys_in set)) (Some (chosen other set (nat_lt s.keys.token set.token)).keys) =
    subst (λ (o : Option KeySet). option_map keys_in o ≡ Some (turned_by other o).keys) set_is is.keys in
    let same : keys_in set ≡ (chosen other set (nat_lt s.keys.token set.token)).keys = cc in
    takes_on other set (nat_lt s.keys.token set.token) refl same

pub renewed_exactly : (ring : Ring) (moment : ℕ) (s : SenderState) → IsServedRing ring
    → TakesOn ring moment s ↔ IsPublisherAt ring moment (turned (renewed s (key_sets ring)) moment)
renewed_exactly ring moment s served = (renewed_is ring moment s served, renewed_only ring moment s)

pub renewed_covered : (ring : Ring) (now count moment : ℕ) (s : SenderState) → IsServedRing ring → IsCovered (key_sets ring) now count moment
    → TakesOn ring moment s → IsCoveredSender ring now count moment (turned (renewed s (key_sets ring)) moment)
renewed_covered ring now count moment s served cover may =
    record { served = served; covered = cover; keys = (renewed_is ring moment s served may).keys }

pub kept : (ring : Ring) (moment : ℕ) (s : SenderState) → IsServedRing ring → KeepsToken s (key_sets ring) → IsNotAhead ring moment s → TakesOn ring moment s
kept ring moment s served keeps behind set set_is =
    let found = found_by_token (key_sets ring) moment set served.accepted.rises.tokens_rise set_is in
    let least = behind set set_is in
    elim (leb_tells set.token s.keys.token) [
      | inl t ↦ (
          let same : s.keys.token ≡ set.token = omega (arith, t.1, least) in
          inr (subst (AreKeysOfOne s.keys) (ap (with_token (key_sets ring)) same ∙ found) keeps)
          )
      | inr f ↦ inl (omega (arith, f.1))
    ]

pub renewed_at_once : (ring : Ring) (moment : ℕ) (s : SenderState) → UsesKeysAt ring moment s → IsPublisherAt ring moment (renewed s (key_sets ring))
renewed_at_once ring moment s uses = record { sets = refl; keys = uses }

-- ---- a sender with a puller's keys

pub pullers_sender : (ring : Ring) (now count : ℕ) (pulled : Ring) → IsServedRing ring → GivesRingsKeys ring now count pulled
pullers_sender ring now count pulled served is moment s cover uses =
    let keys = answer ring now 0 count in
    let at = set_at ring moment served in
    let span = moment - now in
    let here = puller_uses ring now count served moment at.0 cover at.1 in
    let there = uses_later keys is.clock span (from_moment at.0 here.0) here.1 in
    let pulled_is : option_map keys_in (current (key_sets pulled) (is.clock + span)) ≡ Some (keys_in at.0) =
    ap (λ (sets : List KeySet). option_map keys_in (current sets (is.clock + span))) is.sets ∙ ap (option_map keys_in) there.1 in
    ap (option_map keys_in) at.1 ∙ sym pulled_is ∙ uses
