-- A small ring meets the premises of the laws, and so do senders that other rings renew.
use Rattle.std.proofs.Common.{◌≡◌, refl, sym, ap, ◌∙◌, subst, arith, lit<, lit≤, inl, ℕ, zero, suc, ◌<◌, ◌≤◌, ◌^◌, Bool, true, false, List, [], ◌∷◌, map, Option, Some, All}
use Rattle.std.specs.Prelude.{replicate, slice_index}
use Rattle.std.specs.Option.{option_map}
use Rattle.std.specs.List.Sorted.{IsStrictlyIncreasing}
use Rattle.std.proofs.lemmas.List.Elements.{All-cons, All-nil, All-replicate}
use Rattle.uadp_header.specs.Formats.{◌>>=◌, read}
use Rattle.uadp_header.specs.Layout.{byte, number, block, when, byte_when, text, publisher_id, group_numbers, group_when, payload_header, ids_when, extras, security_header, parts, header, header_at}
use Rattle.uadp_header.specs.Spelling.{header_bytes, flags_bytes, group_bytes, security_bytes}
use Rattle.group_keys.specs.declared.key_set.KeySet.{KeySet}
use Rattle.group_keys.specs.declared.ring.Ring.{Ring}
use Rattle.group_keys.specs.Faults.{IsAccepted}
use Rattle.group_keys.specs.InMemory.{AreKeySets, IsKeySet}
use Rattle.group_keys.specs.KeySets.{LengthsFit, current, tokens, with_token}
use Rattle.group_keys.specs.Ring.{key_sets}
use Rattle.key_service.specs.declared.service.Keys.{Keys}
use Rattle.key_service.specs.Answers.{answer, answered, next_of}
use Rattle.key_service.specs.Laws.{IsCovered, IsServedRing}
use Rattle.key_service.specs.Pulled.{IsPullableAt, as_read, later, pulled_sets, timed_from}
use Rattle.key_service.proofs.Served.{pulled_read_back}
use Rattle.key_service.specs.Services.{IsGap, IsServed, IsUneven, lifetime_of}
use Rattle.message_guard.specs.declared.keys.TokenKeys.{TokenKeys}
use Rattle.message_guard.specs.declared.mode.Mode.TheVariants.{Encrypt}
use Rattle.message_guard.specs.Acceptance.{AreAcceptableCalls, is_acceptable}
use Rattle.message_guard.specs.Guards.{IsGuardOf, SaysVerdict}
use Rattle.message_guard.specs.Protection.{keys_in}
use Rattle.message_guard.specs.Senders.{AreKeysOfOne, IsSender, KeepsToken, SenderState, front_value, made_of}
use Rattle.replay_window.specs.Marks.{is_marked}
use Rattle.key_laws.specs.Lower.{AreNoHigher, RenewNoHigher}
use Rattle.key_laws.specs.Pulled.{AreInOrder, AreOfRing, IsCoveredSender, IsGuardOver, IsMade, IsPublisherAt, IsPulledRing, IsPullersGuard, IsReadersGuard, UsesKeysAt, pulled_keys}
use Rattle.key_laws.specs.Renewing.{IsNotAhead, TakesOn}
use Rattle.key_laws.specs.Witness.{IsSmallRing, late_sender, late_steps, other_sender, other_sets, set_of, small_calls, small_datagram, small_guard, small_header, small_payload, small_sender, small_steps, small_verdict, two_sets}
use Rattle.key_laws.proofs.Known.{keys_of_pulled, readers_ring}

two-rise : (a b : ℕ) → a < b → IsStrictlyIncreasing (a ∷ b ∷ [])
two-rise a b less zero within = less
two-rise a b less (suc k) within = absurd (omega (arith, within))

-- two sets, the second from some later moment
abbrev pair : ℕ → ℕ → ℕ → List KeySet
pair from one other = set_of 1 0 one ∷ set_of 2 from other ∷ []

lengths : (from one other : ℕ) → LengthsFit false (pair from one other)
lengths from one other zero within = refl
lengths from one other (suc zero) within = refl
lengths from one other (suc (suc k)) within = absurd (omega (arith, within))

accepted-pair : (from one other : ℕ) → 0 < from → IsAccepted false (pair from one other)
accepted-pair from one other later = record {
  has_key = lit< tt;
  rises = record { tokens_rise = two-rise 1 2 (lit< tt); moments_rise = two-rise 0 from later };
  first_at_zero = refl;
  lengths_fit = lengths from one other;
}

pub accepted-two : IsAccepted false two_sets
unfolding two_sets
accepted-two = accepted-pair 1000 7 8 (lit< tt)

no-gap : (index : ℕ) → IsGap two_sets index → ⊥
unfolding two_sets
no-gap zero gap = let before = gap.has_one_before in omega (arith, before)
no-gap (suc zero) gap = gap.apart refl
no-gap (suc (suc k)) gap = let within = gap.in_range in omega (arith, within)

none-uneven : (index : ℕ) → IsUneven two_sets index → ⊥
unfolding two_sets
none-uneven zero gap = let before = gap.has_one_before in omega (arith, before)
none-uneven (suc zero) gap = gap.apart refl
none-uneven (suc (suc k)) gap = let within = gap.in_range in omega (arith, within)

two-served : IsServed two_sets
unfolding two_sets
two-served = record { two = lit< tt; consecutive = no-gap; even = none-uneven }

bytes-are : (n byte : ℕ) → byte < 2 ^ 8 → All (λ b. b < 2 ^ 8) (replicate n byte)
bytes-are n byte less = All-replicate (λ b. b < 2 ^ 8) n byte less

set-is : (token from byte : ℕ) → token < 2 ^ 32 → from < 2 ^ 64 → byte < 2 ^ 8 → IsKeySet (set_of token from byte)
set-is token from byte fits time less = record {
  token = fits;
  moment = time;
  signing = refl;
  nonce = refl;
  signing_bytes = bytes-are 32 byte less;
  encrypting_bytes = bytes-are 16 byte less;
  nonce_bytes = bytes-are 4 byte less;
}

in-memory : AreKeySets two_sets
unfolding two_sets
in-memory = record {
  few = lit≤ tt;
  each = All-cons IsKeySet (set_of 1 0 7) (set_of 2 1000 8 ∷ []) (set-is 1 0 7 (lit< tt) (lit< tt) (lit< tt))
      (All-cons IsKeySet (set_of 2 1000 8) [] (set-is 2 1000 8 (lit< tt) (lit< tt) (lit< tt)) (All-nil IsKeySet));
}

-- ---- a ring of them

pub small-served : (ring : Ring) → IsSmallRing ring → IsServedRing ring
small-served ring is = record {
  accepted = subst (λ (long : Bool). IsAccepted long (key_sets ring)) (sym is.short) (subst (IsAccepted false) (sym is.sets) accepted-two);
  served = subst IsServed (sym is.sets) two-served;
  in_memory = subst AreKeySets (sym is.sets) in-memory;
}

two-covered : IsCovered two_sets 0 2 500
unfolding two_sets
two-covered = record { begun = lit≤ tt; not_over = lit< tt }

two-keys : option_map keys_in (current two_sets 500) ≡ Some small_sender.keys
unfolding two_sets small_sender
two-keys = refl

-- what the two sets use a ring of them uses
uses-of-two : (ring : Ring) (moment : ℕ) (s : SenderState) → IsSmallRing ring → option_map keys_in (current two_sets moment) ≡ Some s.keys → UsesKeysAt ring moment s
uses-of-two ring moment s is uses = ap (λ (sets : List KeySet). option_map keys_in (current sets moment)) is.sets ∙ uses

covered-500 : (ring : Ring) (s : SenderState) → IsSmallRing ring → UsesKeysAt ring 500 s → IsCoveredSender ring 0 2 500 s
covered-500 ring s is uses = record {
  served = small-served ring is;
  covered = subst (λ (sets : List KeySet). IsCovered sets 0 2 500) (sym is.sets) two-covered;
  keys = uses;
}

pub small-covered : (ring : Ring) → IsSmallRing ring → IsCoveredSender ring 0 2 500 small_sender
small-covered ring is = covered-500 ring small_sender is (uses-of-two ring 500 small_sender is two-keys)

sender-sets : small_sender.sets ≡ two_sets
unfolding small_sender
sender-sets = refl

pub small-publisher : (ring : Ring) → IsSmallRing ring → IsPublisherAt ring 500 small_sender
small-publisher ring is = record { sets = sender-sets ∙ sym is.sets; keys = uses-of-two ring 500 small_sender is two-keys }

-- ---- what it makes

pub small-made : IsMade Encrypt small_sender small_datagram small_payload
unfolding small_sender small_header small_datagram header_bytes flags_bytes group_bytes security_bytes byte number block when byte_when text publisher_id group_numbers group_when payload_header ids_when extras security_header parts header header_at ◌>>=◌ read
small-made = record {
  secured = refl;
  sender = record { random = refl; used = lit< tt };
  front = record {
    fronted = refl;
    header = record { header = small_header; begins = record { within = lit≤ tt; read = refl }; has = refl };
    room = lit≤ tt;
  };
}

-- the keys that are pulled of these sets
abbrev keys_pulled : List KeySet → List TokenKeys
keys_pulled sets = map keys_in (timed_from (next_of sets 0) (lifetime_of sets) 0 (answered sets 0 0 2))

two-acceptable : is_acceptable (keys_pulled two_sets) [] small_sender.keys.token small_sender.used ≡ true
unfolding two_sets small_sender
two-acceptable = refl

pub small-acceptable : (ring : Ring) → IsSmallRing ring → is_acceptable (pulled_keys ring 0 2) [] small_sender.keys.token small_sender.used ≡ true
small-acceptable ring is =
    ap (λ (sets : List KeySet). is_acceptable (keys_pulled sets) [] small_sender.keys.token small_sender.used) is.sets ∙ two-acceptable

-- ---- what befalls it

pub small-order : AreInOrder 500 small_steps
small-order = (lit≤ tt, tt)

pub small-of-ring : (ring : Ring) → IsSmallRing ring → AreOfRing ring small_steps
small-of-ring ring is = (sym is.sets, tt)

-- ---- what befalls a guard

pub calls-acceptable : AreAcceptableCalls (map keys_in two_sets) small_calls
unfolding two_sets small_calls
calls-acceptable = (refl, (refl, tt))

-- ---- a puller

-- what is answered of the sets
abbrev answer-of : Bool → List KeySet → Keys
answer-of long sets = record {
  long = long;
  first = slice_index (tokens (answered sets 0 0 2)) 0;
  keys = record { items = answered sets 0 0 2 };
  next = next_of sets 0;
  lifetime = lifetime_of sets;
}

two-pullable : IsPullableAt 700 (answer-of false two_sets)
unfolding two_sets
two-pullable = record {
  next = lit< tt;
  pullable = record { fit = refl; accepted = accepted-pair 1700 7 8 (lit< tt) };
}

pub small-pullable : (ring : Ring) → IsSmallRing ring → IsPullableAt 700 (answer ring 0 0 2)
small-pullable ring is =
    subst (λ (long : Bool). IsPullableAt 700 (answer-of long (key_sets ring))) (sym is.short)
    (subst (λ (sets : List KeySet). IsPullableAt 700 (answer-of false sets)) (sym is.sets) two-pullable)

two-pulled-keys : keys_pulled two_sets ≡ map keys_in two_sets
unfolding two_sets
two-pulled-keys = refl

pub small-guard : (ring : Ring) → IsSmallRing ring → IsPullersGuard ring 0 2 Encrypt 0 small_guard
unfolding small_guard
small-guard ring is = record {
  keys = sym two-pulled-keys ∙ ap keys_pulled (sym is.sets);
  mode_is = refl;
  first_block_is = refl;
}

none-marked : (number : ℕ) → number ≡ 0 → is_marked (replicate 16 0) number ≡ false
none-marked number is = ap (is_marked (replicate 16 0)) is

pub guard-of-none : IsGuardOf [] small_guard
unfolding small_guard
guard-of-none = record {
  high_is = refl;
  window_is = record { high_is = refl; marks = λ number least most. none-marked number (omega (arith, least)) };
}

pub sender-block : small_sender.first_block ≡ 0
unfolding small_sender
sender-block = refl

pub small-says : SaysVerdict small_guard (Some (front_value Encrypt small_sender)) (made_of Encrypt small_sender small_datagram small_payload) small_payload small_verdict
unfolding small_guard
small-says [] is = refl
small-says (pair ∷ before) is = let some = is.high_is in absurd (cc)

pub small-over : (ring pulled : Ring) → IsSmallRing ring → IsPulledRing (answer ring 0 0 2) pulled → IsGuardOver pulled Encrypt 0 small_guard
unfolding small_guard
small-over ring pulled is made = record {
  keys = sym two-pulled-keys ∙ ap keys_pulled (sym is.sets) ∙ sym (keys_of_pulled (answer ring 0 0 2) pulled made);
  mode_is = refl;
  first_block_is = refl;
}

two-read : IsPullableAt 700 (as_read (answer-of false two_sets))
unfolding two_sets
two-read = record {
  next = lit< tt;
  pullable = record { fit = refl; accepted = accepted-pair 1700 7 8 (lit< tt) };
}

pub small-read : (ring : Ring) → IsSmallRing ring → IsPullableAt 700 (as_read (answer ring 0 0 2))
small-read ring is =
    subst (λ (long : Bool). IsPullableAt 700 (as_read (answer-of long (key_sets ring)))) (sym is.short)
    (subst (λ (sets : List KeySet). IsPullableAt 700 (as_read (answer-of false sets))) (sym is.sets) two-read)

pub small-readers : (ring pulled : Ring) → IsSmallRing ring → IsPulledRing (as_read (answer ring 0 0 2)) pulled → IsReadersGuard ring 0 2 Encrypt 0 small_guard
small-readers ring pulled is made =
    let back = as_read (answer ring 0 0 2) in
    let served = small-served ring is in
    let read = (pulled_read_back ring 0 2 served).read in
    record {
      back = back;
      read = read;
      pulled = pulled;
      made = made;
      over = small-over ring pulled is (readers_ring ring 0 2 back pulled served read made);
    }

two-pulled-uses : option_map keys_in (current (pulled_sets (later 700 (answer-of false two_sets))) 1200) ≡ Some small_sender.keys
unfolding two_sets small_sender
two-pulled-uses = refl

pub pulled-uses : (ring pulled : Ring) → IsSmallRing ring → key_sets pulled ≡ pulled_sets (later 700 (answer ring 0 0 2)) → UsesKeysAt pulled 1200 small_sender
pulled-uses ring pulled is sets =
    ap (λ (sets : List KeySet). option_map keys_in (current sets 1200)) sets
    ∙ ap (λ (sets : List KeySet). option_map keys_in (current (pulled_sets (later 700 (answer-of false sets))) 1200)) is.sets ∙ two-pulled-uses

-- ---- other rings

pub accepted-other : IsAccepted false other_sets
unfolding other_sets
accepted-other = accepted-pair 500 7 6 (lit< tt)

pub other-covered : (ring : Ring) → IsSmallRing ring → IsCoveredSender ring 0 2 500 other_sender
other-covered ring is = covered-500 ring other_sender is (uses-of-two ring 500 other_sender is two-keys)

two-covered-then : IsCovered two_sets 0 2 1500
unfolding two_sets
two-covered-then = record { begun = lit≤ tt; not_over = lit< tt }

pub covered-then : (ring : Ring) → IsSmallRing ring → IsCovered (key_sets ring) 0 2 1500
covered-then ring is = subst (λ (sets : List KeySet). IsCovered sets 0 2 1500) (sym is.sets) two-covered-then

two-late : current two_sets 1500 ≡ Some (set_of 2 1000 8)
unfolding two_sets
two-late = refl

late-keys : late_sender.keys ≡ keys_in (set_of 2 1000 8)
unfolding late_sender
late-keys = refl

late-sets : late_sender.sets ≡ two_sets
unfolding late_sender
late-sets = refl

small-token : small_sender.keys.token ≡ 1
unfolding small_sender
small-token = refl

late-token : late_sender.keys.token ≡ 2
unfolding late_sender
late-token = refl

pub late-publisher : (ring : Ring) → IsSmallRing ring → IsPublisherAt ring 1500 late_sender
late-publisher ring is = record {
  sets = late-sets ∙ sym is.sets;
  keys = uses-of-two ring 1500 late_sender is (ap (option_map keys_in) two-late ∙ ap Some (sym late-keys));
}

-- the set that the ring uses at the later moment
late-set : (ring : Ring) (set : KeySet) → IsSmallRing ring → current (key_sets ring) 1500 ≡ Some set → set_of 2 1000 8 ≡ set
late-set ring set is set_is =
    let both : Path (Option KeySet) (Some (set_of 2 1000 8)) (Some set) = sym two-late ∙ ap (λ (sets : List KeySet). current sets 1500) (sym is.sets) ∙ set_is in
    cc

pub other-taken : (ring : Ring) → IsSmallRing ring → TakesOn ring 1500 other_sender
other-taken ring is set set_is =
    let token : 2 ≡ set.token = ap (λ (it : KeySet). it.token) (late-set ring set is set_is) in
    inl (omega (arith, token, small-token))

two-has : AreKeysOfOne late_sender.keys (with_token two_sets late_sender.keys.token)
unfolding two_sets late_sender
two-has = record { token = refl; nonce = refl; signing = refl; encrypting = refl }

pub late-kept : (ring : Ring) → IsSmallRing ring → KeepsToken late_sender (key_sets ring)
late-kept ring is = subst (KeepsToken late_sender) (sym is.sets) two-has

pub late-not-ahead : (ring : Ring) → IsSmallRing ring → IsNotAhead ring 1500 late_sender
late-not-ahead ring is set set_is =
    let token : 2 ≡ set.token = ap (λ (it : KeySet). it.token) (late-set ring set is set_is) in
    omega (arith, token, late-token)

pub late-is-sender : IsSender late_sender
unfolding late_sender
late-is-sender = record { random = refl; used = lit< tt }

pub other-no-higher : AreNoHigher late_sender.keys.token other_sets
unfolding other_sets late_sender
other-no-higher =
    All-cons (λ (set : KeySet). set.token ≤ 2) (set_of 1 0 7) (set_of 2 500 6 ∷ []) (lit≤ tt)
    (All-cons (λ (set : KeySet). set.token ≤ 2) (set_of 2 500 6) [] (lit≤ tt) (All-nil (λ (set : KeySet). set.token ≤ 2)))

pub late-steps-no-higher : RenewNoHigher late_sender.keys.token late_steps
unfolding late_sender late_steps
late-steps-no-higher = (All-cons (λ (set : KeySet). set.token ≤ 2) (set_of 2 0 5) [] (lit≤ tt) (All-nil (λ (set : KeySet). set.token ≤ 2)), tt)
