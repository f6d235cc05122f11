-- A guard over a pulled ring knows the keys of a covered moment, and opens what was protected under them.
use Rattle.std.proofs.Common.{◌≡◌, ℕ, ◌+◌, ◌≤◌, nat_lt, Bool, true, false, List, [], ◌∷◌, ◌++◌, length, map, take, Option, Some, None, Result, Ok, refl, sym, ◌∙◌, ap, subst, arith}
use Rattle.std.specs.Prelude.{if◌then◌else◌}
use Rattle.std.specs.Option.{option_map}
use Rattle.std.proofs.lemmas.List.{length-take}
use Rattle.group_keys.specs.declared.key_set.KeySet.{KeySet}
use Rattle.group_keys.specs.declared.ring.Ring.{Ring}
use Rattle.group_keys.specs.Faults.{IsAccepted}
use Rattle.group_keys.specs.KeySets.{current}
use Rattle.group_keys.specs.Ring.{is_long, key_sets}
use Rattle.key_service.specs.declared.service.Keys.{Keys}
use Rattle.key_service.specs.declared.wire_fault.WireFault.{WireFault}
use Rattle.key_service.specs.Laws.{HasKeysOf, IsServedRing}
use Rattle.key_service.specs.Answers.{answer}
use Rattle.key_service.specs.Pulled.{as_read, from_moment, later, moment_of, pulled_sets, timed_from}
use Rattle.key_service.specs.Reading.{reply_in}
use Rattle.key_service.specs.Spelling.{reply_bytes}
use Rattle.key_service.proofs.Served.{covered_moments, pulled_read_back}
use Rattle.key_laws.specs.Pulled.{pulled_keys, made_pass, moment_after, AreInOrder, AreOfRing, GivesPullersGuards, HasSendersKeys, IsCoveredSender, IsPublisherAt, IsPulledRing, IsPullersGuard, IsReadersGuard, OpensMade, PassesMade, RestoresMade, StaysPublisher}
use Rattle.message_guard.specs.declared.keys.TokenKeys.{TokenKeys}
use Rattle.message_guard.specs.declared.guard.Guard.{Guard}
use Rattle.message_guard.specs.declared.mode.Mode.{Mode}
use Rattle.message_guard.specs.Acceptance.{is_acceptable}
use Rattle.message_guard.specs.Guards.{Setup, opened_by, setup_of}
use Rattle.message_guard.specs.Opening.{opened, verdict}
use Rattle.message_guard.specs.Protection.{keys_in, keys_with, payload_in, signature_of}
use Rattle.message_guard.specs.Senders.{SenderState, SenderStep, TurnTo, Renew, Front, Protect, advanced, after, front_value, made_of, renewed, turned, turned_by}
use Rattle.message_guard.proofs.Restoring.{sent_is_passed, payload_restored}
use Rattle.message_guard.proofs.Rings.{keys_with-map, set_of, keys_of_moment}

-- pulled sets that have a set's keys give them to a guard
known_of : (pulled : List KeySet) (set : KeySet) → HasKeysOf pulled set → keys_with (map keys_in pulled) set.token ≡ Some (keys_in set)
known_of pulled set has = keys_with-map pulled set.token ∙ ap (option_map keys_in) has.1

pub known : (ring : Ring) (now count moment : ℕ) (s : SenderState) → IsCoveredSender ring now count moment s → HasSendersKeys ring now count s
known ring now count moment s is =
    let at = set_of (current (key_sets ring) moment) s.keys is.keys in
    subst (λ (keys : TokenKeys). keys_with (pulled_keys ring now count) keys.token ≡ Some keys) (sym at.1.1)
    (known_of (pulled_sets (answer ring now 0 count)) at.0 (covered_moments ring now count is.served moment at.0 is.covered at.1.0))

front_length : (datagram : List ℕ) (payload : ℕ) → payload + 32 ≤ length datagram → length (take payload datagram) ≡ payload
front_length datagram payload room = omega (arith, length-take payload datagram, room)

pub passed : (ring : Ring) (now count moment : ℕ) (s : SenderState) (mode : Mode) → IsCoveredSender ring now count moment s → PassesMade ring now count mode s
passed ring now count moment s mode is datagram payload accepted made acceptable =
    subst (λ (n : ℕ). verdict mode (pulled_keys ring now count) accepted (Some (front_value mode s)) (made_of mode s datagram payload) n ≡ Ok (made_pass s datagram payload))
    (front_length datagram payload made.front.room)
    (sent_is_passed mode s (pulled_keys ring now count) accepted (take payload datagram) (payload_in datagram payload) (record {
      secured = made.secured;
      random = made.sender.random;
      number = made.sender.used;
      known = known ring now count moment s is;
      acceptable = acceptable;
    }))

pub restored : (ring : Ring) (now count moment : ℕ) (s : SenderState) (mode : Mode) → IsCoveredSender ring now count moment s → RestoresMade ring now count mode s
restored ring now count moment s mode is datagram payload made =
    subst (λ (n : ℕ). opened mode (pulled_keys ring now count) s.first_block (made_pass s datagram payload) n (made_of mode s datagram payload) ≡ take payload datagram ++ payload_in datagram payload ++ signature_of (made_of mode s datagram payload))
    (front_length datagram payload made.front.room)
    (payload_restored mode s (pulled_keys ring now count) (take payload datagram) (payload_in datagram payload) (known ring now count moment s is))

-- a sender that turns keeps its sets
pub sets_stay : (s : SenderState) (o : Option KeySet) → (turned_by s o).sets ≡ s.sets
sets_stay s None = refl
sets_stay s (Some set) = by_token (nat_lt s.keys.token set.token)
  where
    by_token : (higher : Bool) → (if higher then record s { keys = keys_in set; used = 0; fronted = None } else s).sets ≡ s.sets
    by_token true = refl
    by_token false = refl

turns_on : (ring : Ring) (s : SenderState) (earlier now : ℕ) → IsServedRing ring → earlier ≤ now → IsPublisherAt ring earlier s → IsPublisherAt ring now (turned s now)
turns_on ring s earlier now served order is = record {
  sets = sets_stay s (current s.sets now) ∙ is.sets;
  keys = subst (λ (sets : List KeySet). option_map keys_in (current sets now) ≡ Some (turned s now).keys) is.sets
      (keys_of_moment (is_long ring) s earlier now
      (subst (IsAccepted (is_long ring)) (sym is.sets) served.accepted) order
      (subst (λ (sets : List KeySet). option_map keys_in (current sets earlier) ≡ Some s.keys) (sym is.sets) is.keys));
}

goes_on : (ring : Ring) (moment : ℕ) (s : SenderState) (steps : List SenderStep) → IsServedRing ring → AreInOrder moment steps → AreOfRing ring steps → IsPublisherAt ring moment s
    → IsPublisherAt ring (moment_after moment steps) (after s steps)
goes_on ring moment s [] served order of_ring is = is
goes_on ring moment s (TurnTo now ∷ steps) served order of_ring is = goes_on ring now (turned s now) steps served order.1 of_ring (turns_on ring s moment now served order.0 is)
goes_on ring moment s (Renew sets ∷ steps) served order of_ring is = goes_on ring moment (renewed s sets) steps served order of_ring.1 (record { sets = of_ring.0; keys = is.keys })
goes_on ring moment s (Front mode ∷ steps) served order of_ring is = goes_on ring moment (advanced mode s) steps served order of_ring (record { sets = is.sets; keys = is.keys })
goes_on ring moment s (Protect mode datagram payload ∷ steps) served order of_ring is =
    goes_on ring moment (record s { fronted = None }) steps served order of_ring (record { sets = is.sets; keys = is.keys })

pub publisher_goes_on : (ring : Ring) (s : SenderState) → StaysPublisher ring s
publisher_goes_on ring s moment steps = goes_on ring moment s steps

-- ---- a puller's guard

pullers_setup : (ring : Ring) (now count first_block : ℕ) (mode : Mode) (guard : Guard) → IsPullersGuard ring now count mode first_block guard
    → setup_of guard ≡ record { keys = pulled_keys ring now count; mode = mode; first_block = first_block }
pullers_setup ring now count first_block mode guard is =
    let setup = setup_of guard in
    ap (λ (keys : List TokenKeys). record { keys = keys; mode = setup.mode; first_block = setup.first_block }) is.keys
    ∙ ap (λ (m : Mode). record { keys = pulled_keys ring now count; mode = m; first_block = setup.first_block }) is.mode_is
    ∙ ap (λ (n : ℕ). record { keys = pulled_keys ring now count; mode = mode; first_block = n }) is.first_block_is

pub pullers_guard_opens : (ring : Ring) (now count moment : ℕ) (s : SenderState) (mode : Mode) (guard : Guard) → IsCoveredSender ring now count moment s → OpensMade ring now count mode s guard
pullers_guard_opens ring now count moment s mode guard is datagram payload accepted said of_ring of_accepted made acceptable says =
    let same = pullers_setup ring now count s.first_block mode guard of_ring in
    let sent = made_of mode s datagram payload in
    let pass = made_pass s datagram payload in (
      says accepted of_accepted ∙ ap (λ (setup : Setup). verdict setup.mode setup.keys accepted (Some (front_value mode s)) sent payload) same
          ∙ passed ring now count moment s mode is datagram payload accepted made
          (subst (λ (setup : Setup). is_acceptable setup.keys accepted s.keys.token s.used ≡ true) same acceptable),
      ap (λ (setup : Setup). opened_by setup pass payload sent) same ∙ restored ring now count moment s mode is datagram payload made,
    )

-- ---- which guards are a puller's

-- the keys of sets are the same whatever a puller's moments
same_keys : (next lifetime index : ℕ) (sets : List KeySet) → map keys_in (timed_from next lifetime index sets) ≡ map keys_in sets
same_keys next lifetime index [] = refl
same_keys next lifetime index (set ∷ sets) = ap (λ (keys : List TokenKeys). keys_in set ∷ keys) (same_keys next lifetime (index + 1) sets)

pub keys_of_pulled : (keys : Keys) (pulled : Ring) → IsPulledRing keys pulled → map keys_in (key_sets pulled) ≡ map keys_in (pulled_sets keys)
keys_of_pulled keys pulled is =
    ap (map keys_in) is.sets ∙ same_keys (is.clock + keys.next) keys.lifetime 0 keys.keys.items ∙ sym (same_keys keys.next keys.lifetime 0 keys.keys.items)

pub pulled_at_zero : (keys : Keys) (pulled : Ring) → key_sets pulled ≡ pulled_sets keys → IsPulledRing keys pulled
pulled_at_zero keys pulled is =
    let none : keys.next ≡ 0 + keys.next = omega arith in
    record { clock = 0; sets = is ∙ ap (λ (next : ℕ). timed_from next keys.lifetime 0 keys.keys.items) none }

pub pulled_at_clock : (keys : Keys) (clock : ℕ) (pulled : Ring) → key_sets pulled ≡ pulled_sets (later clock keys) → IsPulledRing keys pulled
pulled_at_clock keys clock pulled is = record { clock = clock; sets = is }

pub gives_guards : (ring : Ring) (now count : ℕ) (pulled : Ring) → IsPulledRing (answer ring now 0 count) pulled → GivesPullersGuards ring now count pulled
gives_guards ring now count pulled is =
    let same = keys_of_pulled (answer ring now 0 count) pulled is in
    record {
      over = λ mode first_block guard over. record {
        keys = over.keys ∙ same;
        mode_is = over.mode_is;
        first_block_is = over.first_block_is;
      };
      renewed = λ old new has. record {
        keys = ap (λ (setup : Setup). setup.keys) has ∙ same;
        mode_is = ap (λ (setup : Setup). setup.mode) has;
        first_block_is = ap (λ (setup : Setup). setup.first_block) has;
      };
    }

-- sets that a puller timed are timed anew as they were
timed-anew : (next lifetime other index : ℕ) (sets : List KeySet) → timed_from next lifetime index (timed_from other lifetime index sets) ≡ timed_from next lifetime index sets
timed-anew next lifetime other index [] = refl
timed-anew next lifetime other index (set ∷ sets) =
    ap (λ (rest : List KeySet). from_moment set (moment_of next lifetime index) ∷ rest) (timed-anew next lifetime other (index + 1) sets)

-- a ring that is made of what was read of the keys is one of the keys, by the same clock
read_ring : (keys : Keys) (pulled : Ring) → IsPulledRing (as_read keys) pulled → IsPulledRing keys pulled
read_ring keys pulled is = record {
  clock = is.clock;
  sets = is.sets ∙ timed-anew (is.clock + keys.next) keys.lifetime keys.next 0 keys.keys.items;
}

pub readers_ring : (ring : Ring) (now count : ℕ) (back : Keys) (pulled : Ring) → IsServedRing ring → reply_in (reply_bytes (answer ring now 0 count)) ≡ Ok back
    → IsPulledRing back pulled → IsPulledRing (answer ring now 0 count) pulled
readers_ring ring now count back pulled served read is =
    let keys = answer ring now 0 count in
    let of_answer = pulled_read_back ring now count served in
    let both : Path (Result Keys WireFault) (Ok back) (Ok (as_read keys)) = sym read ∙ of_answer.read in
    let same : back ≡ as_read keys = cc in
    read_ring keys pulled (subst (λ (k : Keys). IsPulledRing k pulled) same is)

pub readers_guard : (ring : Ring) (now count first_block : ℕ) (mode : Mode) (guard : Guard) → IsServedRing ring → IsReadersGuard ring now count mode first_block guard
    → IsPullersGuard ring now count mode first_block guard
readers_guard ring now count first_block mode guard served is =
    (gives_guards ring now count is.pulled (readers_ring ring now count is.back is.pulled served is.read is.made)).over mode first_block guard is.over
