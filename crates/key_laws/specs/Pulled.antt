-- What a guard over a pulled ring has of what the publisher sends.
use Rattle.std.specs.Prelude.{◌≡◌, ℕ, ◌+◌, ◌-◌, ◌≤◌, ⊤, List, [], ◌∷◌, ◌++◌, map, take, true, Some, Result, Ok, option_map}
use Rattle.group_keys.specs.declared.ring.Ring.{Ring}
use Rattle.group_keys.specs.KeySets.{current}
use Rattle.group_keys.specs.Ring.{key_sets}
use Rattle.key_service.specs.Answers.{answer}
use Rattle.key_service.specs.Laws.{IsCovered, IsServedRing}
use Rattle.key_service.specs.Pulled.{later, pulled_sets}
use Rattle.key_service.specs.Reading.{reply_in}
use Rattle.key_service.specs.Spelling.{reply_bytes}
use Rattle.key_service.specs.declared.service.Keys.{Keys}
use Rattle.message_guard.specs.declared.guard.Guard.{Guard}
use Rattle.message_guard.specs.declared.keys.TokenKeys.{TokenKeys}
use Rattle.message_guard.specs.declared.mode.Mode.{Mode}
use Rattle.message_guard.specs.declared.open_fault.OpenFault.{OpenFault}
use Rattle.message_guard.specs.declared.pass.Pass1.{Pass1}
use Rattle.message_guard.specs.Acceptance.{Accepted, is_acceptable}
use Rattle.message_guard.specs.Guards.{IsGuardOf, SaysVerdict, opened_by, setup_of, setup_renewed}
use Rattle.message_guard.specs.Modes.{is_secured}
use Rattle.message_guard.specs.Opened.{sent_pass}
use Rattle.message_guard.specs.Opening.{opened, verdict}
use Rattle.message_guard.specs.Protection.{keys_in, keys_with, payload_in, signature_of}
use Rattle.message_guard.specs.Senders.{IsSender, MayProtect, SenderState, SenderStep, TurnTo, Renew, Front, Protect, after, front_value, made_of}

-- the keys of the answer to start 0, as a guard has them that is made with a ring of it, or renewed by one
abbrev pub pulled_keys : Ring → ℕ → ℕ → List TokenKeys
pulled_keys ring now count = map keys_in (pulled_sets (answer ring now 0 count))

-- the sender uses the ring's keys at the moment: those of the set that the ring uses then, whatever ring it has itself
abbrev pub UsesKeysAt : Ring → ℕ → SenderState → Type 0
UsesKeysAt ring moment s = option_map keys_in (current (key_sets ring) moment) ≡ Some s.keys

-- The publisher's sender at a moment: it has the sets of the ring, and uses the ring's keys. A new sender is one of moment 0, and
-- one that is resumed is one of the moment at which it is.
pub record IsPublisherAt (ring : Ring) (moment : ℕ) (s : SenderState) : Type 0 where
  pub sets : s.sets ≡ key_sets ring
  pub keys : UsesKeysAt ring moment s

-- a sender that uses the ring's keys at a moment which is covered by the answer that the ring's service gave at `now`
pub record IsCoveredSender (ring : Ring) (now count moment : ℕ) (s : SenderState) : Type 0 where
  pub served : IsServedRing ring
  pub covered : IsCovered (key_sets ring) now count moment
  pub keys : UsesKeysAt ring moment s

-- the last moment that a sender turned to, in the steps of those who share it
abbrev pub moment_after : ℕ → List SenderStep → ℕ
moment_after moment [] = moment
moment_after moment (TurnTo now ∷ steps) = moment_after now steps
moment_after moment (Renew sets ∷ steps) = moment_after moment steps
moment_after moment (Front mode ∷ steps) = moment_after moment steps
moment_after moment (Protect mode datagram payload ∷ steps) = moment_after moment steps

-- the moments that it turns to don't fall
abbrev pub AreInOrder : ℕ → List SenderStep → Type 0
AreInOrder moment [] = ⊤
AreInOrder moment (TurnTo now ∷ steps) = (moment ≤ now) × AreInOrder now steps
AreInOrder moment (Renew sets ∷ steps) = AreInOrder moment steps
AreInOrder moment (Front mode ∷ steps) = AreInOrder moment steps
AreInOrder moment (Protect mode datagram payload ∷ steps) = AreInOrder moment steps

-- where it is renewed, it is by the sets of this ring
abbrev pub AreOfRing : Ring → List SenderStep → Type 0
AreOfRing ring [] = ⊤
AreOfRing ring (TurnTo now ∷ steps) = AreOfRing ring steps
AreOfRing ring (Renew sets ∷ steps) = (sets ≡ key_sets ring) × AreOfRing ring steps
AreOfRing ring (Front mode ∷ steps) = AreOfRing ring steps
AreOfRing ring (Protect mode datagram payload ∷ steps) = AreOfRing ring steps

-- the publisher's sender stays the publisher's, at the last moment that it turned to, whatever is sent with it in between
abbrev pub StaysPublisher : Ring → SenderState → Type 0
StaysPublisher ring s = (moment : ℕ) (steps : List SenderStep) → IsServedRing ring → AreInOrder moment steps
    → AreOfRing ring steps → IsPublisherAt ring moment s → IsPublisherAt ring (moment_after moment steps) (after s steps)

-- the guard has the sender's keys, under their token
abbrev pub HasSendersKeys : Ring → ℕ → ℕ → SenderState → Type 0
HasSendersKeys ring now count s = keys_with (pulled_keys ring now count) s.keys.token ≡ Some s.keys

-- a datagram that `protect` made with the sender: its last front was of the mode, and the datagram carries it
pub record IsMade (mode : Mode) (s : SenderState) (datagram : List ℕ) (payload : ℕ) : Type 0 where
  pub secured : is_secured mode ≡ true
  pub sender : IsSender s
  pub front : MayProtect mode s datagram payload

-- what a guard finds of it
abbrev pub made_pass : SenderState → List ℕ → ℕ → Pass1
made_pass s datagram payload = sent_pass s (take payload datagram) (payload_in datagram payload)

-- the guard passes it wherever the number is acceptable
abbrev pub PassesMade : Ring → ℕ → ℕ → Mode → SenderState → Type 0
PassesMade ring now count mode s = (datagram : List ℕ) (payload : ℕ) (accepted : Accepted)
    → IsMade mode s datagram payload
    → is_acceptable (pulled_keys ring now count) accepted s.keys.token s.used ≡ true
    → verdict mode (pulled_keys ring now count) accepted (Some (front_value mode s))
    (made_of mode s datagram payload) payload
    ≡ Ok (made_pass s datagram payload)

-- a guard of the sender's first block restores header and payload, and leaves the signature
abbrev pub RestoresMade : Ring → ℕ → ℕ → Mode → SenderState → Type 0
RestoresMade ring now count mode s = (datagram : List ℕ) (payload : ℕ)
    → IsMade mode s datagram payload
    → opened mode (pulled_keys ring now count) s.first_block
    (made_pass s datagram payload) payload (made_of mode s datagram payload)
    ≡ take payload datagram ++ payload_in datagram payload
    ++ signature_of (made_of mode s datagram payload)

-- a guard of this mode and first block that was made with the ring, or renewed by it last, whatever it accepted since
pub record IsGuardOver (ring : Ring) (mode : Mode) (first_block : ℕ) (guard : Guard) : Type 0 where
  pub keys : (setup_of guard).keys ≡ map keys_in (key_sets ring)
  pub mode_is : (setup_of guard).mode ≡ mode
  pub first_block_is : (setup_of guard).first_block ≡ first_block

-- A ring that a puller makes of the keys. `pulled` gives one, by a clock that stood at 0 when the keys were answered, and so do
-- `pulled_at` and `pulled_for`, wherever they give any, by the clock that they are told.
pub record IsPulledRing (keys : Keys) (pulled : Ring) : Type 0 where
  pub clock : ℕ
  pub sets : key_sets pulled ≡ pulled_sets (later clock keys)

-- a puller's guard, of this mode and first block: it has the keys of the answer to start 0, and no others
pub record IsPullersGuard (ring : Ring) (now count : ℕ) (mode : Mode) (first_block : ℕ) (guard : Guard) : Type 0 where
  pub keys : (setup_of guard).keys ≡ pulled_keys ring now count
  pub mode_is : (setup_of guard).mode ≡ mode
  pub first_block_is : (setup_of guard).first_block ≡ first_block

-- a guard over a ring that a puller makes of what was read of the answer's bytes
pub record IsReadersGuard (ring : Ring) (now count : ℕ) (mode : Mode) (first_block : ℕ) (guard : Guard) : Type 0 where
  pub back : Keys
  pub read : reply_in (reply_bytes (answer ring now 0 count)) ≡ Ok back
  pub pulled : Ring
  pub made : IsPulledRing back pulled
  pub over : IsGuardOver pulled mode first_block guard

-- A guard over a ring that a puller makes of the answer is a puller's guard. So is, of the mode and first block that it had, one
-- that is renewed by such a ring, whatever keys it had before.
pub record GivesPullersGuards (ring : Ring) (now count : ℕ) (pulled : Ring) : Type 0 where
  pub over : (mode : Mode) (first_block : ℕ) (guard : Guard) → IsGuardOver pulled mode first_block guard
      → IsPullersGuard ring now count mode first_block guard
  pub renewed : (old new : Guard) → setup_of new ≡ setup_renewed (setup_of old) (key_sets pulled)
      → IsPullersGuard ring now count (setup_of old).mode (setup_of old).first_block new

-- a sender that uses the keys of the pulled ring so long after the answer, by the puller's clock, uses those of the service's ring,
-- where that moment is covered
abbrev pub GivesRingsKeys : Ring → ℕ → ℕ → Ring → Type 0
GivesRingsKeys ring now count pulled = (is : IsPulledRing (answer ring now 0 count) pulled) (moment : ℕ) (s : SenderState)
    → IsCovered (key_sets ring) now count moment
    → UsesKeysAt pulled (is.clock + (moment - now)) s → UsesKeysAt ring moment s

-- A puller's guard of the mode and of the sender's first block, whatever it accepted before, says Ok of what was made wherever the
-- number is acceptable, and what it decrypts is header and payload as they were, with the signature behind them.
abbrev pub OpensMade : Ring → ℕ → ℕ → Mode → SenderState → Guard → Type 0
OpensMade ring now count mode s guard = (datagram : List ℕ) (payload : ℕ) (accepted : Accepted) (said : Result Pass1 OpenFault)
    → IsPullersGuard ring now count mode s.first_block guard → IsGuardOf accepted guard
    → IsMade mode s datagram payload
    → is_acceptable (setup_of guard).keys accepted s.keys.token s.used ≡ true
    → SaysVerdict guard (Some (front_value mode s)) (made_of mode s datagram payload) payload said
    → (said ≡ Ok (made_pass s datagram payload))
    × (opened_by (setup_of guard) (made_pass s datagram payload) payload (made_of mode s datagram payload)
    ≡ take payload datagram ++ payload_in datagram payload ++ signature_of (made_of mode s datagram payload))
