-- What the laws of senders and guards say.
use Rattle.std.specs.Prelude.{◌≡◌, ◌≢◌, ℕ, ◌<◌, ◌≤◌, List, ◌++◌, length, map, true, Bool, AllPairs, Option, Some, Ok, option_map}
use Rattle.group_keys.specs.Faults.{IsAccepted}
use Rattle.group_keys.specs.KeySets.{Rises, current}
use Rattle.group_keys.specs.declared.key_set.KeySet.{KeySet}
use Rattle.uadp_header.specs.Headers.{HeaderValue, SecurityValue}
use Rattle.uadp_header.specs.Reading.{IsSecured}
use Rattle.uadp_header.specs.Spelling.{IsWritten, IsSendersSecurity, header_bytes}
use Rattle.message_guard.specs.declared.keys.TokenKeys.{TokenKeys}
use Rattle.message_guard.specs.declared.mode.Mode.{Mode}
use Rattle.message_guard.specs.declared.mode.Mode.TheVariants as modes
use Rattle.message_guard.specs.declared.pass.Pass1.{Pass1}
use Rattle.message_guard.specs.Modes.{is_secured}
use Rattle.message_guard.specs.Protection.{keys_in, keys_with, with_stream, signature_of}
use Rattle.message_guard.specs.Acceptance.{Accepted, AreAcceptable, AreAcceptableCalls, GuardCall, accepted_in, is_acceptable}
use Rattle.message_guard.specs.Opening.{has_mode, open_pass, signed_pass, verdict, opened}
use Rattle.message_guard.specs.Opened.{MayOpen, IsPassed, sent_pass}
use Rattle.message_guard.specs.Senders.{SenderState, SenderStep, IsSender, AreAllowed, AreLives, HaveOtherNumbers, Life, after, KeepsToken, datagrams_of, datagrams_over, front_value, fronts_in, numbers_left, renewed, sent, turned}

-- the stream added twice to any payload leaves it
abbrev pub StreamCancels : Mode → TokenKeys → Type 0
StreamCancels mode keys = (nonce : List ℕ) (first_block : ℕ) (payload : List ℕ)
    → with_stream mode keys nonce first_block (with_stream mode keys nonce first_block payload) ≡ payload

-- the stream leaves the length of any payload
abbrev pub StreamKeepsLength : Mode → TokenKeys → Type 0
StreamKeepsLength mode keys = (nonce : List ℕ) (first_block : ℕ) (payload : List ℕ)
    → length (with_stream mode keys nonce first_block payload) ≡ length payload

-- a header that is written is read with its security header, whatever follows
abbrev pub IsReadSecured : HeaderValue → Type 0
IsReadSecured h = (security : Option SecurityValue) (rest : List ℕ)
    → IsWritten h → h.security ≡ security
    → IsSecured (header_bytes h ++ rest) security (length (header_bytes h))

-- what the sender makes of a payload behind a written header with its front is read with the front
abbrev pub SendsItsFront : Mode → SenderState → Type 0
SendsItsFront mode s = (h : HeaderValue) (payload : List ℕ)
    → IsWritten h → h.security ≡ Some (front_value mode s)
    → IsSecured (sent mode s (header_bytes h) payload) (Some (front_value mode s)) (length (header_bytes h))

-- a sender's front is a security header that a sender writes
abbrev pub IsSendersFront : Mode → SenderState → Type 0
IsSendersFront mode s = IsSender s → IsSendersSecurity (front_value mode s)

-- a guard that may open what the sender sent passes it
abbrev pub IsPassedOn : Mode → SenderState → Type 0
IsPassedOn mode s = (keys : List TokenKeys) (accepted : Accepted)
    (header payload : List ℕ) → MayOpen mode s keys accepted
    → verdict mode keys accepted (Some (front_value mode s)) (sent mode s header payload) (length header)
    ≡ Ok (sent_pass s header payload)

-- what a guard finds of what the sender sent is what the sender's front said
abbrev pub IsFound : Mode → SenderState → Type 0
IsFound mode s = (header payload : List ℕ) → IsSender s
    → signed_pass (front_value mode s) (sent mode s header payload) ≡ sent_pass s header payload

-- a guard that has the sender's keys restores the payload of what the sender sent
abbrev pub IsRestored : Mode → SenderState → Type 0
IsRestored mode s = (keys : List TokenKeys) (header payload : List ℕ)
    → keys_with keys s.keys.token ≡ Some s.keys → let datagram = sent mode s header payload in
    opened mode keys s.first_block (sent_pass s header payload) (length header) datagram
    ≡ header ++ payload ++ signature_of datagram

-- without security what isn't signed nor encrypted is passed
abbrev pub PassesOpen : List TokenKeys → Accepted → Type 0
PassesOpen keys accepted = (security : Option SecurityValue)
    (datagram : List ℕ) (payload : ℕ) → has_mode modes.None security ≡ true
    → verdict modes.None keys accepted security datagram payload ≡ Ok (open_pass datagram)

-- without security a datagram is left as it is
abbrev pub LeavesOpen : List TokenKeys → Type 0
LeavesOpen keys = (first_block payload : ℕ) (datagram : List ℕ) → payload ≤ length datagram
    → opened modes.None keys first_block (open_pass datagram) payload datagram ≡ datagram

-- with security only what is signed is passed
abbrev pub PassesSigned : Mode → List TokenKeys → Type 0
PassesSigned mode keys = (accepted : Accepted) (security : Option SecurityValue)
    (datagram : List ℕ) (payload : ℕ) (pass : Pass1) → is_secured mode ≡ true
    → verdict mode keys accepted security datagram payload ≡ Ok pass
    → IsPassed mode keys accepted security datagram payload pass

-- with security only a token and a number that are acceptable are passed
abbrev pub PassesAcceptable : Mode → List TokenKeys → Type 0
PassesAcceptable mode keys = (accepted : Accepted) (security : Option SecurityValue)
    (datagram : List ℕ) (payload : ℕ) (pass : Pass1) → is_secured mode ≡ true
    → verdict mode keys accepted security datagram payload ≡ Ok pass
    → is_acceptable keys accepted pass.token pass.number ≡ true

-- where each pair was acceptable when it was accepted, no pair was accepted twice
abbrev pub AcceptsOnce : List TokenKeys → Type 0
AcceptsOnce keys = (accepted : Accepted) → AreAcceptable keys accepted
    → AllPairs (λ a b. a ≢ b) accepted

-- the same where rings came in between: where each pair was acceptable with the keys of its time
abbrev pub AcceptsOnceRenewed : List TokenKeys → Type 0
AcceptsOnceRenewed first = (calls : List GuardCall) → AreAcceptableCalls first calls
    → AllPairs (λ a b. a ≢ b) (accepted_in calls)

-- the datagrams that the steps protect have numbers of their own, where each step is allowed when it comes
abbrev pub HasOtherNumbersEach : SenderState → List SenderStep → Type 0
HasOtherNumbersEach s steps = IsSender s → AreAllowed s steps
    → AllPairs HaveOtherNumbers (datagrams_of s steps)

-- the datagrams of all lives of a device have numbers of their own
abbrev pub HaveOtherNumbersOver : List Life → Type 0
HaveOtherNumbersOver lives = AreLives lives → AllPairs HaveOtherNumbers (datagrams_over lives)

-- a sender that isn't spent has a number for each front of the steps, fewer than 1,024, and one more
abbrev pub HasNumbersFor : SenderState → List SenderStep → Type 0
HasNumbersFor s steps = 1024 ≤ numbers_left s → fronts_in steps < 1024
    → (after s steps).used < 4294967295

-- a sender that has the keys of a moment and turns to a later one has the keys of that
abbrev pub HasKeysOfMoments : Bool → SenderState → Type 0
HasKeysOfMoments long s = (earlier now : ℕ) → IsAccepted long s.sets → earlier ≤ now
    → option_map keys_in (current s.sets earlier) ≡ Some s.keys
    → option_map keys_in (current s.sets now) ≡ Some (turned s now).keys

-- a ring in which a later set has come gives its keys to a sender that is renewed by it, whatever the sender had
abbrev pub GoesOnToRing : SenderState → List KeySet → Type 0
GoesOnToRing s sets = (now : ℕ) (set : KeySet) → current sets now ≡ Some set → s.keys.token < set.token
    → (turned (renewed s sets) now).keys ≡ keys_in set

-- a guard of the sender's ring has the keys in use
abbrev pub IsKnown : SenderState → Type 0
IsKnown s = keys_with (map keys_in s.sets) s.keys.token ≡ Some s.keys

-- where the other ring has the token in use with the keys in use, a guard of it has them, whatever ring the sender had before
abbrev pub StaysKnown : SenderState → List KeySet → Type 0
StaysKnown s sets = KeepsToken s sets → IsKnown (renewed s sets)

-- and they are at each moment that it turns to
abbrev pub StaysKnownAt : SenderState → ℕ → Type 0
StaysKnownAt s now = Rises s.sets → IsKnown s → IsKnown (turned s now)

-- where the sender has the keys of the moment, a guard of its ring has them
abbrev pub IsKnownInRing : SenderState → ℕ → Type 0
IsKnownInRing s now = Rises s.sets → option_map keys_in (current s.sets now) ≡ Some s.keys
    → keys_with (map keys_in s.sets) s.keys.token ≡ Some s.keys
