-- A sender's state, and what its calls make of it.
use Rattle.std.specs.Prelude.{◌≡◌, ◌≢◌, ◌⊎◌, ℕ, ◌+◌, ◌-◌, ◌^◌, ◌<◌, ◌≤◌, List, [], ◌∷◌, ◌++◌, length, take, true, false, nat_lt, Option, Some, None, if◌then◌else◌}
use Rattle.group_keys.specs.KeySets.{current, with_token}
use Rattle.group_keys.specs.declared.key_set.KeySet.{KeySet}
use Rattle.message_guard.specs.declared.keys.TokenKeys.{TokenKeys}
use Rattle.uadp_header.specs.Headers.{SecurityValue}
use Rattle.message_guard.specs.declared.mode.Mode.{Mode}
use Rattle.uadp_header.specs.Reading.{IsSecured}
use Rattle.message_guard.specs.Modes.{is_secured, encrypts}
use Rattle.message_guard.specs.Protection.{cipher_key, keys_in, message_nonce, number_in, protected, payload_in}

-- the ring's sets, the keys of the token in use, four bytes for each nonce, the first block counter, the last number
-- used under the token, and the mode of the front that took it, where one did
pub record SenderState : Type 0 where
  pub sets : List KeySet
  pub keys : TokenKeys
  pub random : List ℕ
  pub first_block : ℕ
  pub used : ℕ
  pub fronted : Option Mode

-- the sender with the keys of a set, where its token is higher: then numbers begin anew
abbrev pub turned_by : SenderState → Option KeySet → SenderState
turned_by s None = s
turned_by s (Some set) = if nat_lt s.keys.token set.token then record s { keys = keys_in set; used = 0; fronted = None } else s

-- the sender at a moment
abbrev pub turned : SenderState → ℕ → SenderState
turned s now = turned_by s (current s.sets now)

-- the sender once a front of the mode takes the next number
abbrev pub advanced : Mode → SenderState → SenderState
advanced mode s = record s { used = s.used + 1; fronted = Some mode }

-- what the security header of a sender's last number says (SecurityFlags: no footer, no forced key reset)
abbrev pub front_value : Mode → SenderState → SecurityValue
front_value mode s = record {
  signed = true;
  encrypted = encrypts mode;
  footer = false;
  reset = false;
  token = s.keys.token;
  nonce = message_nonce s.random s.used;
}

-- the datagram that it protects
abbrev pub sent : Mode → SenderState → List ℕ → List ℕ → List ℕ
sent mode s header payload = protected mode s.keys (message_nonce s.random s.used) s.first_block header payload

-- the sender with the sets of another ring: the keys in use stay, and the numbers go on
abbrev pub renewed : SenderState → List KeySet → SenderState
renewed s sets = record s { sets = sets }

-- the keys are those that the set gives, whenever it is used
pub record AreKeysOf (keys : TokenKeys) (set : KeySet) : Type 0 where
  pub token : keys.token ≡ set.token
  pub nonce : keys.nonce ≡ set.nonce
  pub signing : keys.signing ≡ set.signing
  pub encrypting : keys.encrypting ≡ cipher_key set.encrypting.items

-- the set is there, and the keys are those that it gives
abbrev pub AreKeysOfOne : TokenKeys → Option KeySet → Type 0
AreKeysOfOne keys (Some set) = AreKeysOf keys set
AreKeysOfOne keys None = ⊥

-- the sets have the token in use, with the keys in use
abbrev pub KeepsToken : SenderState → List KeySet → Type 0
KeepsToken s sets = AreKeysOfOne s.keys (with_token sets s.keys.token)

-- how many numbers are left under the token
abbrev pub numbers_left : SenderState → ℕ
numbers_left s = 4294967295 - s.used

-- The last front was of the mode, the datagram is read with its security header, and behind the payload there is room
-- for a signature.
pub record MayProtect (mode : Mode) (s : SenderState) (datagram : List ℕ) (payload : ℕ) : Type 0 where
  pub fronted : s.fronted ≡ Some mode
  pub header : IsSecured datagram (Some (front_value mode s)) payload
  pub room : payload + 32 ≤ length datagram

-- the calls of those who share a sender
pub data SenderStep : Type 0 where
  TurnTo : (now : ℕ) → SenderStep
  Renew : (sets : List KeySet) → SenderStep
  Front : (mode : Mode) → SenderStep
  Protect : (mode : Mode) (datagram : List ℕ) (payload : ℕ) → SenderStep

-- The condition of the call. A renewal has none: no ring makes a number come again.
abbrev pub IsAllowed : SenderState → SenderStep → Type 0
IsAllowed s (TurnTo now) = Unit {0}
IsAllowed s (Renew sets) = Unit {0}
IsAllowed s (Front mode) = (is_secured mode ≡ true) × (s.used < 4294967295)
IsAllowed s (Protect mode datagram payload) = MayProtect mode s datagram payload

-- the sender after the step, where a front serves one datagram alone
abbrev pub stepped : SenderState → SenderStep → SenderState
stepped s (TurnTo now) = turned s now
stepped s (Renew sets) = renewed s sets
stepped s (Front mode) = advanced mode s
stepped s (Protect mode datagram payload) = record s { fronted = None }

-- each step is allowed when it comes: each datagram has a front of its own
abbrev pub AreAllowed : SenderState → List SenderStep → Type 0
AreAllowed s [] = Unit {0}
AreAllowed s (step ∷ steps) = IsAllowed s step × AreAllowed (stepped s step) steps

abbrev pub after : SenderState → List SenderStep → SenderState
after s [] = s
after s (step ∷ steps) = after (stepped s step) steps

-- how many of the steps take a number
abbrev pub fronts_in : List SenderStep → ℕ
fronts_in [] = 0
fronts_in (TurnTo now ∷ steps) = fronts_in steps
fronts_in (Renew sets ∷ steps) = fronts_in steps
fronts_in (Front mode ∷ steps) = fronts_in steps + 1
fronts_in (Protect mode datagram payload ∷ steps) = fronts_in steps

-- what the sender makes of a datagram: what stands up to the payload stays
abbrev pub made_of : Mode → SenderState → List ℕ → ℕ → List ℕ
made_of mode s datagram payload = sent mode s (take payload datagram) (payload_in datagram payload)

-- the datagrams that the steps protect, the first first
abbrev pub datagrams_of : SenderState → List SenderStep → List (List ℕ)
datagrams_of s [] = []
datagrams_of s (TurnTo now ∷ steps) = datagrams_of (turned s now) steps
datagrams_of s (Renew sets ∷ steps) = datagrams_of (renewed s sets) steps
datagrams_of s (Front mode ∷ steps) = datagrams_of (advanced mode s) steps
datagrams_of s (Protect mode datagram payload ∷ steps) =
    made_of mode s datagram payload ∷ datagrams_of (record s { fronted = None }) steps

-- a sender as it is in memory: four bytes begin each nonce, and the number fits the four behind them
pub record IsSender (s : SenderState) : Type 0 where
  pub random : length s.random ≡ 4
  pub used : s.used < 2 ^ 32

-- the token, and the number in the nonce
abbrev pub number_of : SecurityValue → ℕ × ℕ
number_of security = (security.token, number_in security.nonce)

-- Whatever security headers the two are read with, their tokens differ, or the numbers in their nonces.
abbrev pub HaveOtherNumbers : List ℕ → List ℕ → Type 0
HaveOtherNumbers one other =
    (a b : SecurityValue) (at end : ℕ) → IsSecured one (Some a) at → IsSecured other (Some b) end
    → number_of a ≢ number_of b

-- ---- over restarts

-- a sender and its steps, from the start of a device until it stops
pub record Life : Type 0 where
  pub first : SenderState
  pub steps : List SenderStep

-- A sender that begins behind where one ended: no front of it waits for a datagram, and its token is higher, or is the same and its last number isn't below.
pub record IsBehind (ended begun : SenderState) : Type 0 where
  pub unfronted : begun.fronted ≡ None
  pub above : (ended.keys.token < begun.keys.token)
      ⊎ ((begun.keys.token ≡ ended.keys.token) × (ended.used ≤ begun.used))

-- the first of these lives, if there is one, begins behind where the sender ended
abbrev pub BeginBehind : SenderState → List Life → Type 0
BeginBehind ended [] = Unit {0}
BeginBehind ended (life ∷ lives) = IsBehind ended life.first

-- the steps of each life are allowed when they come, and the next one begins behind where it ended
abbrev pub AreLives : List Life → Type 0
AreLives [] = Unit {0}
AreLives (life ∷ lives) =
    IsSender life.first × AreAllowed life.first life.steps
    × BeginBehind (after life.first life.steps) lives × AreLives lives

-- the datagrams of all lives, the first first
abbrev pub datagrams_over : List Life → List (List ℕ)
datagrams_over [] = []
datagrams_over (life ∷ lives) = datagrams_of life.first life.steps ++ datagrams_over lives
