-- A ring that a service answers from, its publisher's sender, and a datagram that this makes.
use Rattle.std.specs.Prelude.{◌≡◌, ℕ, false, List, [], ◌∷◌, ◌++◌, map, replicate, Some, None, Result}
use Rattle.uadp_header.specs.Headers.{HeaderValue, ListOf, U8}
use Rattle.uadp_header.specs.Spelling.{header_bytes}
use Rattle.group_keys.specs.declared.key_set.KeySet.{KeySet}
use Rattle.group_keys.specs.declared.ring.Ring.{Ring}
use Rattle.group_keys.specs.Ring.{is_long, key_sets}
use Rattle.message_guard.specs.declared.guard.Guard.{Guard}
use Rattle.message_guard.specs.declared.mode.Mode.TheVariants.{Encrypt}
use Rattle.message_guard.specs.declared.open_fault.OpenFault.{OpenFault}
use Rattle.message_guard.specs.declared.pass.Pass1.{Pass1}
use Rattle.message_guard.specs.Acceptance.{Accepts, GuardCall, Renews}
use Rattle.message_guard.specs.Opening.{verdict}
use Rattle.message_guard.specs.Protection.{keys_in}
use Rattle.message_guard.specs.Senders.{Front, Protect, Renew, SenderState, SenderStep, TurnTo, front_value, made_of}

-- a key set of AES-128 whose bytes are all this one
abbrev pub set_of : ℕ → ℕ → ℕ → KeySet
set_of token from byte = record {
  token = token;
  from = from;
  signing = replicate 32 byte;
  encrypting = record { items = replicate 16 byte };
  nonce = replicate 4 byte;
}

-- two of them, each for a second
unfoldable pub two_sets : List KeySet
two_sets = set_of 1 0 7 ∷ set_of 2 1000 8 ∷ []

-- the sets of another ring, with another key under the second token
unfoldable pub other_sets : List KeySet
other_sets = set_of 1 0 7 ∷ set_of 2 500 6 ∷ []

-- a ring of the two sets, as `Ring::new` makes it
pub record IsSmallRing (ring : Ring) : Type 0 where
  pub sets : key_sets ring ≡ two_sets
  pub short : is_long ring ≡ false

-- the publisher's sender, which gave the first front under a token
abbrev pub sender_with : KeySet → SenderState
sender_with set = record {
  sets = two_sets;
  keys = keys_in set;
  random = replicate 4 9;
  first_block = 0;
  used = 1;
  fronted = Some Encrypt;
}

unfoldable pub small_sender : SenderState
small_sender = sender_with (set_of 1 0 7)

-- the sender with the sets of the other ring, and the keys of the first of the two sets
abbrev pub other_sender : SenderState
other_sender = record small_sender { sets = other_sets }

-- the publisher's sender once it came to the second set
unfoldable pub late_sender : SenderState
late_sender = sender_with (set_of 2 1000 8)

-- the header of a datagram of one writer, with the front
unfoldable pub small_header : HeaderValue
small_header = record {
  publisher = Some (U8 5);
  class_id = None;
  group = Some 1;
  version = None;
  message_number = None;
  sequence = Some 0;
  ids = ListOf (1 ∷ 0 ∷ []);
  security = Some (front_value Encrypt small_sender);
}

-- where its payload begins
abbrev pub small_payload : ℕ
small_payload = 25

-- the header, a payload of three bytes, and room for the signature
unfoldable pub small_datagram : List ℕ
small_datagram = header_bytes small_header ++ (1 ∷ 2 ∷ 3 ∷ []) ++ replicate 32 0

-- what may befall the sender: it comes to the second set, is renewed by the same ring, and gives a front
abbrev pub small_steps : List SenderStep
small_steps = TurnTo 1000 ∷ Renew two_sets ∷ Front Encrypt ∷ []

-- steps with the later sender, once the other ring renewed it: a moment, a front, a datagram, a third ring, and another front
unfoldable pub late_steps : List SenderStep
late_steps = TurnTo 1600 ∷ Front Encrypt ∷ Protect Encrypt small_datagram small_payload ∷ Renew (set_of 2 0 5 ∷ []) ∷ Front Encrypt ∷ []

-- a guard with the keys of the two sets, before any datagram
unfoldable pub small_guard : Guard
small_guard = record {
  mode = Encrypt;
  first_block = 0;
  high = None;
  window = record { high = 0; words = replicate 16 0 };
  keys = map keys_in two_sets;
}

-- what this guard says of what the sender protects
abbrev pub small_verdict : Result Pass1 OpenFault
small_verdict =
    verdict Encrypt (map keys_in two_sets) [] (Some (front_value Encrypt small_sender))
    (made_of Encrypt small_sender small_datagram small_payload) small_payload

-- what may befall a guard of these sets: it accepts a number under the first, is renewed by the same ring, and accepts one under the second
unfoldable pub small_calls : List GuardCall
small_calls = Accepts (2, 1) ∷ Renews (map keys_in two_sets) ∷ Accepts (1, 1) ∷ []
