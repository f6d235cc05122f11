-- A datagram of four zero bytes that is protected under a key, and what a guard finds in it.
use Rattle.std.specs.Prelude.{◌≡◌, ℕ, List, [], ◌∷◌, ◌++◌, length, Bool, false, bytes_eq, Option, Some, None, Result, Ok, Err, slice_range}
use Rattle.group_keys.specs.declared.key_set.KeySet.{KeySet}
use Rattle.group_keys.specs.KeySets.{encrypting_length}
use Rattle.uadp_header.specs.Headers.{SecurityValue, HeaderValue, NoIds, U8}
use Rattle.uadp_header.specs.Reading.{IsSecured}
use Rattle.uadp_header.specs.Spelling.{header_bytes}
use Rattle.message_guard.specs.declared.guard.Guard.{Guard}
use Rattle.message_guard.specs.declared.mode.Mode.TheVariants.{Encrypt}
use Rattle.message_guard.specs.declared.open_fault.OpenFault.{OpenFault}
use Rattle.message_guard.specs.declared.pass.Pass1.{Pass1}
use Rattle.message_guard.specs.Guards.{IsGuardOf, Setup, opened_by, setup_of}
use Rattle.message_guard.specs.Opening.{verdict}
use Rattle.message_guard.specs.Protection.{keys_in, keys_with}
use Rattle.message_guard.specs.Senders.{IsSender, SenderState, front_value, sent}

-- the encrypting key of the set is as long as the policy wants
abbrev pub HasLength : Bool → KeySet → Type 0
HasLength long set = length set.encrypting.items ≡ encrypting_length long

-- the set alone, used from moment 0
abbrev pub alone : KeySet → List KeySet
alone set = record set { from = 0 } ∷ []

abbrev pub zeros : List ℕ
zeros = 0 ∷ 0 ∷ 0 ∷ 0 ∷ []

-- ---- what a sender makes

-- the header of the datagram: a publisher, a group, and the security header
abbrev pub header_with : SecurityValue → HeaderValue
header_with security = record {
  publisher = Some (U8 1);
  class_id = None;
  group = Some 1;
  version = None;
  message_number = None;
  sequence = None;
  ids = NoIds;
  security = Some security;
}

-- the datagram before it is protected: a header that carries this, four zero bytes, and as many bytes as a signature has
pub record IsPlain (security : SecurityValue) (datagram : List ℕ) (payload : ℕ) : Type 0 where
  pub behind : List ℕ
  pub long : length behind ≡ 32
  pub bytes : datagram ≡ header_bytes (header_with security) ++ (zeros ++ behind)
  pub begins : payload ≡ length (header_bytes (header_with security))

-- a datagram of four zero bytes that a sender with the keys of the set protected
pub record IsProtected (set : KeySet) (datagram : List ℕ) : Type 0 where
  pub sender : SenderState
  pub header : List ℕ
  pub whole : IsSender sender
  pub keys : sender.keys ≡ keys_in set
  pub first_block : sender.first_block ≡ 1
  pub sent : datagram ≡ sent Encrypt sender header zeros
  pub secured : IsSecured datagram (Some (front_value Encrypt sender)) (length header)

-- ---- what a guard finds

-- of a datagram whose payload begins here: what it decrypts between header and signature, and nothing where it refuses it
abbrev pub payload_by : Setup → List ℕ → ℕ → Result Pass1 OpenFault → Option (List ℕ)
payload_by setup datagram payload (Ok pass) = Some (slice_range (opened_by setup pass payload datagram) payload pass.end)
payload_by setup datagram payload (Err fault) = None

-- the same of a guard that accepted nothing before, by its verdict
abbrev pub found_by : Setup → SecurityValue → List ℕ → ℕ → Option (List ℕ)
found_by setup security datagram payload =
    payload_by setup datagram payload (verdict setup.mode setup.keys [] (Some security) datagram payload)

abbrev pub is_zeros : Option (List ℕ) → Bool
is_zeros None = false
is_zeros (Some payload) = bytes_eq payload zeros

-- the answer says whether the guard finds four zero bytes in the datagram, with whichever security header this is read
abbrev pub FindsZeros : Setup → List ℕ → Bool → Type 0
FindsZeros setup datagram answer = (security : SecurityValue) (payload : ℕ) → IsSecured datagram (Some security) payload
    → answer ≡ is_zeros (found_by setup security datagram payload)

-- the guard finds just this in the datagram, with whichever security header this is read
abbrev pub Finds : Setup → List ℕ → Option (List ℕ) → Type 0
Finds setup datagram found = (security : SecurityValue) (payload : ℕ) → IsSecured datagram (Some security) payload
    → found ≡ found_by setup security datagram payload

-- a guard that accepted nothing before, decrypts, and has the keys of the set under its token
pub record CanOpen (guard : Guard) (set : KeySet) : Type 0 where
  pub fresh : IsGuardOf [] guard
  pub mode : (setup_of guard).mode ≡ Encrypt
  pub first_block : (setup_of guard).first_block ≡ 1
  pub known : keys_with (setup_of guard).keys set.token ≡ Some (keys_in set)
