-- What the laws speak of: requests and replies that can be written, and the moments that an answer covers.
use Rattle.std.specs.Prelude.{◌≡◌, ℕ, ◌+◌, ◌-◌, ◌*◌, ◌^◌, ◌<◌, ◌≤◌, ⊤, Bool, true, IsTrue, List, [], ◌∷◌, length, Some, Ok}
use Rattle.dataset_meta.specs.Names.{is_name}
use Rattle.group_keys.specs.declared.key_set.KeySet.{KeySet}
use Rattle.group_keys.specs.declared.ring.Ring.{Ring}
use Rattle.group_keys.specs.Faults.{IsAccepted}
use Rattle.group_keys.specs.InMemory.{AreKeySets}
use Rattle.group_keys.specs.KeySets.{current, encrypting_length, with_token}
use Rattle.group_keys.specs.Ring.{is_long, key_sets}
use Rattle.key_service.specs.declared.service.Keys.{Keys}
use Rattle.key_service.specs.Answers.{answered, next_of}
use Rattle.key_service.specs.Pulled.{later, as_read, from_moment, IsPullable, moments_fit, pulled_sets}
use Rattle.key_service.specs.Reading.{reply_in, request_in}
use Rattle.key_service.specs.Services.{IsServed, lifetime_of}
use Rattle.key_service.specs.Spelling.{reply_bytes, request_bytes}

-- a request that can be written: for a group with a name, and of two UInt32s
pub record IsRequest (group : List ℕ) (start count : ℕ) : Type 0 where
  pub named : IsTrue (is_name group)
  pub start_fits : start < 2 ^ 32
  pub count_fits : count < 2 ^ 32

-- what is written of a request is read as the request
abbrev pub IsRequestReadBack : List ℕ → ℕ → ℕ → Type 0
IsRequestReadBack group start count =
    request_in (request_bytes group start count)
    ≡ Ok (record { group = group; start = start; count = count })

-- a set under the token, with keys of the policy's lengths
pub record IsSetOf (long : Bool) (token : ℕ) (set : KeySet) : Type 0 where
  pub under : set.token ≡ token
  pub signing : length set.signing ≡ 32
  pub encrypting : length set.encrypting.items ≡ encrypting_length long
  pub nonce : length set.nonce ≡ 4

-- sets of consecutive tokens from this one on, with keys of the policy's lengths
abbrev pub AreSets : Bool → ℕ → List KeySet → Type 0
AreSets long token [] = ⊤
AreSets long token (set ∷ sets) = IsSetOf long token set × AreSets long (token + 1) sets

-- keys of which a reply can be written that is read: 1 to 16 of consecutive tokens, with moments below 2^64
pub record IsReply (keys : Keys) : Type 0 where
  pub some : 0 < length keys.keys.items
  pub few : length keys.keys.items ≤ 16
  pub tokens : keys.first + length keys.keys.items ≤ 2 ^ 32
  pub sets : AreSets keys.long keys.first keys.keys.items
  pub next : keys.next < 2 ^ 64
  pub lifetime : keys.lifetime < 2 ^ 64
  pub fit : moments_fit keys.next keys.lifetime 0 keys.keys.items ≡ true

-- what is written of the keys is read as keys that a puller can make a ring of, and that ring is the one of the keys
pub record IsPulledReadBack (keys : Keys) : Type 0 where
  pub read : reply_in (reply_bytes keys) ≡ Ok (as_read keys)
  pub pullable : IsPullable (as_read keys)
  pub sets : pulled_sets (as_read keys) ≡ pulled_sets keys

-- a ring that a service answers from
pub record IsServedRing (ring : Ring) : Type 0 where
  pub accepted : IsAccepted (is_long ring) (key_sets ring)
  pub served : IsServed (key_sets ring)
  pub in_memory : AreKeySets (key_sets ring)

-- The moment is covered by the answer that was given at `now`: it is before the end of the lifetime of the last answered
-- key, which is that of the current one and a whole lifetime for each further key.
pub record IsCovered (sets : List KeySet) (now count moment : ℕ) : Type 0 where
  pub begun : now ≤ moment
  pub not_over : moment < now + next_of sets now + (length (answered sets now 0 count) - 1) * lifetime_of sets

-- the pulled sets have the keys of a set under its token, from any moment
abbrev pub HasKeysOf : List KeySet → KeySet → Type 0
HasKeysOf pulled set = (moment : ℕ) × (with_token pulled set.token ≡ Some (from_moment set moment))

-- where the answer covers the moment, the ring that is pulled of the keys has the set that the ring uses at it
abbrev pub HasKeysOfMoment : Ring → ℕ → ℕ → Keys → Type 0
HasKeysOfMoment ring now count keys = (moment : ℕ) (set : KeySet)
    → IsCovered (key_sets ring) now count moment → current (key_sets ring) moment ≡ Some set
    → HasKeysOf (pulled_sets keys) set

-- a puller whose clock stands at 0 when it is answered uses at each covered moment the keys that the publisher's ring uses then
abbrev pub UsesKeyOfMoment : Ring → ℕ → ℕ → Keys → Type 0
UsesKeyOfMoment ring now count keys = (moment : ℕ) (set : KeySet)
    → IsCovered (key_sets ring) now count moment → current (key_sets ring) moment ≡ Some set
    → (from : ℕ) × (current (pulled_sets keys) (moment - now) ≡ Some (from_moment set from))

-- a puller whose clock stood at this moment when it was answered uses, so much later, the keys that it uses where its clock stood at 0
abbrev pub UsesKeysLater : Keys → ℕ → Type 0
UsesKeysLater keys clock = (span : ℕ) (set : KeySet)
    → current (pulled_sets keys) span ≡ Some set
    → (from : ℕ) × (current (pulled_sets (later clock keys)) (clock + span) ≡ Some (from_moment set from))
