-- How long replies are.
use Rattle.std.proofs.Common.{◌≡◌, ℕ, ◌+◌, ◌*◌, ◌≤◌, Bool, true, false, List, [], ◌∷◌, ◌++◌, length, refl, arith}
use Rattle.std.specs.Int.{w32, w64, to_le_bytes}
use Rattle.std.proofs.lemmas.List.{length-append}
use Rattle.ua_binary.specs.Spelling.{block}
use Rattle.group_keys.specs.declared.key_set.KeySet.{KeySet}
use Rattle.group_keys.specs.KeySets.{encrypting_length}
use Rattle.key_service.specs.declared.service.Keys.{Keys}
use Rattle.key_service.specs.Laws.{AreSets, IsReply, IsSetOf}
use Rattle.key_service.specs.Spelling.{key_data, policy_of, reply_bytes, set_bytes, sets_bytes}

length-block : (bytes : List ℕ) → length (block bytes) ≡ 4 + length bytes
length-block bytes = length-append (to_le_bytes w32 (length bytes)) bytes

key_short : (long : Bool) → encrypting_length long ≤ 32
key_short true = omega arith
key_short false = omega arith

set_short : (long : Bool) (token : ℕ) (set : KeySet) → IsSetOf long token set → length (set_bytes set) ≤ 72
set_short long token set is =
    omega (arith, length-block (key_data set), length-append (set.signing ++ set.encrypting.items) set.nonce, length-append set.signing set.encrypting.items, is.signing, is.encrypting, is.nonce, key_short long)

sets_short : (long : Bool) (token : ℕ) (sets : List KeySet) → AreSets long token sets → length (sets_bytes sets) ≤ 72 * length sets
sets_short long token [] are = omega arith
sets_short long token (set ∷ sets) are =
    omega (arith, length-append (set_bytes set) (sets_bytes sets), set_short long token set are.0, sets_short long (token + 1) sets are.1)

policy_length : (long : Bool) → length (policy_of long) ≡ 17
policy_length true = refl
policy_length false = refl

pub reply_short : (keys : Keys) → IsReply keys → length (reply_bytes keys) ≤ 1197
reply_short keys is =
    let policy = block (policy_of keys.long) in
    let first = to_le_bytes w32 keys.first in
    let count = to_le_bytes w32 (length keys.keys.items) in
    let sets = sets_bytes keys.keys.items in
    let next = to_le_bytes w64 keys.next in
    let lifetime = to_le_bytes w64 keys.lifetime in
    let first_long : length first ≡ 4 = refl in
    let count_long : length count ≡ 4 = refl in
    let next_long : length next ≡ 8 = refl in
    let lifetime_long : length lifetime ≡ 8 = refl in
    omega (
      arith,
      length-append (policy ++ first ++ count ++ sets ++ next) lifetime,
      length-append (policy ++ first ++ count ++ sets) next,
      length-append (policy ++ first ++ count) sets,
      length-append (policy ++ first) count,
      length-append policy first,
      length-block (policy_of keys.long),
      policy_length keys.long,
      sets_short keys.long keys.first keys.keys.items is.sets,
      is.few,
      first_long,
      count_long,
      next_long,
      lifetime_long,
    )
