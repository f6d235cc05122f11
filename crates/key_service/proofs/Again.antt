-- What is written is read as itself.
use Rattle.std.proofs.Common.{◌≡◌, ℕ, ◌+◌, ◌-◌, ◌<◌, ◌≤◌, ◌^◌, ◌==◌, ◌||◌, ◌&&◌, nat_lt, Bool, true, false, List, [], ◌∷◌, ◌++◌, length, map, Option, Some, None, Result, Ok, Err, refl, sym, ap, ◌∙◌, append_assoc, append-nil, eq-eqb, leb-true, nat_le, arith}
use Rattle.std.specs.Prelude.{if◌then◌else◌, IsTrue}
use Rattle.std.specs.Int.{w32, w64, to_le_bytes}
use Rattle.std.proofs.lemmas.Bool.{le-ltb, true≢false}
use Rattle.std.proofs.lemmas.List.{length-append}
use Rattle.std.proofs.lemmas.Nat.{from_le_bytes-to_le_bytes_4, from_le_bytes-to_le_bytes_8}
use Rattle.arrayvec.specs.ArrayVec.{ArrayVec}
use Rattle.dataset_meta.specs.Names.{is_name, is_name_byte, begins_with_letter}
use Rattle.std.specs.List.{list_all}
use Rattle.ua_binary.specs.Reading.{◌>>=◌, bytes_at, number_at}
use Rattle.ua_binary.specs.Spelling.{block}
use Rattle.ua_binary.proofs.Parts.{bytes_again}
use Rattle.group_keys.specs.declared.key_set.KeySet.{KeySet}
use Rattle.group_keys.specs.KeySets.{encrypting_length}
use Rattle.key_service.specs.declared.service.Keys.{Keys}
use Rattle.key_service.specs.declared.reading.Request.{Request}
use Rattle.key_service.specs.declared.wire_fault.WireFault.{WireFault}
use Rattle.key_service.specs.declared.wire_fault.WireFault.TheVariants.{Short, BadName, BadPolicy, BadKeys}
use Rattle.key_service.specs.Pulled.{from_moment, moment_of, timed, timed_from, moments_fit, pulled_sets}
use Rattle.key_service.specs.Spelling.{policy_of, key_data, set_bytes, sets_bytes, reply_bytes}
use Rattle.key_service.specs.Reading.{string_at, ended, name_in, request_at, policy_in, tokens_in, key_length, length_in, set_at, sets_at, listed_at, moments_in, reply_at, reply_in}
use Rattle.key_service.proofs.Looking.{not_equal}
use Rattle.key_service.specs.Laws.{IsSetOf, AreSets, IsReply, IsRequest, IsRequestReadBack}

pub number32 : (n : ℕ) (rest : List ℕ) → n < 2 ^ 32 → number_at Short w32 (to_le_bytes w32 n ++ rest) ≡ Ok (n, rest)
number32 n rest below =
    ap (λ (r : Result (List ℕ × List ℕ) WireFault). r >>= λ x. Ok (Rattle.std.specs.Int.from_le_bytes w32 x.0, x.1)) (bytes_again WireFault Short 4 (to_le_bytes w32 n) rest refl)
    ∙ ap (λ (k : ℕ). Ok (k, rest)) (from_le_bytes-to_le_bytes_4 n below)

pub number64 : (n : ℕ) (rest : List ℕ) → n < 2 ^ 64 → number_at Short w64 (to_le_bytes w64 n ++ rest) ≡ Ok (n, rest)
number64 n rest below =
    ap (λ (r : Result (List ℕ × List ℕ) WireFault). r >>= λ x. Ok (Rattle.std.specs.Int.from_le_bytes w64 x.0, x.1)) (bytes_again WireFault Short 8 (to_le_bytes w64 n) rest refl)
    ∙ ap (λ (k : ℕ). Ok (k, rest)) (from_le_bytes-to_le_bytes_8 n below)

pub string : (fault : WireFault) (text rest : List ℕ) → length text ≤ 256 → string_at fault (block text ++ rest) ≡ Ok (text, rest)
unfolding string_at
string fault text rest short =
    let behind = λ (len : ℕ × List ℕ). if nat_lt 2147483647 len.0 then Err fault else bytes_at Short len.0 len.1 in
    ap (λ (b : List ℕ). number_at Short w32 b >>= behind) (append_assoc (to_le_bytes w32 (length text)) text rest)
    ∙ ap (λ (r : Result (ℕ × List ℕ) WireFault). r >>= behind) (number32 (length text) (text ++ rest) (omega arith))
    ∙ ap (λ (b : Bool). if b then Err fault else bytes_at Short (length text) (text ++ rest)) (le-ltb 2147483647 (length text) (omega arith))
    ∙ bytes_again WireFault Short (length text) text rest refl

three : (a b c : List ℕ) → (a ++ b) ++ c ≡ a ++ (b ++ (c ++ []))
three a b c = append_assoc a b c ∙ ap (λ (l : List ℕ). a ++ (b ++ l)) (sym (append-nil c))

-- what is behind each part of a request
abbrev behind_start : List ℕ → ℕ × List ℕ → Result (Request × List ℕ) WireFault
behind_start group start = number_at Short w32 start.1 >>= λ count. Ok (record { group = group; start = start.0; count = count.0 }, count.1)

abbrev behind_group : List ℕ → List ℕ → Result (Request × List ℕ) WireFault
behind_group rest group = number_at Short w32 rest >>= behind_start group

abbrev behind_text : List ℕ × List ℕ → Result (Request × List ℕ) WireFault
behind_text text = name_in text.0 >>= behind_group text.1

-- a name has at most 32 bytes
middle : (a b c : Bool) → (a && b && c) ≡ true → b ≡ true
middle true true c holds = refl
middle true false c holds = holds
middle false b c holds = absurd (true≢false (sym holds))

name_short : (name : List ℕ) → IsTrue (is_name name) → length name ≤ 32
name_short name named = leb-true (length name) 32 (middle (begins_with_letter name) (nat_le (length name) 32) (list_all is_name_byte name) named)

pub request_again : (group : List ℕ) (start count : ℕ) → IsRequest group start count → IsRequestReadBack group start count
unfolding request_at
request_again group start count is =
    let a = to_le_bytes w32 start in
    let b = to_le_bytes w32 count in
    ap (λ (r : Result (Request × List ℕ) WireFault). r >>= ended)
    (ap (λ (l : List ℕ). string_at BadName l >>= behind_text) (three (block group) a b)
    ∙ ap (λ (r : Result (List ℕ × List ℕ) WireFault). r >>= behind_text) (string BadName group (a ++ (b ++ [])) (omega (arith, name_short group is.named)))
    ∙ ap (λ (q : Bool). (if q then Ok group else Err BadName) >>= behind_group (a ++ (b ++ []))) is.named
    ∙ ap (λ (r : Result (ℕ × List ℕ) WireFault). r >>= behind_start group) (number32 start (b ++ []) is.start_fits)
    ∙ ap (λ (r : Result (ℕ × List ℕ) WireFault). r >>= λ n. Ok (record { group = group; start = start; count = n.0 }, n.1)) (number32 count [] is.count_fits))

-- what is behind each part of a key
abbrev behind_encrypting : ℕ → List ℕ → List ℕ × List ℕ → Result (KeySet × List ℕ) WireFault
behind_encrypting token signing encrypting =
    bytes_at Short 4 encrypting.1 >>= λ nonce. Ok (record { token = token; from = 0; signing = signing; encrypting = record { items = encrypting.0 }; nonce = nonce.0 }, nonce.1)

abbrev behind_signing : Bool → ℕ → List ℕ × List ℕ → Result (KeySet × List ℕ) WireFault
behind_signing long token signing = bytes_at Short (encrypting_length long) signing.1 >>= behind_encrypting token signing.0

abbrev behind_length : Bool → ℕ → List ℕ → Unit {0} → Result (KeySet × List ℕ) WireFault
behind_length long token rest fits = bytes_at Short 32 rest >>= behind_signing long token

abbrev behind_number : Bool → ℕ → ℕ × List ℕ → Result (KeySet × List ℕ) WireFault
behind_number long token len = length_in long len.0 >>= behind_length long token len.1

enc_small : (long : Bool) → encrypting_length long ≤ 32
enc_small true = omega arith
enc_small false = omega arith

pub set_again : (long : Bool) (token : ℕ) (set : KeySet) (rest : List ℕ) → IsSetOf long token set → set_at long token (set_bytes set ++ rest) ≡ Ok (from_moment set 0, rest)
unfolding set_at
set_again long token set rest is =
    let s = set.signing in
    let e = set.encrypting.items in
    let n = set.nonce in
    let len = length (key_data set) in
    let len_is : len ≡ key_length long = omega (arith, length-append (s ++ e) n, length-append s e, is.signing, is.encrypting, is.nonce) in
    let small : len < 2 ^ 32 = omega (arith, len_is, enc_small long) in
    let split : set_bytes set ++ rest ≡ to_le_bytes w32 len ++ (s ++ (e ++ (n ++ rest))) =
    append_assoc (to_le_bytes w32 len) (key_data set) rest
    ∙ ap (λ (l : List ℕ). to_le_bytes w32 len ++ l) (append_assoc (s ++ e) n rest ∙ append_assoc s e (n ++ rest)) in
    ap (λ (l : List ℕ). number_at Short w32 l >>= behind_number long token) split
    ∙ ap (λ (r : Result (ℕ × List ℕ) WireFault). r >>= behind_number long token) (number32 len (s ++ (e ++ (n ++ rest))) small)
    ∙ ap (λ (b : Bool). (if b then Ok tt else Err BadKeys) >>= behind_length long token (s ++ (e ++ (n ++ rest)))) (eq-eqb len (key_length long) len_is)
    ∙ ap (λ (r : Result (List ℕ × List ℕ) WireFault). r >>= behind_signing long token) (bytes_again WireFault Short 32 s (e ++ (n ++ rest)) is.signing)
    ∙ ap (λ (r : Result (List ℕ × List ℕ) WireFault). r >>= behind_encrypting token s) (bytes_again WireFault Short (encrypting_length long) e (n ++ rest) is.encrypting)
    ∙ ap (λ (r : Result (List ℕ × List ℕ) WireFault). r >>= λ x. Ok (record { token = token; from = 0; signing = s; encrypting = record { items = e }; nonce = x.0 }, x.1)) (bytes_again WireFault Short 4 n rest is.nonce)
    ∙ ap (λ (t : ℕ). Ok (record { token = t; from = 0; signing = s; encrypting = set.encrypting; nonce = n }, rest)) (sym is.under)

abbrev zeroed : List KeySet → List KeySet
zeroed sets = map (λ (set : KeySet). from_moment set 0) sets

pub sets_again : (long : Bool) (token : ℕ) (sets : List KeySet) (rest : List ℕ) → AreSets long token sets → sets_at long token (length sets) (sets_bytes sets ++ rest) ≡ Ok (zeroed sets, rest)
sets_again long token [] rest are = refl
sets_again long token (set ∷ sets) rest are =
    let behind = λ (set : KeySet × List ℕ). sets_at long (token + 1) (length sets) set.1 >>= λ sets. Ok (set.0 ∷ sets.0, sets.1) in
    ap (λ (l : List ℕ). set_at long token l >>= behind) (append_assoc (set_bytes set) (sets_bytes sets) rest)
    ∙ ap (λ (r : Result (KeySet × List ℕ) WireFault). r >>= behind) (set_again long token set (sets_bytes sets ++ rest) are.0)
    ∙ ap (λ (r : Result (List KeySet × List ℕ) WireFault). r >>= λ sets. Ok (from_moment set 0 ∷ sets.0, sets.1)) (sets_again long (token + 1) sets rest are.1)

-- the moments of a puller don't look at those of the sets
timed_zeroed : (next lifetime index : ℕ) (sets : List KeySet) → timed_from next lifetime index (zeroed sets) ≡ timed_from next lifetime index sets
timed_zeroed next lifetime index [] = refl
timed_zeroed next lifetime index (set ∷ sets) = ap (λ (l : List KeySet). from_moment set (moment_of next lifetime index) ∷ l) (timed_zeroed next lifetime (index + 1) sets)

fit_zeroed : (next lifetime index : ℕ) (sets : List KeySet) → moments_fit next lifetime index (zeroed sets) ≡ moments_fit next lifetime index sets
fit_zeroed next lifetime index [] = refl
fit_zeroed next lifetime index (set ∷ sets) = ap (λ (b : Bool). nat_lt (moment_of next lifetime index) (2 ^ 64) && b) (fit_zeroed next lifetime (index + 1) sets)

timed_again : (next lifetime : ℕ) (sets : List KeySet) → moments_fit next lifetime 0 sets ≡ true → timed next lifetime (zeroed sets) ≡ Some (record { items = timed_from next lifetime 0 sets })
timed_again next lifetime sets fit =
    ap (λ (b : Bool). if b then Some (record { items = timed_from next lifetime 0 (zeroed sets) }) else None) (fit_zeroed next lifetime 0 sets ∙ fit)
    ∙ ap (λ (l : List KeySet). Some (record { items = l })) (timed_zeroed next lifetime 0 sets)

policy_again : (long : Bool) → policy_in (policy_of long) ≡ Ok long
policy_again true = refl
policy_again false = refl

policy_short : (long : Bool) → length (policy_of long) ≤ 256
policy_short true = omega arith
policy_short false = omega arith

tokens_again : (first count : ℕ) → 0 < count → count ≤ 16 → first + count ≤ 2 ^ 32 → tokens_in first count ≡ Ok tt
tokens_again first count some few fits =
    let none : (count == 0) ≡ false = not_equal count 0 (λ e. omega (arith, e, some)) in
    ap (λ (b : Bool). if b || nat_lt 16 count || nat_lt 4294967295 (first + (count - 1)) then Err BadKeys else Ok tt) none
    ∙ ap (λ (b : Bool). if b || nat_lt 4294967295 (first + (count - 1)) then Err BadKeys else Ok tt) (le-ltb 16 count few)
    ∙ ap (λ (b : Bool). if b then Err BadKeys else Ok tt) (le-ltb 4294967295 (first + (count - 1)) (omega (arith, some, fits)))

six : (a b c d e f : List ℕ) → ((((a ++ b) ++ c) ++ d) ++ e) ++ f ≡ a ++ (b ++ (c ++ (d ++ (e ++ (f ++ [])))))
six a b c d e f =
    append_assoc (((a ++ b) ++ c) ++ d) e f ∙ append_assoc ((a ++ b) ++ c) d (e ++ f) ∙ append_assoc (a ++ b) c (d ++ (e ++ f)) ∙ append_assoc a b (c ++ (d ++ (e ++ f)))
    ∙ ap (λ (l : List ℕ). a ++ (b ++ (c ++ (d ++ (e ++ l))))) (sym (append-nil f))

-- what is behind each part of a reply
abbrev Kept : Type 0
Kept = Result (Keys × List ℕ) WireFault

abbrev behind_moments : Bool → ℕ → ℕ → ℕ → List ℕ → ArrayVec KeySet → Kept
behind_moments long first next lifetime rest keys = Ok (record { long = long; first = first; keys = keys; next = next; lifetime = lifetime }, rest)

abbrev behind_lifetime : Bool → ℕ → ArrayVec KeySet → ℕ → ℕ × List ℕ → Kept
behind_lifetime long first sets next lifetime = moments_in (timed next lifetime.0 sets.items) >>= behind_moments long first next lifetime.0 lifetime.1

abbrev behind_next : Bool → ℕ → ArrayVec KeySet → ℕ × List ℕ → Kept
behind_next long first sets next = number_at Short w64 next.1 >>= behind_lifetime long first sets next.0

abbrev behind_sets : Bool → ℕ → ArrayVec KeySet × List ℕ → Kept
behind_sets long first sets = number_at Short w64 sets.1 >>= behind_next long first sets.0

abbrev behind_tokens : Bool → ℕ → ℕ → List ℕ → Unit {0} → Kept
behind_tokens long first count rest fits = listed_at long first count rest >>= behind_sets long first

abbrev behind_count : Bool → ℕ → ℕ × List ℕ → Kept
behind_count long first count = tokens_in first count.0 >>= behind_tokens long first count.0 count.1

abbrev behind_first : Bool → ℕ × List ℕ → Kept
behind_first long first = number_at Short w32 first.1 >>= behind_count long first.0

abbrev behind_long : List ℕ → Bool → Kept
behind_long rest long = number_at Short w32 rest >>= behind_first long

abbrev behind_policy : List ℕ × List ℕ → Kept
behind_policy policy = policy_in policy.0 >>= behind_long policy.1

listed_again : (long : Bool) (token : ℕ) (sets : List KeySet) (rest : List ℕ) → AreSets long token sets → listed_at long token (length sets) (sets_bytes sets ++ rest) ≡ Ok (record { items = zeroed sets }, rest)
unfolding listed_at
listed_again long token sets rest are =
    ap (λ (r : Result (List KeySet × List ℕ) WireFault). r >>= λ sets. Ok (record { items = sets.0 }, sets.1)) (sets_again long token sets rest are)

pub reply_again : (keys : Keys) → IsReply keys → reply_in (reply_bytes keys) ≡ Ok (record { long = keys.long; first = keys.first; keys = record { items = pulled_sets keys }; next = keys.next; lifetime = keys.lifetime })
unfolding reply_at
reply_again keys is =
    let long = keys.long in
    let sets = keys.keys.items in
    let a = to_le_bytes w32 keys.first in
    let b = to_le_bytes w32 (length sets) in
    let c = sets_bytes sets in
    let d = to_le_bytes w64 keys.next in
    let e = to_le_bytes w64 keys.lifetime in
    let rest = a ++ (b ++ (c ++ (d ++ (e ++ [])))) in
    ap (λ (r : Kept). r >>= ended)
    (ap (λ (l : List ℕ). string_at BadPolicy l >>= behind_policy) (six (block (policy_of long)) a b c d e)
    ∙ ap (λ (r : Result (List ℕ × List ℕ) WireFault). r >>= behind_policy) (string BadPolicy (policy_of long) rest (policy_short long))
    ∙ ap (λ (r : Result Bool WireFault). r >>= behind_long rest) (policy_again long)
    ∙ ap (λ (r : Result (ℕ × List ℕ) WireFault). r >>= behind_first long) (number32 keys.first (b ++ (c ++ (d ++ (e ++ [])))) (omega (arith, is.tokens, is.some)))
    ∙ ap (λ (r : Result (ℕ × List ℕ) WireFault). r >>= behind_count long keys.first) (number32 (length sets) (c ++ (d ++ (e ++ []))) (omega (arith, is.few)))
    ∙ ap (λ (r : Result (Unit {0}) WireFault). r >>= behind_tokens long keys.first (length sets) (c ++ (d ++ (e ++ [])))) (tokens_again keys.first (length sets) is.some is.few is.tokens)
    ∙ ap (λ (r : Result (ArrayVec KeySet × List ℕ) WireFault). r >>= behind_sets long keys.first) (listed_again long keys.first sets (d ++ (e ++ [])) is.sets)
    ∙ ap (λ (r : Result (ℕ × List ℕ) WireFault). r >>= behind_next long keys.first (record { items = zeroed sets })) (number64 keys.next (e ++ []) is.next)
    ∙ ap (λ (r : Result (ℕ × List ℕ) WireFault). r >>= behind_lifetime long keys.first (record { items = zeroed sets }) keys.next) (number64 keys.lifetime [] is.lifetime)
    ∙ ap (λ (o : Option (ArrayVec KeySet)). moments_in o >>= behind_moments long keys.first keys.next keys.lifetime []) (timed_again keys.next keys.lifetime sets is.fit))
