-- No pair comes twice: not in the datagrams of a sender, nor in what a guard accepts.
use Rattle.std.proofs.Common.{◌≡◌, ◌≢◌, ℕ, zero, suc, ◌+◌, ◌<◌, ◌≤◌, ◌∙◌, Bool, true, false, not, ◌&&◌, List, [], ◌∷◌, ◌++◌, length, get_or, map, filter, refl, sym, ap, subst, arith, append-nil, inl, inr, nat_lt, ◌==◌, cond, Option, Some, None}
use Rattle.std.specs.Prelude.{◌⊎◌, AllPairs, is_some, if◌then◌else◌}
use Rattle.std.proofs.lemmas.Bool.Decides.{nat_tests}
use Rattle.std.proofs.lemmas.List.Kept.{AllPairs-cons}
use Rattle.replay_window.specs.Taken.{is_taken, is_too_old}
use Rattle.group_keys.specs.KeySets.{current}
use Rattle.group_keys.specs.declared.key_set.KeySet.{KeySet}
use Rattle.message_guard.specs.declared.keys.TokenKeys.{TokenKeys}
use Rattle.message_guard.specs.Acceptance.{Accepted, numbers_of, highest, is_acceptable, AreAcceptable, GuardCall, Accepts, Renews, AreAcceptableCalls, accepted_in, keys_now}
use Rattle.message_guard.specs.Protection.{keys_in, keys_with}
use Rattle.message_guard.specs.declared.mode.Mode.{Mode}
use Rattle.message_guard.specs.Senders.{SenderState, SenderStep, Life, IsBehind, BeginBehind, AreLives, datagrams_over, TurnTo, Renew, Front, Protect, turned, renewed, turned_by, advanced, front_value, made_of, numbers_left, MayProtect, IsSender, AreAllowed, after, fronts_in, datagrams_of, number_of, HaveOtherNumbers}
use Rattle.uadp_header.specs.Headers.{SecurityValue}
use Rattle.uadp_header.specs.Reading.{IsSecured}
use Rattle.message_guard.proofs.Carrying.{one_security, made_carries}
use Rattle.message_guard.proofs.Restoring.{number_is}

-- the least number that the next datagram under the token can have: that of the last front, if it serves none yet
abbrev next_number : Option Mode → ℕ → ℕ
next_number None used = used + 1
next_number (Some mode) used = used

-- the pair is that of a later datagram: its token is higher, or is the same and its number is not below
abbrev IsAfter : SenderState → ℕ × ℕ → Type 0
IsAfter s pair = (s.keys.token < pair.0) ⊎ ((pair.0 ≡ s.keys.token) × (next_number s.fronted s.used ≤ pair.1))

after_turned_by : (s : SenderState) (set : KeySet) (pair : ℕ × ℕ) (b : Bool) → nat_lt s.keys.token set.token ≡ b
    → IsAfter (if b then record s { keys = keys_in set; used = 0; fronted = None } else s) pair → IsAfter s pair
after_turned_by s set pair true higher (inl above) = inl (grind (arith, nat_tests))
after_turned_by s set pair true higher (inr same) = inl (grind (arith, nat_tests))
after_turned_by s set pair false higher after = after

after_turned : (s : SenderState) (o : Option KeySet) (pair : ℕ × ℕ) → IsAfter (turned_by s o) pair → IsAfter s pair
after_turned s None pair after = after
after_turned s (Some set) pair after = after_turned_by s set pair (nat_lt s.keys.token set.token) refl after

-- a number after the last one is not below the next
not_below : (o : Option Mode) (used number : ℕ) → used + 1 ≤ number → next_number o used ≤ number
not_below None used number above = above
not_below (Some mode) used number above = omega arith

after_next : (s : SenderState) (pair : ℕ × ℕ) → (s.keys.token < pair.0) ⊎ ((pair.0 ≡ s.keys.token) × (s.used + 1 ≤ pair.1)) → IsAfter s pair
after_next s pair (inl above) = inl above
after_next s pair (inr same) = inr (same.0, not_below s.fronted s.used pair.1 same.1)

-- whatever the datagram is read with, this is its token and number
abbrev Carries : List ℕ → ℕ × ℕ → Type 0
Carries datagram pair = (a : SecurityValue) (at : ℕ) → IsSecured datagram (Some a) at → number_of a ≡ pair

made_with : (mode : Mode) (s : SenderState) (datagram : List ℕ) (payload : ℕ) → IsSender s → MayProtect mode s datagram payload
    → Carries (made_of mode s datagram payload) (s.keys.token, s.used)
made_with mode s datagram payload is may a at read =
    let same : Path (Option SecurityValue) (Some a) (Some (front_value mode s)) =
    one_security (made_of mode s datagram payload) (Some a) (Some (front_value mode s)) at payload read (made_carries mode s datagram payload may.header) in
    let a_is : a ≡ front_value mode s = cc in
    ap number_of a_is
    ∙ ap (λ (n : ℕ). (s.keys.token, n)) (number_is s.random s.used is.random is.used)

-- a sender stays one
sender_turned_by : (s : SenderState) (set : KeySet) (b : Bool) → IsSender s → IsSender (if b then record s { keys = keys_in set; used = 0; fronted = None } else s)
sender_turned_by s set true is = record { random = is.random; used = omega arith }
sender_turned_by s set false is = is

sender_turned : (s : SenderState) (o : Option KeySet) → IsSender s → IsSender (turned_by s o)
sender_turned s None is = is
sender_turned s (Some set) is = sender_turned_by s set (nat_lt s.keys.token set.token) is

sender_renewed : (s : SenderState) (sets : List KeySet) → IsSender s → IsSender (renewed s sets)
sender_renewed s sets is = record { random = is.random; used = is.used }

sender_advanced : (s : SenderState) (mode : Mode) → IsSender s → s.used < 4294967295 → IsSender (advanced mode s)
sender_advanced s mode is room = record { random = is.random; used = omega arith }

sender_served : (s : SenderState) → IsSender s → IsSender (record s { fronted = None })
sender_served s is = record { random = is.random; used = is.used }

-- the datagram carries the pair of a later one
abbrev IsLater : SenderState → List ℕ → Type 0
IsLater s datagram = (pair : ℕ × ℕ) × (Carries datagram pair × IsAfter s pair)

-- the first datagram after a front has its number
served_after : (s : SenderState) (mode : Mode) → s.fronted ≡ Some mode → IsAfter s (s.keys.token, s.used)
served_after s mode is =
    let least : next_number s.fronted s.used ≡ s.used = ap (λ (o : Option Mode). next_number o s.used) is in
    inr (refl, omega (arith, least))

-- each of these datagrams is a later one
abbrev AreLater : SenderState → List (List ℕ) → Type 0
AreLater s datagrams = (i : ℕ) (d : List ℕ) → i < length datagrams → IsLater s (get_or datagrams i d)

all_later : (s : SenderState) (steps : List SenderStep) (rest : List (List ℕ)) → IsSender s → AreAllowed s steps → AreLater (after s steps) rest
    → AreLater s (datagrams_of s steps ++ rest)
all_later s [] rest is are behind i d within = behind i d within
all_later s (TurnTo now ∷ steps) rest is are behind i d within =
    let later = all_later (turned s now) steps rest (sender_turned s (current s.sets now) is) are.1 behind i d within in
    (later.0, (later.1.0, after_turned s (current s.sets now) later.0 later.1.1))
all_later s (Renew sets ∷ steps) rest is are behind i d within =
    let later = all_later (renewed s sets) steps rest (sender_renewed s sets is) are.1 behind i d within in
    (later.0, (later.1.0, later.1.1))
all_later s (Front mode ∷ steps) rest is are behind i d within =
    let later = all_later (advanced mode s) steps rest (sender_advanced s mode is are.0.1) are.1 behind i d within in
    (later.0, (later.1.0, after_next s later.0 later.1.1))
all_later s (Protect mode datagram payload ∷ steps) rest is are behind zero d within =
    ((s.keys.token, s.used), (made_with mode s datagram payload is are.0, served_after s mode are.0.fronted))
all_later s (Protect mode datagram payload ∷ steps) rest is are behind (suc i) d within =
    let later = all_later (record s { fronted = None }) steps rest (sender_served s is) are.1 behind i d (omega arith) in
    (later.0, (later.1.0, after_next s later.0 later.1.1))

not_itself : (s : SenderState) (pair : ℕ × ℕ) → IsAfter (record s { fronted = None }) pair → (s.keys.token, s.used) ≢ pair
not_itself s pair (inl above) same = let token : s.keys.token ≡ pair.0 = ap (λ (p : ℕ × ℕ). p.0) same in absurd (omega arith)
not_itself s pair (inr after) same = let number : s.used ≡ pair.1 = ap (λ (p : ℕ × ℕ). p.1) same in absurd (omega arith)

others_later : (s : SenderState) (one other : List ℕ) → Carries one (s.keys.token, s.used) → IsLater (record s { fronted = None }) other → HaveOtherNumbers one other
others_later s one other carries later a b at end first second same =
    not_itself s later.0 later.1.1 (sym (carries a at first) ∙ same ∙ later.1.0 b end second)

-- the datagrams of a sender, and behind them others that are later than where it ended
numbered_with : (s : SenderState) (steps : List SenderStep) (rest : List (List ℕ)) → IsSender s → AreAllowed s steps → AreLater (after s steps) rest
    → AllPairs HaveOtherNumbers rest → AllPairs HaveOtherNumbers (datagrams_of s steps ++ rest)
numbered_with s [] rest is are behind others = others
numbered_with s (TurnTo now ∷ steps) rest is are behind others =
    numbered_with (turned s now) steps rest (sender_turned s (current s.sets now) is) are.1 behind others
numbered_with s (Renew sets ∷ steps) rest is are behind others =
    numbered_with (renewed s sets) steps rest (sender_renewed s sets is) are.1 behind others
numbered_with s (Front mode ∷ steps) rest is are behind others =
    numbered_with (advanced mode s) steps rest (sender_advanced s mode is are.0.1) are.1 behind others
numbered_with s (Protect mode datagram payload ∷ steps) rest is are behind others =
    let served : SenderState = record s { fronted = None } in
    AllPairs-cons HaveOtherNumbers (made_of mode s datagram payload) (datagrams_of served steps ++ rest)
    (λ i d within. others_later s (made_of mode s datagram payload) (get_or (datagrams_of served steps ++ rest) i d)
    (made_with mode s datagram payload is are.0) (all_later served steps rest (sender_served s is) are.1 behind i d within))
    (numbered_with served steps rest (sender_served s is) are.1 behind others)

none_later : (s : SenderState) → AreLater s []
none_later s = λ i d within. absurd (omega arith)

no_pairs : AllPairs HaveOtherNumbers []
no_pairs = λ i j d less within. absurd (omega arith)

pub numbered_once : (s : SenderState) (steps : List SenderStep) → IsSender s → AreAllowed s steps → AllPairs HaveOtherNumbers (datagrams_of s steps)
numbered_once s steps is are =
    subst (λ (ds : List (List ℕ)). AllPairs HaveOtherNumbers ds) (append-nil (datagrams_of s steps))
    (numbered_with s steps [] is are (none_later (after s steps)) no_pairs)

-- what is later than where a life began is later than where the one before it ended
after_ended : (ended begun : SenderState) (pair : ℕ × ℕ) → IsBehind ended begun → IsAfter begun pair → IsAfter ended pair
after_ended ended begun pair is after = by_token is.above (begun_next begun pair is.unfronted after)
  where
    begun_next : (s : SenderState) (pair : ℕ × ℕ) → s.fronted ≡ None → IsAfter s pair → (s.keys.token < pair.0) ⊎ ((pair.0 ≡ s.keys.token) × (s.used + 1 ≤ pair.1))
    begun_next s pair none (inl above) = inl above
    begun_next s pair none (inr same) =
        let least : next_number s.fronted s.used ≡ s.used + 1 = ap (λ (o : Option Mode). next_number o s.used) none in
        inr (same.0, omega (arith, least, same.1))

    by_token : (ended.keys.token < begun.keys.token) ⊎ ((begun.keys.token ≡ ended.keys.token) × (ended.used ≤ begun.used))
        → (begun.keys.token < pair.0) ⊎ ((pair.0 ≡ begun.keys.token) × (begun.used + 1 ≤ pair.1)) → IsAfter ended pair
    by_token (inl higher) (inl above) = inl (omega arith)
    by_token (inl higher) (inr same) = let at = same.0 in inl (omega (arith, at))
    by_token (inr one) (inl above) = let at = one.0 in inl (omega (arith, at))
    by_token (inr one) (inr same) =
        let at = one.0 in let to = same.0 in let low = one.1 in let high = same.1 in
        after_next ended pair (inr (to ∙ at, omega (arith, low, high)))

lives_later : (lives : List Life) (ended : SenderState) → AreLives lives → BeginBehind ended lives → AreLater ended (datagrams_over lives)
lives_later [] ended are behind = none_later ended
lives_later (life ∷ lives) ended are behind = λ i d within.
    let later = all_later life.first life.steps (datagrams_over lives) are.0 are.1
    (lives_later lives (after life.first life.steps) are.3 are.2) i d within in
    (later.0, (later.1.0, after_ended ended life.first later.0 behind later.1.1))

pub numbered_over : (lives : List Life) → AreLives lives → AllPairs HaveOtherNumbers (datagrams_over lives)
numbered_over [] are = no_pairs
numbered_over (life ∷ lives) are =
    numbered_with life.first life.steps (datagrams_over lives) are.0 are.1
    (lives_later lives (after life.first life.steps) are.3 are.2)
    (numbered_over lives are.3)

-- the numbers that a sender has left
turned_no_further : (s : SenderState) (o : Option KeySet) → (turned_by s o).used ≤ s.used
turned_no_further s None = omega arith
turned_no_further s (Some set) = by_test (nat_lt s.keys.token set.token)
  where
    by_test : (b : Bool) → (if b then record s { keys = keys_in set; used = 0; fronted = None } else s).used ≤ s.used
    by_test true = omega arith
    by_test false = omega arith

pub used_after : (s : SenderState) (steps : List SenderStep) → (after s steps).used ≤ s.used + fronts_in steps
used_after s [] = omega arith
used_after s (TurnTo now ∷ steps) = let rest = used_after (turned s now) steps in let less = turned_no_further s (current s.sets now) in omega (arith, rest, less)
used_after s (Renew sets ∷ steps) = let rest = used_after (renewed s sets) steps in omega (arith, rest)
used_after s (Front mode ∷ steps) = let rest = used_after (advanced mode s) steps in omega (arith, rest)
used_after s (Protect mode datagram payload ∷ steps) = let rest = used_after (record s { fronted = None }) steps in omega (arith, rest)

pub numbers_remain : (s : SenderState) (steps : List SenderStep) → 1024 ≤ numbers_left s → fronts_in steps < 1024 → (after s steps).used < 4294967295
numbers_remain s steps unspent few = let most = used_after s steps in omega (arith, most)

-- a pair of the list is among the numbers of its token
any_under : (b : Bool) (number : ℕ) (pair : ℕ × ℕ) (rest : Accepted) → is_taken (map (λ (p : ℕ × ℕ). p.1) rest) number ≡ true
    → is_taken (map (λ (p : ℕ × ℕ). p.1) (cond b (pair ∷ rest) rest)) number ≡ true
any_under true number pair rest any = grind (arith, nat_tests)
any_under false number pair rest any = any

taken_first : (b : Bool) (number : ℕ) (pair : ℕ × ℕ) (rest : Accepted) → b ≡ true → pair.1 ≡ number
    → is_taken (map (λ (p : ℕ × ℕ). p.1) (cond b (pair ∷ rest) rest)) number ≡ true
taken_first true number pair rest here same = grind (arith, nat_tests)
taken_first false number pair rest here same = cc

taken_under : (accepted : Accepted) (token number i : ℕ) (d : ℕ × ℕ) → i < length accepted → get_or accepted i d ≡ (token, number)
    → is_taken (numbers_of accepted token) number ≡ true
taken_under [] token number i d within here = absurd (omega arith)
taken_under (pair ∷ before) token number zero d within here =
    let same : pair.0 ≡ token = ap (λ (p : ℕ × ℕ). p.0) here in
    taken_first (pair.0 == token) number pair (filter (λ (p : ℕ × ℕ). p.0 == token) before) (grind (arith, nat_tests)) (ap (λ (p : ℕ × ℕ). p.1) here)
taken_under (pair ∷ before) token number (suc i) d within here =
    any_under (pair.0 == token) number pair (filter (λ (p : ℕ × ℕ). p.0 == token) before) (taken_under before token number i d (omega arith) here)

refused : (keys : List TokenKeys) (before : Accepted) (token number : ℕ) → is_acceptable keys before token number ≡ true
    → is_taken (numbers_of before token) number ≡ false
refused keys before token number acceptable =
    third (is_some (keys_with keys token)) (nat_lt token (highest before)) (is_taken (numbers_of before token) number)
    (is_too_old (numbers_of before token) number) acceptable
  where
    third : (a b c e : Bool) → (a && not b && not c && not e) ≡ true → c ≡ false
    third a b false e all = refl
    third false b true e all = cc
    third true true true e all = cc
    third true false true e all = cc

pub accepted_once : (keys : List TokenKeys) (accepted : Accepted) → AreAcceptable keys accepted → AllPairs (λ a b. a ≢ b) accepted
accepted_once keys [] are = λ i j d less within. absurd (omega arith)
accepted_once keys (pair ∷ before) are =
    AllPairs-cons (λ (a b : ℕ × ℕ). a ≢ b) pair before
    (λ i d within same.
    let taken : is_taken (numbers_of before pair.0) pair.1 ≡ true = taken_under before pair.0 pair.1 i d within (sym same) in
    let fresh : is_taken (numbers_of before pair.0) pair.1 ≡ false = refused keys before pair.0 pair.1 are.0 in cc)
    (accepted_once keys before are.1)

-- whatever rings came in between
pub called_once : (keys : List TokenKeys) (calls : List GuardCall) → AreAcceptableCalls keys calls → AllPairs (λ a b. a ≢ b) (accepted_in calls)
called_once keys [] are = λ i j d less within. absurd (omega arith)
called_once keys (Renews others ∷ before) are = called_once keys before are
called_once keys (Accepts pair ∷ before) are =
    AllPairs-cons (λ (a b : ℕ × ℕ). a ≢ b) pair (accepted_in before)
    (λ i d within same.
    let taken : is_taken (numbers_of (accepted_in before) pair.0) pair.1 ≡ true = taken_under (accepted_in before) pair.0 pair.1 i d within (sym same) in
    let fresh : is_taken (numbers_of (accepted_in before) pair.0) pair.1 ≡ false = refused (keys_now keys before) (accepted_in before) pair.0 pair.1 are.0 in cc)
    (called_once keys before are.1)
