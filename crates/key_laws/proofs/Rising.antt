-- Tokens never fall: neither a sender's over its calls, nor those of the pairs that a guard accepts.
use Rattle.std.proofs.Common.{◌≡◌, refl, arith, ℕ, ◌≤◌, nat_lt, not, ◌&&◌, Bool, true, false, List, [], ◌∷◌, All, Option, Some, None}
use Rattle.std.specs.Prelude.{AllPairs, if◌then◌else◌, is_some}
use Rattle.std.proofs.lemmas.Bool.Decides.{nat_tests}
use Rattle.std.proofs.lemmas.List.Elements.{All-cons, All-nil, All-weaker}
use Rattle.std.proofs.lemmas.List.Kept.{AllPairs-cons}
use Rattle.replay_window.specs.Taken.{is_taken, is_too_old}
use Rattle.group_keys.specs.declared.key_set.KeySet.{KeySet}
use Rattle.group_keys.specs.KeySets.{current}
use Rattle.message_guard.specs.declared.keys.TokenKeys.{TokenKeys}
use Rattle.message_guard.specs.Acceptance.{Accepted, Accepts, AreAcceptableCalls, GuardCall, Renews, accepted_in, highest, is_acceptable, keys_now, numbers_of}
use Rattle.message_guard.specs.Protection.{keys_in, keys_with}
use Rattle.message_guard.specs.Senders.{SenderState, SenderStep, TurnTo, Renew, Front, Protect, advanced, after, renewed, turned, turned_by}

-- ---- a sender

turned_up : (s : SenderState) (o : Option KeySet) → s.keys.token ≤ (turned_by s o).keys.token
turned_up s None = omega arith
turned_up s (Some set) = by_test (nat_lt s.keys.token set.token) refl
  where
    by_test : (higher : Bool) → nat_lt s.keys.token set.token ≡ higher
        → s.keys.token ≤ (if higher then record s { keys = keys_in set; used = 0; fronted = None } else s).keys.token
    by_test true above = grind (arith, nat_tests, above)
    by_test false below = omega arith

pub token_up : (s : SenderState) (steps : List SenderStep) → s.keys.token ≤ (after s steps).keys.token
token_up s [] = omega arith
token_up s (TurnTo now ∷ steps) =
    let once = turned_up s (current s.sets now) in
    let rest = token_up (turned s now) steps in
    omega (arith, once, rest)
token_up s (Renew sets ∷ steps) = let rest = token_up (renewed s sets) steps in omega (arith, rest)
token_up s (Front mode ∷ steps) = let rest = token_up (advanced mode s) steps in omega (arith, rest)
token_up s (Protect mode datagram payload ∷ steps) = let rest = token_up (record s { fronted = None }) steps in omega (arith, rest)

-- ---- a guard

-- the token of an acceptable pair isn't below the highest
not_low : (keys : List TokenKeys) (accepted : Accepted) (token number : ℕ) → is_acceptable keys accepted token number ≡ true → highest accepted ≤ token
not_low keys accepted token number acceptable =
    let low =
    second (is_some (keys_with keys token)) (nat_lt token (highest accepted)) (not (is_taken (numbers_of accepted token) number))
    (not (is_too_old (numbers_of accepted token) number)) acceptable in
    grind (arith, nat_tests, low)
  where
    second : (a b c d : Bool) → (a && not b && c && d) ≡ true → b ≡ false
    second true false c d all = refl
    second true true c d all = absurd (cc)
    second false b c d all = absurd (cc)

-- and no pair has a token above it
none_above : (accepted : Accepted) → All (λ pair. pair.0 ≤ highest accepted) accepted
none_above [] = All-nil (λ (pair : ℕ × ℕ). pair.0 ≤ 0)
none_above (last ∷ before) =
    All-cons (λ (pair : ℕ × ℕ). pair.0 ≤ highest (last ∷ before)) last before (omega arith)
    (All-weaker (λ (pair : ℕ × ℕ). pair.0 ≤ highest before) (λ (pair : ℕ × ℕ). pair.0 ≤ highest (last ∷ before)) (λ pair below. omega (arith, below)) before (none_above before))

-- the earlier pair has no higher token
abbrev IsNoHigher : ℕ × ℕ → ℕ × ℕ → Type 0
IsNoHigher pair earlier = earlier.0 ≤ pair.0

one_more : (pair : ℕ × ℕ) (before : Accepted) → highest before ≤ pair.0 → AllPairs IsNoHigher before → AllPairs IsNoHigher (pair ∷ before)
one_more pair before least rise =
    AllPairs-cons IsNoHigher pair before
    (All-weaker (λ (earlier : ℕ × ℕ). earlier.0 ≤ highest before) (λ (earlier : ℕ × ℕ). earlier.0 ≤ pair.0) (λ earlier below. omega (arith, least, below)) before (none_above before))
    rise

pub none_lower : (first : List TokenKeys) (calls : List GuardCall) → AreAcceptableCalls first calls → AllPairs IsNoHigher (accepted_in calls)
none_lower first [] are = λ i j d less within. absurd (omega (arith, within))
none_lower first (Accepts pair ∷ before) are =
    one_more pair (accepted_in before) (not_low (keys_now first before) (accepted_in before) pair.0 pair.1 are.0) (none_lower first before are.1)
none_lower first (Renews keys ∷ before) are = none_lower first before are
