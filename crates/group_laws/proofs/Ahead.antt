-- A sender that is ahead of what was accepted is accepted in order.
use Rattle.std.proofs.Common.{◌≡◌, refl, sym, ap, ◌∙◌, subst, arith, ℕ, ◌<◌, ◌≤◌, max, Bool, true, false, not, ◌&&◌, ◌||◌, cond, List, [], ◌∷◌, map, All, Option, Some, None}
use Rattle.std.specs.Prelude.{◌==◌, nat_lt, filter, is_some, if◌then◌else◌}
use Rattle.std.specs.List.{list_any}
use Rattle.std.proofs.lemmas.Bool.{eq-eqb}
use Rattle.std.proofs.lemmas.Bool.Decides.{nat_tests}
use Rattle.std.proofs.lemmas.List.Elements.{All-cons, All-head, All-nil, All-tail, All-weaker}
use Rattle.replay_window.specs.Taken.{greatest, is_taken, is_too_old}
use Rattle.message_guard.specs.declared.keys.TokenKeys.{TokenKeys}
use Rattle.message_guard.specs.Acceptance.{Accepted, highest, numbers_of, is_acceptable, raises}
use Rattle.message_guard.specs.Protection.{keys_in, keys_with}
use Rattle.message_guard.specs.Senders.{SenderState, turned, turned_by}
use Rattle.group_keys.specs.declared.key_set.KeySet.{KeySet}
use Rattle.group_keys.specs.KeySets.{current}
use Rattle.group_laws.specs.TurnDelivered.{IsSenderAhead}

-- so many numbers after the sender's last one were accepted, and none above them
pub record IsAheadBy (accepted : Accepted) (token most : ℕ) : Type 0 where
  pub not_above : highest accepted ≤ token
  pub numbers : All (λ number. number ≤ most) (numbers_of accepted token)

greatest-most : (numbers : List ℕ) (most : ℕ) → All (λ number. number ≤ most) numbers → greatest numbers ≤ most
greatest-most [] most all = omega arith
greatest-most (number ∷ numbers) most all =
    let here = All-head (λ (n : ℕ). n ≤ most) number numbers all in
    let rest = greatest-most numbers most (All-tail (λ (n : ℕ). n ≤ most) number numbers all) in
    omega (arith, here, rest)

not-taken : (numbers : List ℕ) (most number : ℕ) → most < number → All (λ number. number ≤ most) numbers → is_taken numbers number ≡ false
not-taken [] most number above all = refl
not-taken (other ∷ numbers) most number above all =
    let here = All-head (λ (n : ℕ). n ≤ most) other numbers all in
    let differs : (other == number) ≡ false = grind (arith, nat_tests) in
    ap (λ (b : Bool). b || list_any (λ (m : ℕ). m == number) numbers) differs
    ∙ not-taken numbers most number above (All-tail (λ (n : ℕ). n ≤ most) other numbers all)

pub next-acceptable : (keys : List TokenKeys) (accepted : Accepted) (token most number : ℕ) (k : TokenKeys) → keys_with keys token ≡ Some k → IsAheadBy accepted token most → most < number → is_acceptable keys accepted token number ≡ true
next-acceptable keys accepted token most number k known ahead above =
    let low_is = ahead.not_above in
    let great = greatest-most (numbers_of accepted token) most ahead.numbers in
    let low : nat_lt token (highest accepted) ≡ false = grind (arith, nat_tests) in
    let taken = not-taken (numbers_of accepted token) most number above ahead.numbers in
    let old : is_too_old (numbers_of accepted token) number ≡ false = grind (arith, nat_tests) in
    ap (λ (o : Option TokenKeys). is_some o && not (nat_lt token (highest accepted)) && not (is_taken (numbers_of accepted token) number) && not (is_too_old (numbers_of accepted token) number)) known
    ∙ ap (λ (b : Bool). not b && not (is_taken (numbers_of accepted token) number) && not (is_too_old (numbers_of accepted token) number)) low
    ∙ ap (λ (b : Bool). not b && not (is_too_old (numbers_of accepted token) number)) taken ∙ ap not old

pub next-ahead : (accepted : Accepted) (token most number : ℕ) → IsAheadBy accepted token most → most < number → IsAheadBy ((token, number) ∷ accepted) token number
next-ahead accepted token most number ahead above =
    let low = ahead.not_above in
    let own : (token == token) ≡ true = eq-eqb token token refl in
    record {
      not_above = omega (arith, low);
      numbers = subst (λ (b : Bool). All (λ (n : ℕ). n ≤ number) (map (λ (pair : ℕ × ℕ). pair.1) (cond b ((token, number) ∷ filter (λ (pair : ℕ × ℕ). pair.0 == token) accepted) (filter (λ (pair : ℕ × ℕ). pair.0 == token) accepted)))) (sym own)
          (All-cons (λ (n : ℕ). n ≤ number) number (numbers_of accepted token) (omega arith) (All-weaker (λ (n : ℕ). n ≤ most) (λ (n : ℕ). n ≤ number) (λ n le. omega (arith, le, above)) (numbers_of accepted token) ahead.numbers));
    }

-- a token that was accepted isn't raised again
pub not-raised : (accepted : Accepted) (token number : ℕ) → raises ((token, number) ∷ accepted) token ≡ false
not-raised accepted token number = not_above token (highest accepted)
  where
    not_above : (token high : ℕ) → nat_lt (max token high) token ≡ false
    not_above token high = grind (arith, nat_tests)

-- under a token above all others nothing was accepted
pub none-above : (accepted : Accepted) (token : ℕ) → highest accepted < token → numbers_of accepted token ≡ []
none-above [] token above = refl
none-above (pair ∷ accepted) token above =
    let here : pair.0 < token = omega (arith, above) in
    let later : highest accepted < token = omega (arith, above) in
    let differs : (pair.0 == token) ≡ false = grind (arith, nat_tests) in
    ap (λ (b : Bool). map (λ (p : ℕ × ℕ). p.1) (cond b (pair ∷ filter (λ (p : ℕ × ℕ). p.0 == token) accepted) (filter (λ (p : ℕ × ℕ). p.0 == token) accepted))) differs
    ∙ none-above accepted token later

-- a sender that goes over to a moment's keys stays ahead
pub turned-ahead : (accepted : Accepted) (now : ℕ) (s : SenderState) → IsSenderAhead accepted s → IsSenderAhead accepted (turned s now)
turned-ahead accepted now s ahead = on (current s.sets now)
  where
    on : (set : Option KeySet) → IsSenderAhead accepted (turned_by s set)
    on None = ahead
    on (Some set) = by (nat_lt s.keys.token set.token) refl
      where
        by : (b : Bool) → nat_lt s.keys.token set.token ≡ b → IsSenderAhead accepted (if b then record s { keys = keys_in set; used = 0; fronted = None } else s)
        by false e = ahead
        by true e =
            let less : s.keys.token < set.token = grind (arith, nat_tests) in
            let low = ahead.token in
            record {
              token = omega (arith, low, less);
              numbers = subst (λ (l : List ℕ). All (λ (n : ℕ). n ≤ 0) l) (sym (none-above accepted set.token (omega (arith, low, less)))) (All-nil (λ (n : ℕ). n ≤ 0));
            }
