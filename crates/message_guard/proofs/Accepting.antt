-- What the list of accepted pairs says of the highest token and of the numbers under a token.
use Rattle.std.proofs.Common.{◌≡◌, ℕ, ◌<◌, ◌≤◌, Bool, true, false, not, ◌&&◌, nat_lt, List, [], ◌∷◌, refl, sym, ◌∙◌, ap, subst, arith, ◌==◌, Option, Some, None, eqb, eqb-true}
use Rattle.std.specs.Prelude.{if◌then◌else◌}
use Rattle.std.specs.Option.{option_eq}
use Rattle.std.proofs.lemmas.Bool.Decides.{nat_tests}
use Rattle.replay_window.specs.Taken.{greatest, is_taken, is_too_old, seen}
use Rattle.replay_window.specs.Window.{IsFresh, IsWindowOf}
use Rattle.replay_window.specs.declared.seen.Seen.TheVariants.{Fresh, Repeated, TooOld}
use Rattle.replay_window.specs.declared.window.Window.{Window}
use Rattle.message_guard.specs.Acceptance.{Accepted, AreAcceptable, highest, is_acceptable, numbers_of}
use Rattle.message_guard.specs.declared.keys.TokenKeys.{TokenKeys}
use Rattle.message_guard.specs.declared.guard.Guard.{Guard}
use Rattle.message_guard.specs.declared.mode.Mode.{Mode}
use Rattle.message_guard.specs.declared.mode.Mode.TheVariants as modes
use Rattle.message_guard.specs.declared.pass.Pass1.{Pass1}
use Rattle.message_guard.specs.Guards.{high_in, IsGuardOf, IsPassOf}
use Rattle.message_guard.specs.Modes.{is_secured}
use Rattle.message_guard.specs.Opening.{accepts}

-- no number was accepted under a token above the highest
pub none_above : (accepted : Accepted) (token : ℕ) → highest accepted < token → numbers_of accepted token ≡ []
none_above [] token above = refl
none_above (pair ∷ before) token above =
    let rest : numbers_of before token ≡ [] = none_above before token (omega arith) in
    let other : (pair.0 == token) ≡ false = grind (arith, nat_tests) in
    rw other rest

-- nor under a token that isn't below the highest, and isn't it
pub none_under : (accepted : Accepted) (token : ℕ) → (high_in accepted ≡ Some token → ⊥)
    → ((high : ℕ) → high_in accepted ≡ Some high → high ≤ token) → numbers_of accepted token ≡ []
none_under [] token other below = refl
none_under (pair ∷ before) token other below =
    let top = highest (pair ∷ before) in
    let bound : top ≤ token = below top refl in
    let differs : top ≡ token → ⊥ = λ same. other (ap Some same) in
    none_above (pair ∷ before) token (omega (arith, differs))

pub fresh_of_none : (number : ℕ) → seen [] number ≡ Fresh
fresh_of_none number = grind (arith, nat_tests)

-- the highest token, where one was accepted
pub high_is : (accepted : Accepted) (token : ℕ) → high_in accepted ≡ Some token → highest accepted ≡ token
high_is [] token is = cc
high_is (pair ∷ before) token is = cc

pub high_or_zero : (accepted : Accepted) → high_in accepted ≡ None → highest accepted ≡ 0
high_or_zero [] is = refl
high_or_zero (pair ∷ before) is = cc

-- the numbers under the token of a pair that is accepted next
pub numbers_next : (accepted : Accepted) (token number : ℕ) → numbers_of ((token, number) ∷ accepted) token ≡ number ∷ numbers_of accepted token
numbers_next accepted token number =
    let same : (token == token) ≡ true = grind (arith, nat_tests) in
    rw same refl

-- the highest token once a pair is accepted whose token isn't below it
pub highest_next : (accepted : Accepted) (token number : ℕ) → ((high : ℕ) → high_in accepted ≡ Some high → high ≤ token)
    → highest ((token, number) ∷ accepted) ≡ token
highest_next [] token number below = omega arith
highest_next (pair ∷ before) token number below = let bound = below (highest (pair ∷ before)) refl in omega (arith, bound)

-- the window under the next pair's token: the old one, or a new one
pub window_next : (accepted : Accepted) (token number : ℕ) (window : Window)
    → ((high : ℕ) → high_in accepted ≡ Some high → high ≤ token) → IsWindowOf (number ∷ numbers_of accepted token) window
    → IsWindowOf (numbers_of ((token, number) ∷ accepted) (highest ((token, number) ∷ accepted))) window
window_next accepted token number window below is =
    let by_token : numbers_of ((token, number) ∷ accepted) (highest ((token, number) ∷ accepted)) ≡ number ∷ numbers_of accepted token =
    ap (λ (t : ℕ). numbers_of ((token, number) ∷ accepted) t) (highest_next accepted token number below) ∙ numbers_next accepted token number in
    subst (λ (taken : List ℕ). IsWindowOf taken window) (sym by_token) is

pub some_from_eq : (o : Option ℕ) (n : ℕ) → option_eq eqb o (Some n) ≡ true → o ≡ Some n
some_from_eq None n e = cc
some_from_eq (Some m) n e = ap Some (eqb-true m n e)

-- the window under the highest token, or an empty one under a higher, finds the number fresh
fresh_under : (accepted : Accepted) (window : Window) (token number : ℕ) → ((high : ℕ) → high_in accepted ≡ Some high → high ≤ token)
    → IsWindowOf (numbers_of accepted (highest accepted)) window → (high_in accepted ≡ Some token → IsFresh window number) → seen (numbers_of accepted token) number ≡ Fresh
fresh_under [] window token number below is fresh = fresh_of_none number
fresh_under (pair ∷ before) window token number below is fresh = by_test (highest (pair ∷ before) == token) refl
  where
    by_test : (b : Bool) → (highest (pair ∷ before) == token) ≡ b → seen (numbers_of (pair ∷ before) token) number ≡ Fresh
    by_test true test =
        let same : highest (pair ∷ before) ≡ token = grind (arith, nat_tests) in
        subst (λ (t : ℕ). seen (numbers_of (pair ∷ before) t) number ≡ Fresh) same (fresh (ap Some same) (numbers_of (pair ∷ before) (highest (pair ∷ before))) is)
    by_test false test =
        let other : high_in (pair ∷ before) ≡ Some token → ⊥ = λ is. let same = high_is (pair ∷ before) token is in grind (arith, nat_tests) in
        ap (λ (taken : List ℕ). seen taken number) (none_under (pair ∷ before) token other below) ∙ fresh_of_none number

fresh_parts : (old taken : Bool) (high : ℕ) → (if old then TooOld high else (if taken then Repeated else Fresh)) ≡ Fresh → (taken ≡ false) × (old ≡ false)
fresh_parts true taken high e = cc
fresh_parts false true high e = cc
fresh_parts false false high e = (refl, refl)

not_low : (accepted : Accepted) (token : ℕ) → ((high : ℕ) → high_in accepted ≡ Some high → high ≤ token) → nat_lt token (highest accepted) ≡ false
not_low [] token below = grind (arith, nat_tests)
not_low (pair ∷ before) token below = let bound = below (highest (pair ∷ before)) refl in grind (arith, nat_tests)

all_four : (known low taken old : Bool) → known ≡ true → low ≡ false → taken ≡ false → old ≡ false → (known && not low && not taken && not old) ≡ true
all_four known low taken old a b c d = cc

-- what a guard may accept is an acceptable pair
pub pass_acceptable : (guard : Guard) (pass : Pass1) (accepted : Accepted) → is_secured guard.mode ≡ true → IsPassOf guard pass → IsGuardOf accepted guard
    → is_acceptable guard.keys accepted pass.token pass.number ≡ true
pass_acceptable guard pass accepted secured may is =
    let below : (high : ℕ) → high_in accepted ≡ Some high → high ≤ pass.token = λ high at. may.not_lower secured high (is.high_is ∙ at) in
    let fresh : high_in accepted ≡ Some pass.token → IsFresh guard.window pass.number = λ at. may.fresh secured (is.high_is ∙ at) in
    let numbers = numbers_of accepted pass.token in
    let parts = fresh_parts (is_too_old numbers pass.number) (is_taken numbers pass.number) (greatest numbers)
    (fresh_under accepted guard.window pass.token pass.number below is.window_is fresh) in
    all_four _ _ _ _ (may.known secured) (not_low accepted pass.token below) parts.0 parts.1

pub still_acceptable : (mode : Mode) (keys : List TokenKeys) (pass : Pass1) (accepted : Accepted)
    → (is_secured mode ≡ true → is_acceptable keys accepted pass.token pass.number ≡ true) → AreAcceptable keys accepted → AreAcceptable keys (accepts mode pass accepted)
still_acceptable modes.None keys pass accepted pair are = are
still_acceptable modes.Sign keys pass accepted pair are = (pair refl, are)
still_acceptable modes.Encrypt keys pass accepted pair are = (pair refl, are)

-- where the mode isn't None the pair is accepted
pub accepts_pair : (mode : Mode) (pass : Pass1) (accepted : Accepted) (guard : Guard) → is_secured mode ≡ true
    → IsGuardOf ((pass.token, pass.number) ∷ accepted) guard → IsGuardOf (accepts mode pass accepted) guard
accepts_pair modes.None pass accepted guard e is = cc
accepts_pair modes.Sign pass accepted guard e is = is
accepts_pair modes.Encrypt pass accepted guard e is = is
