-- A taken number isn't fresh again, so each is taken once.
use Rattle.std.proofs.Common.{◌≡◌, ℕ, zero, suc, ◌+◌, ◌<◌, ◌≤◌, Bool, true, false, ◌||◌, cond, List, [], ◌∷◌, refl, sym, ap, subst, ◌∙◌, arith, ◌↔◌}
use Rattle.std.specs.Prelude.{◌==◌}
use Rattle.std.specs.List.{Contains, count_by}
use Rattle.std.proofs.lemmas.Bool.{eq-eqb, eqb-true, or_right, lt-leb, false_from_ne_true}
use Rattle.std.proofs.lemmas.List.Sums.{sum_by-cons}
use Rattle.replay_window.specs.declared.seen.Seen.TheVariants.{Fresh, Repeated, TooOld}
use Rattle.replay_window.specs.Taken.{greatest, is_too_old, is_taken, seen, WereFresh}
use Rattle.replay_window.proofs.TakenLemmas.{recent_when_fresh}

taken-contained : (taken : List ℕ) (number : ℕ) → Contains taken number → is_taken taken number ≡ true
taken-contained [] number h = absurd (omega (arith, h.1))
taken-contained (m ∷ taken) number (zero, less, is) = ap (λ b. b || is_taken taken number) (eq-eqb m number is)
taken-contained (m ∷ taken) number (suc k, less, is) = or_right (m == number) (is_taken taken number) (taken-contained taken number (k, omega (arith, less), is))

contained-taken : (taken : List ℕ) (number : ℕ) → is_taken taken number ≡ true → Contains taken number
contained-taken [] number e = absurd (let wrong : false ≡ true = e in cc)
contained-taken (m ∷ taken) number e = first_or_later (m == number) refl (contained-taken taken number)
  where
    first_or_later : (b : Bool) → (m == number) ≡ b → (is_taken taken number ≡ true → Contains taken number) → Contains (m ∷ taken) number
    first_or_later true is rest = (0, omega arith, eqb-true m number is)
    first_or_later false is rest =
        let h = rest (sym (ap (λ b. b || is_taken taken number) is) ∙ e) in (suc h.0, omega (arith, h.1), h.2)

not_fresh : (old new : Bool) (high : ℕ) → new ≡ true → cond old (TooOld high) (cond new Repeated Fresh) ≡ Fresh → ⊥
not_fresh true new high e fresh = cc
not_fresh false true high e fresh = cc
not_fresh false false high e fresh = cc

pub taken-not-fresh : (taken : List ℕ) (number : ℕ) → Contains taken number → seen taken number ≡ Fresh → ⊥
taken-not-fresh taken number h fresh = not_fresh (is_too_old taken number) (is_taken taken number) (greatest taken) (taken-contained taken number h) fresh

pub fresh-exactly : (taken : List ℕ) (number : ℕ) → (seen taken number ≡ Fresh) ↔ ((Contains taken number → ⊥) × (greatest taken < number + 1024))
fresh-exactly taken number = (
  λ fresh. (λ h. taken-not-fresh taken number h fresh, recent_when_fresh taken number fresh),
  λ h.
      let recent : is_too_old taken number ≡ false = lt-leb (number + 1024) (greatest taken) h.1 in
      let new : is_taken taken number ≡ false = false_from_ne_true (is_taken taken number) (λ e. h.0 (contained-taken taken number e)) in
      rw (recent, new) refl,
)

none-counted : (taken : List ℕ) (number : ℕ) → (Contains taken number → ⊥) → count_by (λ n. n == number) taken ≡ 0
none-counted [] number out = refl
none-counted (m ∷ taken) number out =
    let other : (m == number) ≡ false = false_from_ne_true (m == number) (λ e. out (0, omega arith, eqb-true m number e)) in
    sum_by-cons (λ n. cond (n == number) 1 0) m taken
    ∙ ap (λ b. cond b 1 0 + count_by (λ n. n == number) taken) other
    ∙ (let rest = none-counted taken number (λ h. out (suc h.0, omega (arith, h.1), h.2)) in omega (arith, rest))

pub taken-once : (taken : List ℕ) → WereFresh taken → (number : ℕ) → count_by (λ n. n == number) taken ≤ 1
taken-once [] were number = omega arith
taken-once (m ∷ taken) were number = once_on (m == number) refl (taken-once taken were.1 number)
  where
    more : count_by (λ n. n == number) (m ∷ taken) ≡ cond (m == number) 1 0 + count_by (λ n. n == number) taken
    more = sum_by-cons (λ n. cond (n == number) 1 0) m taken

    once_on : (b : Bool) → (m == number) ≡ b → count_by (λ n. n == number) taken ≤ 1 → count_by (λ n. n == number) (m ∷ taken) ≤ 1
    once_on true is rest =
        let same : m ≡ number = eqb-true m number is in
        let none = none-counted taken number (λ h. taken-not-fresh taken m (subst (Contains taken) (sym same) h) were.0) in
        omega (arith, more, ap {B = ℕ} (λ b. cond b 1 0) is, none)
    once_on false is rest = omega (arith, more, ap {B = ℕ} (λ b. cond b 1 0) is, rest)
