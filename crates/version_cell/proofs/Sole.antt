-- What the quotas give to the crates above: a sole author's list is the whole history, and an author that has no entries left gets none.
use Rattle.std.proofs.Common.{◌≡◌, ℕ, zero, suc, ◌<◌, ◌≤◌, Bool, true, false, eqb, cond, List, [], ◌∷◌, ◌++◌, length, refl, sym, ap, ◌∙◌, arith, length-append}
use Rattle.std.specs.Prelude.{Some}
use Rattle.std.specs.List.{All}
use Rattle.std.proofs.lemmas.List.{append-nil, nil_from_length}
use Rattle.std.proofs.lemmas.List.Elements.{All-weaker}
use Rattle.version_cell.specs.declared.rule.Entry.{Entry}
use Rattle.version_cell.specs.Histories.{StartsWith, own}
use Rattle.version_cell.specs.Terms.{IsEntry, IsLawful, IsSole, quota}
use Rattle.version_cell.specs.Known.{Known}
use Rattle.version_cell.specs.Passes.{SeesLawful, SeesMore}
use Rattle.version_cell.proofs.Logs.{total, length_by_author, own-append}

pub own_fits : (t : ℕ) (log : List Entry) → length (own t log) ≤ length log
own_fits t [] = omega arith
own_fits t (e ∷ log) = go (eqb e.author t) (own_fits t log)
  where
    go : (b : Bool) → length (own t log) ≤ length log → length (cond b (e ∷ own t log) (own t log)) ≤ suc (length log)
    go true h = omega arith
    go false h = omega arith

own_whole : (t : ℕ) (log : List Entry) → length log ≤ length (own t log) → own t log ≡ log
own_whole t [] h = refl
own_whole t (e ∷ log) h = go (eqb e.author t) (own_fits t log) (λ k. own_whole t log k) h
  where
    go : (b : Bool) → length (own t log) ≤ length log → (length log ≤ length (own t log) → own t log ≡ log) → suc (length log) ≤ length (cond b (e ∷ own t log) (own t log)) → cond b (e ∷ own t log) (own t log) ≡ e ∷ log
    go true f rec k = ap (λ l. e ∷ l) (rec (omega arith))
    go false f rec k = absurd (omega arith)

total_first : (n : ℕ) (f : ℕ → ℕ) → ((t : ℕ) → 0 < t → t < suc n → f t ≡ 0) → total (suc n) f ≡ f 0
unfolding total
total_first zero f h = omega arith
total_first (suc n) f h = let a = total_first n f (λ t k l. h t k (omega arith)) in let b = h (suc n) (omega arith) (omega arith) in omega (arith, a, b)

-- where all quotas but that of author 0 are 0, the history is its list
pub sole_author : (terms : List ℕ) (log : List Entry) → IsLawful terms log → IsSole terms → own 0 log ≡ log
sole_author terms log h none =
    let each : All (λ (e : Entry). e.author < 8) log = All-weaker (IsEntry 8 terms) (λ (e : Entry). e.author < 8) (λ e k. k.author) log h.entries in
    let a = length_by_author 8 log each in
    let b = total_first 7 (λ t. length (own t log)) (λ t k l. let c = h.within t l in let d = none t k l in omega arith) in
    own_whole 0 log (omega (arith, a, b))

-- so the sole author sees nothing new
pub sole_sees_nothing : (old new : Known) → SeesMore old new → old.author ≡ Some 0 → SeesLawful old → SeesLawful new → IsSole old.terms → new.seen ≡ old.seen
sole_sees_nothing old new more is lawful lawful' none =
    sym (sole_author new.terms new.seen lawful' (λ t k l. ap (quota t) more.terms ∙ none t k l)) ∙ more.own_same 0 is ∙ sole_author old.terms old.seen lawful none

-- an author with no entries left has the same entries in each longer history
pub filled : (terms : List ℕ) (log seen : List Entry) (t : ℕ) → t < 8 → IsLawful terms log → StartsWith log seen → length (own t seen) ≡ quota t terms → own t log ≡ own t seen
filled terms log seen t small h p full =
    let is = ap (own t) p.1 ∙ own-append t seen p.0 in
    let a = h.within t small in
    let none : length (own t p.0) ≡ 0 = omega (arith, ap length is, length-append (own t seen) (own t p.0)) in
    is ∙ ap (λ l. own t seen ++ l) (nil_from_length (own t p.0) none) ∙ append-nil (own t seen)
