-- A token takes a number in a cell with no entries.
use Rattle.std.proofs.Common.{◌≡◌, ℕ, ◌+◌, ◌<◌, ◌≤◌, true, List, refl, sym, ap, ◌∙◌, subst, arith, nat_eq}
use Rattle.std.specs.Prelude.{Option, Some, None, max, if◌then◌else◌}
use lib.Pointwise.{pointwise, bytes_decides}
use Rattle.crossbeam_utils.specs.Register.{Turns}
use Rattle.version_cell.specs.declared.rule.View.{View}
use Rattle.version_cell.specs.Histories.{opening_words}
use Rattle.version_cell.specs.Views.{copied, fresh, joined, settled, view}
use Rattle.version_cell.specs.Rule.{Kept, spell}
use Rattle.version_cell.specs.Steps.{Enrols}
use Rattle.version_cell.proofs.Keeps.{enrols}

pub may_enrol : (v : View) (n : ℕ) (terms front next : List ℕ) → v ≡ fresh None n terms → n < 8 → front ≡ spell 0 n opening_words terms → next ≡ spell 0 (n + 1) opening_words terms
    → (place : ℕ) → Turns Kept place v (λ x. if pointwise nat_eq x front then next else x) Enrols
may_enrol v n terms front next is room e e' place =
    subst (λ (u : View). Turns Kept place u (λ x. if pointwise nat_eq x front then next else x) Enrols) (sym is)
    (enrols place (fresh None n terms) terms front next refl refl room e e')

pub has_number : (v : View) (n : ℕ) (terms front next x : List ℕ) (w : View) → v ≡ fresh None n terms → front ≡ spell 0 n opening_words terms → next ≡ spell 0 (n + 1) opening_words terms
    → pointwise nat_eq x front ≡ true → Enrols v x next w → w ≡ fresh (Some n) (n + 1) terms
has_number v n terms front next x w is e e' same told =
    let t = told.1 (λ k. raised (sym e' ∙ k ∙ (bytes_decides x front).0 same ∙ e)) in
    t.after ∙ ap (λ (u : View). view u.seen (Some u.count) (u.count + 1) u.terms u.olds) is
  where
    raised : spell 0 (n + 1) opening_words terms ≡ spell 0 n opening_words terms → ⊥
    raised k = let a : n + 1 ≡ n = cc in omega arith

-- the first token learns of the number
pub learns : (v w : View) (n : ℕ) (author : Option ℕ) (terms : List ℕ) → v ≡ fresh None n terms → w ≡ fresh author (n + 1) terms → settled (joined v (copied w)) ≡ fresh None (n + 1) terms
learns v w n author terms e e' =
    (λ i. settled (joined (e i) (copied (e' i)))) ∙ ap (λ k. fresh None k terms) (let a : max n (n + 1) ≡ n + 1 = omega arith in a)

-- a numbered token learns the last count
pub learns_all : (v w : View) (n t : ℕ) (terms : List ℕ) → n ≤ 8 → v ≡ fresh (Some t) n terms → w ≡ fresh None 8 terms → settled (joined v (copied w)) ≡ fresh (Some t) 8 terms
learns_all v w n t terms h e e' =
    (λ i. settled (joined (e i) (copied (e' i)))) ∙ ap (λ k. fresh (Some t) k terms) (let a : max n 8 ≡ 8 = omega arith in a)
