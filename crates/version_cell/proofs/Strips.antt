-- Words that stand for 151, and tokens of one width.
use Rattle.std.proofs.Common.{◌≡◌, ℕ, ◌+◌, ◌-◌, ◌≤◌, Bool, true, false, List, ◌++◌, drop, set, refl, sym, ap, ◌∙◌, subst, arith, nat_eq, true≢false}
use Rattle.std.specs.Prelude.{if◌then◌else◌, replicate}
use Rattle.std.proofs.lemmas.List.{append_cancel_right, drop-replicate}
use lib.Pointwise.{pointwise, bytes_decides}
use Rattle.crossbeam_utils.specs.Register.{Forks, Turns}
use Rattle.atomic_table.specs.declared.shared.Seat.{Seat}
use Rattle.crossbeam_utils.specs.Seq.{cell_view}
use Rattle.crossbeam_utils.specs.declared.atomic.seq_cell.Doing.{Doing}
use Rattle.version_cell.specs.declared.rule.View.{View}
use Rattle.version_cell.specs.declared.strip.Strip.{Strip}
use Rattle.version_cell.specs.declared.strip.Strip.TheVariants as strip
use Rattle.version_cell.specs.declared.strip.Seats.{Seats}
use Rattle.version_cell.specs.Strips.{table_of, seat_in}
use Rattle.version_cell.specs.Rule.{Kept}
use Rattle.version_cell.specs.Widths.{widened, Stands, StandsIn}

-- equal words stand for equal words, and others for others
pub same_test : (n : ℕ) (x y : List ℕ) → pointwise nat_eq x y ≡ pointwise nat_eq (widened n x) (widened n y)
same_test n x y = go (pointwise nat_eq x y) (pointwise nat_eq (widened n x) (widened n y)) refl refl
  where
    go : (a b : Bool) → pointwise nat_eq x y ≡ a → pointwise nat_eq (widened n x) (widened n y) ≡ b → a ≡ b
    go true true e k = refl
    go false false e k = refl
    go true false e k = absurd (true≢false (sym ((bytes_decides (widened n x) (widened n y)).1 (ap (widened n) ((bytes_decides x y).0 e))) ∙ k))
    go false true e k = absurd (true≢false (sym ((bytes_decides x y).1 (append_cancel_right x y (replicate (151 - n) 0) ((bytes_decides (widened n x) (widened n y)).0 k))) ∙ e))

pub same_answer : (n : ℕ) (x current wide_current : List ℕ) → widened n current ≡ wide_current → pointwise nat_eq (widened n x) wide_current ≡ pointwise nat_eq x current
same_answer n x current wide_current is = sym (same_test n x current ∙ ap (pointwise nat_eq (widened n x)) is)

-- an exchange of the words that stand for all is one of all
pub exchanged_beginning : (n : ℕ) (x current new wide_current wide_new : List ℕ) → widened n current ≡ wide_current → widened n new ≡ wide_new
    → widened n (if pointwise nat_eq x current then new else x) ≡ (if pointwise nat_eq (widened n x) wide_current then wide_new else widened n x)
exchanged_beginning n x current new wide_current wide_new is is_new =
    go (pointwise nat_eq x current) (pointwise nat_eq (widened n x) wide_current) refl refl
    (sym (same_answer n x current wide_current is))
  where
    go : (a b : Bool) → pointwise nat_eq x current ≡ a → pointwise nat_eq (widened n x) wide_current ≡ b → pointwise nat_eq x current ≡ pointwise nat_eq (widened n x) wide_current
        → widened n (if a then new else x) ≡ (if b then wide_new else widened n x)
    go true true _ _ _ = is_new
    go false false _ _ _ = refl
    go true false e k same = absurd (true≢false (sym e ∙ same ∙ k))
    go false true e k same = absurd (true≢false (sym k ∙ sym same ∙ e))

-- so what the rule lets be done to all words it lets be done to those that stand for them
pub turns_beginning : (n pass : ℕ) (v : View) (current new wide_current wide_new : List ℕ) (Then : View → List ℕ → List ℕ → View → Type 0) → widened n current ≡ wide_current → widened n new ≡ wide_new
    → Turns Kept pass v (λ x. if pointwise nat_eq x wide_current then wide_new else x) Then
    → Turns (λ words views. Kept (widened n words) views) pass v (λ x. if pointwise nat_eq x current then new else x) (λ u x y w. Then u (widened n x) (widened n y) w)
turns_beginning n pass v current new wide_current wide_new Then is is_new may x views h at =
    let r = may (widened n x) views h at in
    let same = exchanged_beginning n x current new wide_current wide_new is is_new in
    (r.0, subst (λ (y : List ℕ). Kept y (set views pass r.0)) (sym same) r.1, subst (λ (y : List ℕ). Then v (widened n x) y r.0) (sym same) r.2)

pub swaps_beginning : (n pass : ℕ) (v : View) (new wide_new : List ℕ) (Then : View → List ℕ → List ℕ → View → Type 0) → widened n new ≡ wide_new
    → Turns Kept pass v (λ _. wide_new) Then → Turns (λ words views. Kept (widened n words) views) pass v (λ _. new) (λ u x y w. Then u (widened n x) (widened n y) w)
swaps_beginning n pass v new wide_new Then is may x views h at =
    let r = may (widened n x) views h at in
    (r.0, subst (λ (y : List ℕ). Kept y (set views pass r.0)) (sym is) r.1, subst (λ (y : List ℕ). Then v (widened n x) y r.0) (sym is) r.2)

pub wide_parts : (n : ℕ) (words self zeros : List ℕ) → self ≡ words → zeros ≡ replicate 151 0 → self ++ drop n zeros ≡ widened n words
wide_parts n words self zeros e k = (λ i. e i ++ drop n (k i)) ∙ ap (λ l. words ++ l) (drop-replicate n 151 0)

-- a token of one width, and the words of that width
module _ (all one : Seats) (p : Seat (List ℕ) (Doing (List ℕ) View)) (is : all ≡ one) (view_is : seat_in all ≡ p) where
  pub seat_here : seat_in one ≡ p
  seat_here = sym (ap seat_in is) ∙ view_is

  pub own_here : (s t : Strip) → s ≡ t → p.table_id ≡ table_of s → (seat_in one).table_id ≡ table_of t
  own_here s t e own = ap (λ (u : Seat (List ℕ) (Doing (List ℕ) View)). u.table_id) seat_here ∙ own ∙ ap table_of e

  pub turns_here : (f : List ℕ → List ℕ) (Then : View → List ℕ → List ℕ → View → Type 0) → Turns Kept p.id (cell_view p) f Then → Turns Kept (seat_in one).id (cell_view (seat_in one)) f Then
  turns_here f Then may = subst (λ (u : Seat (List ℕ) (Doing (List ℕ) View)). Turns Kept u.id (cell_view u) f Then) (sym seat_here) may

  pub forks_here : (left right : View → View) → Forks Kept p.id (cell_view p) (left (cell_view p)) (right (cell_view p))
      → Forks Kept (seat_in one).id (cell_view (seat_in one)) (left (cell_view (seat_in one))) (right (cell_view (seat_in one)))
  forks_here left right may = subst (λ (u : Seat (List ℕ) (Doing (List ℕ) View)). Forks Kept u.id (cell_view u) (left (cell_view u)) (right (cell_view u))) (sym seat_here) may

pub stands_here : (s t : Strip) (n : ℕ) (words : List ℕ) → s ≡ t → (table_of t).words ≡ n + 1 → StandsIn (table_of s) words → Stands n words
stands_here s t n words e wide h = subst (λ (k : ℕ). Stands k words) (let w = ap (λ (u : Strip). (table_of u).words) e in let k : (table_of s).words - 1 ≡ n = omega (arith, w, wide) in k) h

pub wide_at_most : (s : Strip) → (table_of s).words ≤ 152
wide_at_most (strip.Narrow words) = let w = words.wide.0 in omega (arith, w)
wide_at_most (strip.Short words) = let w = words.wide.0 in omega (arith, w)
wide_at_most (strip.Long words) = let w = words.wide.0 in omega (arith, w)
wide_at_most (strip.Whole words) = let w = words.wide.0 in omega (arith, w)

pub wide_at_least : (s : Strip) → 27 ≤ (table_of s).words
wide_at_least (strip.Narrow words) = let w = words.wide.0 in omega (arith, w)
wide_at_least (strip.Short words) = let w = words.wide.0 in omega (arith, w)
wide_at_least (strip.Long words) = let w = words.wide.0 in omega (arith, w)
wide_at_least (strip.Whole words) = let w = words.wide.0 in omega (arith, w)
