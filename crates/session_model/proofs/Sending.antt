-- Sends of a tick, one group after another.
use Rattle.std.proofs.Common.{◌≡◌, refl, ap, ◌∙◌, arith, ℕ, ◌+◌, Bool, true, false, cond, List, [], ◌∷◌, ◌++◌, length, map}
use Rattle.std.specs.Prelude.{zip, fold, count_by, not, ◌==◌, if◌then◌else◌}
use Rattle.std.proofs.lemmas.List.{map-append}
use Rattle.std.proofs.lemmas.List.Sums.{fold-append, sum_by-append, sum_by-cons}
use Rattle.dataset_meta.specs.Rows.{cons_if}
use Rattle.pubsub_states.specs.declared.component.Component.{Component}
use Rattle.session_model.specs.Deeds.{Deed, RefreshedBelow}
use Rattle.session_model.specs.Sends.{Send, last_sends, send_entry, send_entries, failing_after, last_failed}

-- ---- refreshes send nothing

silent-if : (test : Bool) (component : Component) (deeds : List Deed) → last_sends (cons_if test (RefreshedBelow component) deeds) ≡ last_sends deeds
silent-if true component deeds = refl
silent-if false component deeds = refl

pub silent-all : (test : ℕ → Bool) (what : ℕ → Component) (indexes : List ℕ) (deeds : List Deed)
    → last_sends (fold (λ so_far g. cons_if (test g) (RefreshedBelow (what g)) so_far) deeds indexes) ≡ last_sends deeds
silent-all test what [] deeds = refl
silent-all test what (g ∷ indexes) deeds =
    silent-all test what indexes (cons_if (test g) (RefreshedBelow (what g)) deeds) ∙ silent-if (test g) (what g) deeds

-- ---- sends with their outcomes

pub zip-append : {A B : Type 0} (xs ys : List A) (us vs : List B) → length us ≡ length xs → zip (xs ++ ys) (us ++ vs) ≡ zip xs us ++ zip ys vs
zip-append [] ys [] vs same = refl
zip-append [] ys (u ∷ us) vs same = absurd (omega (arith, same))
zip-append (x ∷ xs) ys [] vs same = absurd (omega (arith, same))
zip-append (x ∷ xs) ys (u ∷ us) vs same = ap (λ l. (x, u) ∷ l) (zip-append xs ys us vs (omega (arith, same)))

pub entries-append : (xs ys : List Send) (us vs : List Bool) → length us ≡ length xs → send_entries (xs ++ ys) (us ++ vs) ≡ send_entries xs us ++ send_entries ys vs
entries-append xs ys us vs same = ap (map send_entry) (zip-append xs ys us vs same) ∙ map-append send_entry (zip xs us) (zip ys vs)

pub count-append : {X : Type 0} (p : X → Bool) (xs ys : List X) → count_by p (xs ++ ys) ≡ count_by p xs + count_by p ys
count-append {X} p xs ys = sum_by-append (λ (x : X). cond (p x) 1 0) xs ys

pub count-cons : {X : Type 0} (p : X → Bool) (x : X) (xs : List X) → count_by p (x ∷ xs) ≡ cond (p x) 1 0 + count_by p xs
count-cons {X} p x xs = sum_by-cons (λ (x : X). cond (p x) 1 0) x xs

pub failed-append : (g : ℕ) (xs ys : List (Send × Bool)) → last_failed g (xs ++ ys) ≡ failing_after g (last_failed g xs) ys
failed-append g xs ys = fold-append (λ failed send. if send.0.group == g then not send.1 else failed) false xs ys
