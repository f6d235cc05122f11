-- The last eight breaks, with the oldest first in store.
use Rattle.std.proofs.Common.{◌≡◌, sym, ap, ◌∙◌, arith, ℕ, ◌≤◌, List, [], ◌∷◌, ◌++◌, length, take}
use Rattle.std.specs.Prelude.{reverse, remove}
use Rattle.std.proofs.lemmas.List.{reverse-append, length-reverse, take_all}
use Rattle.std.proofs.Math.Seq.{take-append_seam}

-- one more behind at most seven
pub reverse-fewer : {X : Type 0} (xs : List X) (x : X) → length xs ≤ 7 → reverse (xs ++ x ∷ []) ≡ take 8 (x ∷ reverse xs)
reverse-fewer xs x few = reverse-append xs (x ∷ []) ∙ sym (take_all 8 (x ∷ reverse xs) (omega (arith, length-reverse xs)))

shorter : {X : Type 0} (n : ℕ) (xs ys : List X) → length xs ≡ n → take n (xs ++ ys) ≡ xs
shorter n xs ys is = ap (λ (k : ℕ). take k (xs ++ ys)) (sym is) ∙ take-append_seam xs ys

-- one more behind eight, the first of which goes
pub reverse-full : {X : Type 0} (xs : List X) (x : X) → length xs ≡ 8 → reverse (remove xs 0 ++ x ∷ []) ≡ take 8 (x ∷ reverse xs)
reverse-full [] x full = absurd (omega arith)
reverse-full (y ∷ ys) x full =
    reverse-append ys (x ∷ [])
    ∙ ap (λ (zs : List _). x ∷ zs) (sym (shorter 7 (reverse ys) (y ∷ []) (omega (arith, length-reverse ys))))
    ∙ ap (λ (zs : List _). take 8 (x ∷ zs)) (sym (reverse-append (y ∷ []) ys))
