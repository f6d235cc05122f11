-- Lists that go together in order, place by place.
use Rattle.std.proofs.Common.{◌≡◌, ℕ, zero, suc, ◌+◌, ◌<◌, List, [], ◌∷◌, ◌++◌, length, get_or, take, set, sym, subst, arith}
use Rattle.std.proofs.Math.Seq.{take-length}
use Rattle.std.proofs.lemmas.List.{take_more}
use Rattle.std.specs.List.{AllZip}

-- one pair more
zip-push : {A B : Type 0} (R : A → B → Type 0) (xs : List A) (ys : List B) (x : A) (y : B) → AllZip R xs ys → R x y
    → AllZip R (xs ++ x ∷ []) (ys ++ y ∷ [])
zip-push R [] [] x y all new = (new, tt)
zip-push R [] (b ∷ ys) x y all new = absurd all
zip-push R (a ∷ xs) [] x y all new = absurd all
zip-push R (a ∷ xs) (b ∷ ys) x y all new = (all.0, zip-push R xs ys x y all.1 new)

-- the pairs so far, and the next
pub zip-more : {A B : Type 0} (R : A → B → Type 0) (xs : List A) (ys : List B) (i : ℕ) (x : A) (y : B) → i < length xs → x ≡ get_or xs i x
    → AllZip R (take i xs) ys → R x y → AllZip R (take (i + 1) xs) (ys ++ y ∷ [])
zip-more R xs ys i x y within is all new =
    subst (λ l. AllZip R l (ys ++ y ∷ [])) (sym (take_more xs i x within))
    (zip-push R (take i xs) ys (get_or xs i x) y all (subst (λ v. R v y) is new))

-- all of them
pub zip-whole : {A B : Type 0} (R : A → B → Type 0) (xs : List A) (ys : List B) → AllZip R (take (length xs) xs) ys → AllZip R xs ys
zip-whole R xs ys all = subst (λ l. AllZip R l ys) (take-length xs) all

-- the pair at a place
pub zip-at : {A B : Type 0} (R : A → B → Type 0) (xs : List A) (ys : List B) (i : ℕ) (x : A) (y : B) → AllZip R xs ys → i < length xs
    → R (get_or xs i x) (get_or ys i y)
zip-at R [] ys i x y all within = absurd (omega arith)
zip-at R (a ∷ xs) [] i x y all within = absurd all
zip-at R (a ∷ xs) (b ∷ ys) zero x y all within = all.0
zip-at R (a ∷ xs) (b ∷ ys) (suc i) x y all within = zip-at R xs ys i x y all.1 (omega arith)

-- another second at a place
pub zip-set : {A B : Type 0} (R : A → B → Type 0) (xs : List A) (ys : List B) (i : ℕ) (x : A) (y : B) → AllZip R xs ys → i < length xs
    → R (get_or xs i x) y → AllZip R xs (set ys i y)
zip-set R [] ys i x y all within new = absurd (omega arith)
zip-set R (a ∷ xs) [] i x y all within new = absurd all
zip-set R (a ∷ xs) (b ∷ ys) zero x y all within new = (new, all.1)
zip-set R (a ∷ xs) (b ∷ ys) (suc i) x y all within new = (all.0, zip-set R xs ys i x y all.1 (omega arith) new)

-- another pair at a place
pub zip-both : {A B : Type 0} (R : A → B → Type 0) (xs : List A) (ys : List B) (i : ℕ) (x : A) (y : B) → AllZip R xs ys → R x y
    → AllZip R (set xs i x) (set ys i y)
zip-both R [] [] i x y all new = tt
zip-both R [] (b ∷ ys) i x y all new = absurd all
zip-both R (a ∷ xs) [] i x y all new = absurd all
zip-both R (a ∷ xs) (b ∷ ys) zero x y all new = (new, all.1)
zip-both R (a ∷ xs) (b ∷ ys) (suc i) x y all new = (all.0, zip-both R xs ys i x y all.1 new)
