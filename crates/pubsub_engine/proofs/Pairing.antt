-- Lists that go together element by element.
use Rattle.std.proofs.Common.{◌≡◌, refl, ap, suc, List, [], ◌∷◌, ◌++◌, length}
use Rattle.std.specs.Prelude.{map, All}
use Rattle.std.specs.List.{AllZip}
use Rattle.std.proofs.lemmas.List.Elements.{All-head, All-tail}

pub pairs-append : {A B : Type 0} (R : A → B → Type 0) (xs us : List A) (ys vs : List B) → AllZip R xs ys → AllZip R us vs → AllZip R (xs ++ us) (ys ++ vs)
pairs-append R [] us [] vs here there = there
pairs-append R [] us (y ∷ ys) vs here there = absurd here
pairs-append R (x ∷ xs) us [] vs here there = absurd here
pairs-append R (x ∷ xs) us (y ∷ ys) vs here there = (here.0, pairs-append R xs us ys vs here.1 there)

pub pairs-push : {A B : Type 0} (R : A → B → Type 0) (xs : List A) (ys : List B) (x : A) (y : B) → AllZip R xs ys → R x y → AllZip R (xs ++ x ∷ []) (ys ++ y ∷ [])
pairs-push R xs ys x y here there = pairs-append R xs (x ∷ []) ys (y ∷ []) here (there, tt)

pub pairs-weaker : {A B : Type 0} (P : A → Type 0) (R S : A → B → Type 0) → ((x : A) (y : B) → P x → R x y → S x y) → (xs : List A) (ys : List B) → All P xs → AllZip R xs ys → AllZip S xs ys
pairs-weaker P R S weaker [] [] each pairs = tt
pairs-weaker P R S weaker [] (y ∷ ys) each pairs = absurd pairs
pairs-weaker P R S weaker (x ∷ xs) [] each pairs = absurd pairs
pairs-weaker P R S weaker (x ∷ xs) (y ∷ ys) each pairs =
    (weaker x y (All-head P x xs each) pairs.0, pairs-weaker P R S weaker xs ys (All-tail P x xs each) pairs.1)

pub pairs-map : {A B C : Type 0} (R : C → B → Type 0) (f : A → C) (xs : List A) (ys : List B) → AllZip (λ x y. R (f x) y) xs ys → AllZip R (map f xs) ys
pairs-map R f [] [] pairs = tt
pairs-map R f [] (y ∷ ys) pairs = absurd pairs
pairs-map R f (x ∷ xs) [] pairs = absurd pairs
pairs-map R f (x ∷ xs) (y ∷ ys) pairs = (pairs.0, pairs-map R f xs ys pairs.1)

pub pairs-length : {A B : Type 0} (R : A → B → Type 0) (xs : List A) (ys : List B) → AllZip R xs ys → length ys ≡ length xs
pairs-length R [] [] pairs = refl
pairs-length R [] (y ∷ ys) pairs = absurd pairs
pairs-length R (x ∷ xs) [] pairs = absurd pairs
pairs-length R (x ∷ xs) (y ∷ ys) pairs = ap suc (pairs-length R xs ys pairs.1)
