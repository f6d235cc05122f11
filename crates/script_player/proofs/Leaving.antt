-- The hands of threads that are made one after another, and what they leave.
use Rattle.std.proofs.Common.{◌≡◌, ℕ, ◌+◌, List, [], ◌∷◌, ◌++◌, length, map, refl, sym, ap, ◌∙◌, arith, append_assoc}
use Rattle.std.specs.List.{range_with_len}
use Rattle.std.proofs.lemmas.List.{append-nil, map-append, map-id, length_push, nil_from_length}
use Rattle.std.proofs.lemmas.List.FromFn.{map-range_with_len_more}

-- the next of a list that is being used up goes to another
pub moved-on : {A B C : Type 0} (f : A → C) (g : B → C) (made more : List A) (x : A) (left rest : List B) (y : B) (all : List C) → more ≡ made ++ x ∷ [] → left ≡ y ∷ rest → f x ≡ g y
    → map f made ++ map g left ≡ all → map f more ++ map g rest ≡ all
moved-on {A} {B} {C} f g made more x left rest y all pushed taken same h =
    ap (λ (l : List A). map f l ++ map g rest) pushed ∙ ap (λ (l : List C). l ++ map g rest) (map-append f made (x ∷ [])) ∙ append_assoc (map f made) (f x ∷ []) (map g rest)
    ∙ ap (λ (z : C). map f made ++ z ∷ map g rest) same ∙ sym (ap (λ (l : List B). map f made ++ map g l) taken) ∙ h

-- all of it went there
pub moved-all : {A B C : Type 0} (f : A → C) (g : B → C) (made : List A) (left : List B) (all : List C) → length left ≡ 0 → map f made ++ map g left ≡ all → map f made ≡ all
moved-all {A} {B} {C} f g made left all none h =
    sym (append-nil (map f made)) ∙ sym (ap (λ (l : List B). map f made ++ map g l) (nil_from_length left none)) ∙ h

-- the first that is made of a list
pub moved-none : {A B C : Type 0} (f : A → C) (g : B → C) (made : List A) (left : List B) (all : List B) → made ≡ [] → left ≡ all → map f made ++ map g left ≡ map g all
moved-none {A} {B} {C} f g made left all none whole =
    ap (λ (l : List A). map f l ++ map g left) none ∙ ap (map g) whole

pub one-more : {A : Type 0} {n : ℕ} (made more : List A) (x : A) → more ≡ made ++ x ∷ [] → length made ≡ n → length more ≡ n + 1
one-more {A} {n} made more x pushed is = ap (λ (l : List A). length l) pushed ∙ length_push made x ∙ ap (λ (k : ℕ). k + 1) is

range-more : (n : ℕ) → range_with_len 0 n ++ n ∷ [] ≡ range_with_len 0 (n + 1)
range-more n =
    sym (map-range_with_len_more (λ (x : ℕ). x) 0 n n (omega arith) ∙ ap (λ (l : List ℕ). l ++ n ∷ []) (map-id (range_with_len 0 n))) ∙ map-id (range_with_len 0 (n + 1))

-- one more in a list that is numbered
pub numbered-more : {A : Type 0} (f : A → ℕ) (made more : List A) (x : A) → more ≡ made ++ x ∷ [] → f x ≡ length made → map f made ≡ range_with_len 0 (length made)
    → map f more ≡ range_with_len 0 (length more)
numbered-more {A} f made more x pushed here h =
    ap (map f) pushed ∙ map-append f made (x ∷ []) ∙ (λ i. h i ++ here i ∷ []) ∙ range-more (length made)
    ∙ ap (λ (n : ℕ). range_with_len 0 n) (sym (one-more made more x pushed refl))
