-- Lists that go together in order, place by place.
use Rattle.std.proofs.Common.{◌≡◌, ℕ, zero, suc, ◌+◌, ◌<◌, List, [], ◌∷◌, ◌++◌, length, get_or, take, drop, refl, sym, ap, ◌∙◌, subst, arith, append_assoc, add-one}
use Rattle.std.specs.List.{flat_map, zip, AllZip}
use Rattle.std.proofs.Math.Seq.{drop-cons, take-length}
use Rattle.std.proofs.lemmas.List.{append-nil, take_more}
use Rattle.std.proofs.lemmas.Grind.{flat_map-append}

-- the text of pairs, one pair more
more : {A B : Type 0} (f : A × B → List ℕ) (xs : List A) (ys : List B) (i : ℕ) (x : A) (y : B)
    → i < length xs → i < length ys → x ≡ get_or xs i x → y ≡ get_or ys i y
    → flat_map f (zip (take (suc i) xs) (take (suc i) ys)) ≡ flat_map f (zip (take i xs) (take i ys)) ++ f (x, y)
more f [] ys i x y in_xs in_ys is_x is_y = absurd (omega arith)
more f (a ∷ xs) [] i x y in_xs in_ys is_x is_y = absurd (omega arith)
more f (a ∷ xs) (b ∷ ys) zero x y in_xs in_ys is_x is_y =
    append-nil (f (a, b)) ∙ ap (λ v. f (v, b)) (sym is_x) ∙ ap (λ v. f (x, v)) (sym is_y)
more f (a ∷ xs) (b ∷ ys) (suc i) x y in_xs in_ys is_x is_y =
    ap (λ rest. f (a, b) ++ rest) (more f xs ys i x y (omega arith) (omega arith) is_x is_y)
    ∙ sym (append_assoc (f (a, b)) (flat_map f (zip (take i xs) (take i ys))) (f (x, y)))

pub pair_more : {A B : Type 0} (f : A × B → List ℕ) (xs : List A) (ys : List B) (i : ℕ) (x : A) (y : B)
    → i < length xs → i < length ys → x ≡ get_or xs i x → y ≡ get_or ys i y
    → flat_map f (zip (take (i + 1) xs) (take (i + 1) ys)) ≡ flat_map f (zip (take i xs) (take i ys)) ++ f (x, y)
pair_more f xs ys i x y in_xs in_ys is_x is_y =
    ap (λ n. flat_map f (zip (take n xs) (take n ys))) (add-one i) ∙ more f xs ys i x y in_xs in_ys is_x is_y

-- the text of all pairs
pub pairs_all : {A B : Type 0} (f : A × B → List ℕ) (xs : List A) (ys : List B) (i : ℕ) → i ≡ length xs → length ys ≡ length xs
    → flat_map f (zip (take i xs) (take i ys)) ≡ flat_map f (zip xs ys)
pairs_all f xs ys i is same =
    ap (λ n. flat_map f (zip (take n xs) (take i ys))) is ∙ ap (λ l. flat_map f (zip l (take i ys))) (take-length xs)
    ∙ ap (λ n. flat_map f (zip xs (take n ys))) (is ∙ sym same) ∙ ap (λ l. flat_map f (zip xs l)) (take-length ys)

-- what was written, and one pair more
pub written_more : {A B : Type 0} (f : A × B → List ℕ) (xs : List A) (ys : List B) (i : ℕ) (x : A) (y : B) (start old new : List ℕ)
    → i < length xs → i < length ys → x ≡ get_or xs i x → y ≡ get_or ys i y
    → old ≡ start ++ flat_map f (zip (take i xs) (take i ys)) → new ≡ old ++ f (x, y)
    → new ≡ start ++ flat_map f (zip (take (i + 1) xs) (take (i + 1) ys))
written_more f xs ys i x y start old new in_xs in_ys is_x is_y before now =
    now ∙ ap (λ l. l ++ f (x, y)) before ∙ append_assoc start (flat_map f (zip (take i xs) (take i ys))) (f (x, y))
    ∙ ap (λ l. start ++ l) (sym (pair_more f xs ys i x y in_xs in_ys is_x is_y))

-- what is left from a place on
pub from_place : {A : Type 0} (xs : List A) (i : ℕ) (x : A) → i < length xs → x ≡ get_or xs i x → drop i xs ≡ x ∷ drop (i + 1) xs
from_place xs i x in_xs is =
    drop-cons xs i x in_xs ∙ ap (λ v. v ∷ drop (suc i) xs) (sym is) ∙ ap (λ n. x ∷ drop n xs) (sym (add-one i))

pub zip_length : {A B : Type 0} (R : A → B → Type 0) (xs : List A) (ys : List B) → AllZip R xs ys → length ys ≡ length xs
zip_length R [] [] h = refl
zip_length R [] (y ∷ ys) h = absurd h
zip_length R (x ∷ xs) [] h = absurd h
zip_length R (x ∷ xs) (y ∷ ys) h = let same : length ys ≡ length xs = zip_length R xs ys h.1 in omega arith

pub zip_at : {A B : Type 0} (R : A → B → Type 0) (xs : List A) (ys : List B) (i : ℕ) (x : A) (y : B) → AllZip R xs ys
    → i < length xs → x ≡ get_or xs i x → y ≡ get_or ys i y → R x y
zip_at R [] ys i x y h in_xs is_x is_y = absurd (omega arith)
zip_at R (a ∷ xs) [] i x y h in_xs is_x is_y = absurd h
zip_at R (a ∷ xs) (b ∷ ys) zero x y h in_xs is_x is_y = subst (λ v. R v y) (sym is_x) (subst (λ v. R a v) (sym is_y) h.0)
zip_at R (a ∷ xs) (b ∷ ys) (suc i) x y h in_xs is_x is_y = zip_at R xs ys i x y h.1 (omega arith) is_x is_y

pub zip_front : {A B : Type 0} (R : A → B → Type 0) (xs ys : List A) (zs : List B) → AllZip R (xs ++ ys) zs → AllZip R xs (take (length xs) zs)
zip_front R [] ys zs h = tt
zip_front R (x ∷ xs) ys [] h = absurd h
zip_front R (x ∷ xs) ys (z ∷ zs) h = (h.0, zip_front R xs ys zs h.1)

pub zip_behind : {A B : Type 0} (R : A → B → Type 0) (xs ys : List A) (zs : List B) → AllZip R (xs ++ ys) zs → AllZip R ys (drop (length xs) zs)
zip_behind R [] ys zs h = h
zip_behind R (x ∷ xs) ys [] h = absurd h
zip_behind R (x ∷ xs) ys (z ∷ zs) h = zip_behind R xs ys zs h.1

zip_more : {A B : Type 0} (R : A → B → Type 0) (xs : List A) (ys : List B) (x : A) (y : B) → AllZip R xs ys → R x y
    → AllZip R (xs ++ x ∷ []) (ys ++ y ∷ [])
zip_more R [] [] x y all is = (is, tt)
zip_more R [] (b ∷ ys) x y all is = absurd all
zip_more R (a ∷ xs) [] x y all is = absurd all
zip_more R (a ∷ xs) (b ∷ ys) x y all is = (all.0, zip_more R xs ys x y all.1 is)

to_place : {A : Type 0} (xs : List A) (i : ℕ) (x : A) → i < length xs → x ≡ get_or xs i x → take (i + 1) xs ≡ take i xs ++ x ∷ []
to_place xs i x in_xs is = take_more xs i x in_xs ∙ ap (λ v. take i xs ++ v ∷ []) (sym is)

-- behind other pairs those up to a place, one pair more
pub zip_place_more : {A B : Type 0} (R : A → B → Type 0) (before xs : List A) (ys : List B) (i : ℕ) (x : A) (y : B)
    → i < length xs → x ≡ get_or xs i x → AllZip R (before ++ take i xs) ys → R x y
    → AllZip R (before ++ take (i + 1) xs) (ys ++ y ∷ [])
zip_place_more R before xs ys i x y in_xs is all one =
    subst (λ l. AllZip R l (ys ++ y ∷ []))
    (append_assoc before (take i xs) (x ∷ []) ∙ ap (λ l. before ++ l) (sym (to_place xs i x in_xs is)))
    (zip_more R (before ++ take i xs) ys x y all one)

-- the lists of all up to a place, one list more
pub lists_place_more : {A B : Type 0} (f : A → List B) (xs : List A) (i : ℕ) (x : A) → i < length xs → x ≡ get_or xs i x
    → flat_map f (take (i + 1) xs) ≡ flat_map f (take i xs) ++ f x
lists_place_more f xs i x in_xs is =
    ap (flat_map f) (to_place xs i x in_xs is) ∙ flat_map-append f (take i xs) (x ∷ [])
    ∙ ap (λ l. flat_map f (take i xs) ++ l) (append-nil (f x))
