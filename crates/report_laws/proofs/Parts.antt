-- Lines of parts and their ends, in order.
use Rattle.std.proofs.Common.{◌≡◌, ℕ, zero, suc, List, [], ◌∷◌, ◌++◌, length, take, drop, refl, sym, ◌∙◌, arith, append_assoc}
use Rattle.std.specs.List.{flat_map, zip, AllZip, AllByRecursion}

-- a line tells of a part's end what `Same` says
abbrev pub Tells : {A B : Type 0} → (A → B → List ℕ) → (A → B → Type 0) → (B → B → Type 0) → Type 0
Tells {A} {B} line Has Same = (part : A) (x y : B) (s t : List ℕ) → Has part x → Has part y → line part x ++ s ≡ line part y ++ t → Same x y × (s ≡ t)

pub parts_cut : {A B : Type 0} (line : A → B → List ℕ) (Has : A → B → Type 0) (Same : B → B → Type 0) → Tells line Has Same
    → (parts : List A) (xs ys : List B) (s t : List ℕ) → AllZip Has parts xs → AllZip Has parts ys
    → flat_map (λ at. line at.0 at.1) (zip parts xs) ++ s ≡ flat_map (λ at. line at.0 at.1) (zip parts ys) ++ t → AllZip Same xs ys × (s ≡ t)
parts_cut line Has Same one [] [] [] s t in_xs in_ys same = (tt, same)
parts_cut line Has Same one [] [] (y ∷ ys) s t in_xs in_ys same = absurd in_ys
parts_cut line Has Same one [] (x ∷ xs) ys s t in_xs in_ys same = absurd in_xs
parts_cut line Has Same one (part ∷ parts) [] ys s t in_xs in_ys same = absurd in_xs
parts_cut line Has Same one (part ∷ parts) (x ∷ xs) [] s t in_xs in_ys same = absurd in_ys
parts_cut line Has Same one (part ∷ parts) (x ∷ xs) (y ∷ ys) s t in_xs in_ys same =
    let left = flat_map (λ at. line at.0 at.1) (zip parts xs) in
    let right = flat_map (λ at. line at.0 at.1) (zip parts ys) in
    let first = one part x y (left ++ s) (right ++ t) in_xs.0 in_ys.0 (sym (append_assoc (line part x) left s) ∙ same ∙ append_assoc (line part y) right t) in
    let rest = parts_cut line Has Same one parts xs ys s t in_xs.1 in_ys.1 first.1 in
    ((first.0, rest.0), rest.1)

pub same_all : {B : Type 0} (xs ys : List B) → AllZip (λ x y. x ≡ y) xs ys → xs ≡ ys
same_all [] [] all = refl
same_all [] (y ∷ ys) all = absurd all
same_all (x ∷ xs) [] all = absurd all
same_all (x ∷ xs) (y ∷ ys) all = let rest : xs ≡ ys = same_all xs ys all.1 in let head : x ≡ y = all.0 in cc

-- each end for its part, where there are as many
pub with_parts : {A B : Type 0} (Has : B → Type 0) (parts : List A) (ends : List B) → length ends ≡ length parts → AllByRecursion Has ends → AllZip (λ part end. Has end) parts ends
with_parts Has [] [] same all = tt
with_parts Has [] (end ∷ ends) same all = absurd (omega arith)
with_parts Has (part ∷ parts) [] same all = absurd (omega arith)
with_parts Has (part ∷ parts) (end ∷ ends) same all = (all.0, with_parts Has parts ends (omega arith) all.1)

pub and_ends : {A B : Type 0} (R : A → B → Type 0) (Has : B → Type 0) (parts : List A) (ends : List B) → AllZip R parts ends → AllByRecursion Has ends → AllZip (λ part end. R part end × Has end) parts ends
and_ends R Has [] [] is all = tt
and_ends R Has [] (end ∷ ends) is all = absurd is
and_ends R Has (part ∷ parts) [] is all = absurd is
and_ends R Has (part ∷ parts) (end ∷ ends) is all = ((is.0, all.0), and_ends R Has parts ends is.1 all.1)

-- the first ones and those behind them
pub zip_join : {B : Type 0} (R : B → B → Type 0) (n : ℕ) (xs ys : List B) → AllZip R (take n xs) (take n ys) → AllZip R (drop n xs) (drop n ys) → AllZip R xs ys
zip_join R zero xs ys front behind = behind
zip_join R (suc n) [] [] front behind = tt
zip_join R (suc n) [] (y ∷ ys) front behind = front
zip_join R (suc n) (x ∷ xs) [] front behind = front
zip_join R (suc n) (x ∷ xs) (y ∷ ys) front behind = (front.0, zip_join R n xs ys front.1 behind)
