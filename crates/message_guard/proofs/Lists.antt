-- Lists of a known length, and the parts of a datagram.
use Rattle.std.proofs.Common.{◌≡◌, ℕ, ◌≤◌, List, [], ◌∷◌, ◌++◌, length, get_or, take, drop, refl, sym, ◌∙◌, ap, arith, append_assoc}
use Rattle.std.proofs.lemmas.List.{take-append-drop}
use Rattle.std.proofs.lemmas.List.Folds.{drop_split}
use Rattle.std.specs.Prelude.{slice_range}

pub four_bytes : (xs : List ℕ) → length xs ≡ 4 → get_or xs 0 0 ∷ get_or xs 1 0 ∷ get_or xs 2 0 ∷ get_or xs 3 0 ∷ [] ≡ xs
four_bytes [] e = absurd (omega arith)
four_bytes (a ∷ []) e = absurd (omega arith)
four_bytes (a ∷ b ∷ []) e = absurd (omega arith)
four_bytes (a ∷ b ∷ c ∷ []) e = absurd (omega arith)
four_bytes (a ∷ b ∷ c ∷ d ∷ []) e = refl
four_bytes (a ∷ b ∷ c ∷ d ∷ x ∷ xs) e = absurd (omega arith)

pub eight_bytes : (xs : List ℕ) → length xs ≡ 8
    → get_or xs 0 0 ∷ get_or xs 1 0 ∷ get_or xs 2 0 ∷ get_or xs 3 0 ∷ get_or xs 4 0 ∷ get_or xs 5 0 ∷ get_or xs 6 0 ∷ get_or xs 7 0 ∷ [] ≡ xs
eight_bytes (a ∷ b ∷ c ∷ d ∷ xs) e =
    let rest : length xs ≡ 4 = omega arith in
    ap (λ (ys : List ℕ). a ∷ b ∷ c ∷ d ∷ ys) (four_bytes xs rest)
eight_bytes [] e = absurd (omega arith)
eight_bytes (a ∷ []) e = absurd (omega arith)
eight_bytes (a ∷ b ∷ []) e = absurd (omega arith)
eight_bytes (a ∷ b ∷ c ∷ []) e = absurd (omega arith)

-- a list is its parts before, between and behind two places
pub three_parts : (xs : List ℕ) (at end : ℕ) → at ≤ end → take at xs ++ slice_range xs at end ++ drop end xs ≡ xs
three_parts xs at end order =
    rw append_assoc (ap (λ (ys : List ℕ). take at xs ++ ys) (sym (drop_split xs at end order)) ∙ take-append-drop at xs)
