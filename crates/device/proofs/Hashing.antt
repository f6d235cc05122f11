-- Bytes that a hasher holds more, piece by piece.
use Rattle.std.proofs.Common.{◌≡◌, ℕ, ◌+◌, ◌<◌, ◌≤◌, List, [], ◌∷◌, ◌++◌, length, get_or, take, refl, sym, ap, subst, ◌∙◌}
use Rattle.std.specs.Prelude.{flat_map}
use Rattle.std.proofs.lemmas.List.{flat_map_more, take_all, take_more}
use Rattle.sha2.specs.declared.Sha256.{Sha256}
use Rattle.sha2.specs.Hashers.{Holds256}
use Rattle.device.specs.Fingerprints.{Adds, listed, wide}

append-thrice : (x y z : List ℕ) → (x ++ y) ++ z ≡ x ++ (y ++ z)
append-thrice [] y z = refl
append-thrice (n ∷ x) y z = ap (λ (l : List ℕ). n ∷ l) (append-thrice x y z)

no-more : (xs : List ℕ) → xs ++ [] ≡ xs
no-more [] = refl
no-more (x ∷ xs) = ap (λ (l : List ℕ). x ∷ l) (no-more xs)

-- one piece behind another
pub adds-then : (one other : List ℕ) (a b c : Sha256) → Adds one a b → Adds other b c → Adds (one ++ other) a c
adds-then one other a b c first second = λ before holds.
    subst (λ (l : List ℕ). Holds256 c l) (append-thrice before one other) (second (before ++ one) (first before holds))

-- so many elements of a list behind its count
abbrev pub AddsFirst : {X : Type 0} → (X → List ℕ) → List X → ℕ → Sha256 → Sha256 → Type 0
AddsFirst spelled items count a b = Adds (wide (length items) ++ flat_map spelled (take count items)) a b

pub adds-none : {X : Type 0} (spelled : X → List ℕ) (items : List X) (n : ℕ) (a b : Sha256) → n ≡ length items → Adds (wide n) a b → AddsFirst spelled items 0 a b
adds-none spelled items n a b same adds = λ before holds.
    subst (λ (l : List ℕ). Holds256 b (before ++ l)) (ap wide same ∙ sym (no-more (wide (length items)))) (adds before holds)

pub adds-more : {X : Type 0} (spelled : X → List ℕ) (items : List X) (k : ℕ) (x : X) (a b c : Sha256) → k < length items → x ≡ get_or items k x → AddsFirst spelled items k a b → Adds (spelled x) b c
    → AddsFirst spelled items (k + 1) a c
adds-more {X} spelled items k x a b c low is first second =
    let count = wide (length items) in
    let next : take k items ++ (x ∷ []) ≡ take (k + 1) items = ap (λ (y : X). take k items ++ (y ∷ [])) is ∙ sym (take_more items k x low) in
    subst (λ (l : List ℕ). Adds l a c) (flat_map_more spelled count (take k items) x ∙ ap (λ (l : List X). count ++ flat_map spelled l) next)
    (adds-then (count ++ flat_map spelled (take k items)) (spelled x) a b c first second)

pub adds-all : {X : Type 0} (spelled : X → List ℕ) (items : List X) (k : ℕ) (a b : Sha256) → length items ≤ k → AddsFirst spelled items k a b → Adds (listed spelled items) a b
adds-all {X} spelled items k a b all adds = subst (λ (l : List X). Adds (wide (length items) ++ flat_map spelled l) a b) (take_all k items all) adds
