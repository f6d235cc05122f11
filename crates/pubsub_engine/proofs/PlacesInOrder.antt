-- Lists that are made group by group, and member by member.
use Rattle.std.proofs.Common.{◌≡◌, sym, ap, ◌∙◌, subst, arith, ℕ, zero, suc, ◌+◌, ◌<◌, List, [], ◌∷◌, ◌++◌, get_or}
use Rattle.std.specs.Prelude.{map, flat_map, All}
use Rattle.std.specs.List.{AllZip, range_with_len}
use Rattle.std.proofs.lemmas.List.{append-nil, append_assoc}
use Rattle.std.proofs.lemmas.List.Concat.{flat_map-append}
use Rattle.std.proofs.lemmas.List.Elements.{All-nil, All-append, All-map, All-from_get_or}
use Rattle.std.proofs.lemmas.List.FromFn.{get_or-range_with_len, length-range_with_len, map-range_with_len_more}
use Rattle.session_parts.proofs.Counting.{range-more}
use Rattle.pubsub_engine.proofs.Pairing.{pairs-push}

-- one group more
pub group-more : {X : Type 0} (f : ℕ → List X) (n : ℕ) → flat_map f (range_with_len 0 (n + 1)) ≡ flat_map f (range_with_len 0 n) ++ f n
group-more f n =
    ap (flat_map f) (range-more n) ∙ flat_map-append f (range_with_len 0 n) (n ∷ []) ∙ ap (λ l. flat_map f (range_with_len 0 n) ++ l) (append-nil (f n))

-- one member more
member-more : {X : Type 0} (f : ℕ → X) (n : ℕ) → map f (range_with_len 0 (n + 1)) ≡ map f (range_with_len 0 n) ++ f n ∷ []
member-more f n = map-range_with_len_more f 0 n n (omega arith)

pub pushed-more : {X : Type 0} (f : ℕ → X) (n : ℕ) (items more : List X) (x : X) → more ≡ items ++ x ∷ [] → x ≡ f n → items ≡ map f (range_with_len 0 n) → more ≡ map f (range_with_len 0 (n + 1))
pushed-more f n items more x pushed is so_far =
    pushed ∙ ap (λ l. l ++ x ∷ []) so_far ∙ ap (λ y. map f (range_with_len 0 n) ++ y ∷ []) is ∙ sym (member-more f n)

-- behind others
pub pairs-more : {A B : Type 0} (R : A → B → Type 0) (places : List A) (f : ℕ → A) (n : ℕ) (items more : List B) (x : B) → more ≡ items ++ x ∷ [] → R (f n) x
    → AllZip R (places ++ map f (range_with_len 0 n)) items → AllZip R (places ++ map f (range_with_len 0 (n + 1))) more
pairs-more {A} {B} R places f n items more x pushed here so_far =
    subst (λ (l : List B). AllZip R (places ++ map f (range_with_len 0 (n + 1))) l) (sym pushed)
    (subst (λ (l : List A). AllZip R l (items ++ x ∷ [])) (append_assoc places (map f (range_with_len 0 n)) (f n ∷ []) ∙ ap (λ (l : List A). places ++ l) (sym (member-more f n)))
    (pairs-push R (places ++ map f (range_with_len 0 n)) items (f n) x so_far here))

-- all of them, where each of the first groups has so many members
pub all-members : (P : ℕ × ℕ → Type 0) (count : ℕ → ℕ) (n : ℕ) → ((g w : ℕ) → g < n → w < count g → P (g, w))
    → All P (flat_map (λ g. map (λ w. (g, w)) (range_with_len 0 (count g))) (range_with_len 0 n))
all-members P count zero each = All-nil P
all-members P count (suc n) each =
    subst (All P) (sym (ap (λ k. flat_map f (range_with_len 0 k)) on ∙ group-more f n))
    (All-append P (flat_map f (range_with_len 0 n)) (f n) (all-members P count n (λ g w low within. each g w (omega (arith, low)) within))
    (All-map P (λ w. (n, w)) (range_with_len 0 (count n)) (All-from_get_or (λ w. P (n, w)) (range_with_len 0 (count n)) 0 (λ w low. own w (omega (arith, low, length-range_with_len 0 (count n)))))))
  where
    f : ℕ → List (ℕ × ℕ)
    f g = map (λ w. (g, w)) (range_with_len 0 (count g))

    on : suc n ≡ n + 1
    on = omega arith

    own : (w : ℕ) → w < count n → P (n, get_or (range_with_len 0 (count n)) w 0)
    own w within =
        let is : w ≡ get_or (range_with_len 0 (count n)) w 0 = sym (get_or-range_with_len 0 (count n) w 0 within ∙ omega arith) in
        subst (λ (v : ℕ). P (n, v)) is (each n w (omega arith) within)
