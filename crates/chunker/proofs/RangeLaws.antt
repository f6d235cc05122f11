-- A test of each number of a range.
use Rattle.std.proofs.Common.{◌≡◌, refl, sym, ap, ◌∙◌, arith, ℕ, zero, suc, ◌+◌, ◌<◌, Bool, true, ◌&&◌}
use Rattle.std.specs.List.{list_all, range_with_len}
use Rattle.std.proofs.lemmas.Bool.{and_parts, and_from}

pub all_at : (test : ℕ → Bool) (n a k : ℕ) → list_all test (range_with_len a n) ≡ true → k < n → test (a + k) ≡ true
all_at test zero a k e lt = absurd (omega (arith, lt))
all_at test (suc n) a zero e lt = let same : a + 0 ≡ a = omega arith in ap test same ∙ (and_parts (test a) (list_all test (range_with_len (a + 1) n)) e).0
all_at test (suc n) a (suc k) e lt =
    let same : a + suc k ≡ a + 1 + k = omega arith in
    ap test same ∙ all_at test n (a + 1) k (and_parts (test a) (list_all test (range_with_len (a + 1) n)) e).1 (omega (arith, lt))

pub all_from : (test : ℕ → Bool) (n a : ℕ) → ((k : ℕ) → k < n → test (a + k) ≡ true) → list_all test (range_with_len a n) ≡ true
all_from test zero a each = refl
all_from test (suc n) a each =
    let here : a + 0 ≡ a = omega arith in
    and_from (test a) (list_all test (range_with_len (a + 1) n)) (sym (ap test here) ∙ each 0 (omega arith))
    (all_from test n (a + 1) (λ k lt. let next : a + 1 + k ≡ a + suc k = omega arith in ap test next ∙ each (suc k) (omega (arith, lt))))

-- from 0 on
pub all_below : (test : ℕ → Bool) (n k : ℕ) → list_all test (range_with_len 0 n) ≡ true → k < n → test k ≡ true
all_below test n k e lt = let same : 0 + k ≡ k = omega arith in sym (ap test same) ∙ all_at test n 0 k e lt

pub all_from_below : (test : ℕ → Bool) (n : ℕ) → ((k : ℕ) → k < n → test k ≡ true) → list_all test (range_with_len 0 n) ≡ true
all_from_below test n each = all_from test n 0 (λ k lt. let same : 0 + k ≡ k = omega arith in ap test same ∙ each k lt)

-- two tests that agree on the range
pub all_same : (f g : ℕ → Bool) (n a : ℕ) → ((k : ℕ) → k < n → f (a + k) ≡ g (a + k)) → list_all f (range_with_len a n) ≡ list_all g (range_with_len a n)
all_same f g zero a each = refl
all_same f g (suc n) a each =
    let here : a + 0 ≡ a = omega arith in
    let first : f a ≡ g a = sym (ap f here) ∙ each 0 (omega arith) ∙ ap g here in
    ap (λ (b : Bool). b && list_all f (range_with_len (a + 1) n)) first
    ∙ ap (λ (b : Bool). g a && b) (all_same f g n (a + 1) (λ k lt. let next : a + 1 + k ≡ a + suc k = omega arith in ap f next ∙ each (suc k) (omega (arith, lt)) ∙ sym (ap g next)))
