-- A list as the values of a function, and as lanes.
use Rattle.std.proofs.Common.{◌≡◌, ℕ, zero, suc, ◌<◌, List, [], ◌∷◌, ◌++◌, length, slice_index, Fits, w8, refl, lit<, arith, ap₂, ◌∙◌}
use Rattle.std.specs.Simd.Lanes.{Each1}
use Rattle.aes_ctr.specs.InPlanes.{IsLanes, Eight, values}

pub cons_is : {x y : ℕ} {xs ys : List ℕ} → x ≡ y → xs ≡ ys → x ∷ xs ≡ y ∷ ys
cons_is e es = ap₂ (λ (x : ℕ) (xs : List ℕ). x ∷ xs) e es

pub below_eight : (P : ℕ → Type 0) → Eight P → (p : ℕ) → p < 8 → P p
below_eight P all zero h = all.0
below_eight P all (suc zero) h = all.1
below_eight P all (suc (suc zero)) h = all.2
below_eight P all (suc (suc (suc zero))) h = all.3
below_eight P all (suc (suc (suc (suc zero)))) h = all.4
below_eight P all (suc (suc (suc (suc (suc zero))))) h = all.5
below_eight P all (suc (suc (suc (suc (suc (suc zero)))))) h = all.6
below_eight P all (suc (suc (suc (suc (suc (suc (suc zero))))))) h = all.7
below_eight P all (suc (suc (suc (suc (suc (suc (suc (suc n)))))))) h = absurd (omega arith)

values_suc : (f : ℕ → ℕ) (i n : ℕ) → values (λ k. f (suc k)) i n ≡ values f (suc i) n
values_suc f i zero = refl
values_suc f i (suc n) = cons_is refl (values_suc f (suc i) n)

-- a list is its bytes
pub values_of : (xs : List ℕ) (n : ℕ) → length xs ≡ n → xs ≡ values (slice_index xs) 0 n
values_of [] zero h = refl
values_of [] (suc n) h = absurd (omega arith)
values_of (x ∷ xs) zero h = absurd (omega arith)
values_of (x ∷ xs) (suc n) h =
    let shorter : length xs ≡ n = omega arith in
    cons_is refl (values_of xs n shorter ∙ values_suc (slice_index (x ∷ xs)) 0 n)

pub values-lt : (f : ℕ → ℕ) (b : ℕ) → 0 < b → ((k : ℕ) → f k < b) → (i n k : ℕ) → slice_index (values f i n) k < b
values-lt f b some small i zero k = some
values-lt f b some small i (suc n) zero = small i
values-lt f b some small i (suc n) (suc k) = values-lt f b some small (suc i) n k

-- bytes
pub bytes-lt : (v : List ℕ) → Each1 (Fits w8) v → (i : ℕ) → slice_index v i < 256
bytes-lt [] e i = lit< tt
bytes-lt (x ∷ xs) e zero = e.0.fits
bytes-lt (x ∷ xs) e (suc i) = bytes-lt xs e.1 i

pub lanes_are : (v : List ℕ) → length v ≡ 16 → Each1 (Fits w8) v → IsLanes v
lanes_are v l e = (l, bytes-lt v e)

-- bytes before other bytes
pub bytes_before : (f : ℕ → ℕ) (i n : ℕ) (ys : List ℕ) → ((k : ℕ) → f k < 256) → Each1 (Fits w8) ys → Each1 (Fits w8) (values f i n ++ ys)
bytes_before f i zero ys fits e = e
bytes_before f i (suc n) ys fits e = (record { fits = fits i }, bytes_before f (suc i) n ys fits e)
