-- How many threads stand in a legal list, and which.
use Rattle.std.proofs.Common.{◌≡◌, ◌<◌, ◌≤◌, refl, sym, ap, ◌∙◌, arith, ℕ, zero, suc, ◌+◌, Bool, true, false, cond, List, [], ◌∷◌, length}
use Rattle.std.specs.Prelude.{◌==◌, slice_index_or, sum_by, All}
use Rattle.std.proofs.lemmas.Bool.Decides.{nat_tests}
use Rattle.std.proofs.lemmas.List.Sums.{sum_by-cons}
use Rattle.std.proofs.lemmas.List.Elements.{All-nil, All-cons, All-head, All-tail}
use Rattle.dataset_meta.specs.DataValues.{DataValue}
use Rattle.pubsub_model.specs.History.{IsLegal, times_of}
use Rattle.pubsub_model.proofs.HistoryLaws.{times_of-cons}

abbrev Patches : Type 0
Patches = List (ℕ × DataValue)

-- ---- which threads

-- where something stands at an index, the list is longer
has_index : {X : Type 0} (xss : List (List X)) (k : ℕ) → 1 ≤ length (slice_index_or xss k []) → k < length xss
has_index [] k some = absurd (omega (arith, some))
has_index (xs ∷ xss) zero some = omega arith
has_index (xs ∷ xss) (suc k) some = omega (arith, has_index xss k some)

once_more : (thread : ℕ) (before : List ℕ) → 1 ≤ times_of thread (thread ∷ before)
once_more thread before =
    let same : (thread == thread) ≡ true = grind (arith, nat_tests) in
    omega (arith, times_of-cons thread thread before ∙ ap (λ (b : Bool). cond b 1 0 + times_of thread before) same)

all_have_patches : (patches : List (List Patches)) (threads : List ℕ) → ((thread : ℕ) → times_of thread threads ≤ length (slice_index_or patches thread []))
    → All (λ thread. thread < length patches) threads
all_have_patches patches [] few = All-nil (λ (thread : ℕ). thread < length patches)
all_have_patches patches (thread ∷ before) few =
    All-cons (λ (t : ℕ). t < length patches) thread before (has_index patches thread (omega (arith, once_more thread before, few thread)))
    (all_have_patches patches before (λ other. omega (arith, few other, times_of-cons other thread before)))

-- each thread of a legal list is one of those that have patches
pub legal-threads : (threads : List ℕ) (patches : List (List Patches)) → IsLegal threads patches → All (λ thread. thread < length patches) threads
legal-threads threads patches is = all_have_patches patches threads (λ thread. omega (arith, is.each thread))

-- ---- how many

-- the sum of a function's first values
abbrev total : (ℕ → ℕ) → ℕ → ℕ
total f zero = 0
total f (suc n) = f 0 + total (λ k. f (suc k)) n

total-same : (f g : ℕ → ℕ) (n : ℕ) → ((k : ℕ) → f k ≡ g k) → total f n ≡ total g n
total-same f g zero same = refl
total-same f g (suc n) same = omega (arith, same 0, total-same (λ k. f (suc k)) (λ k. g (suc k)) n (λ k. same (suc k)))

total-sum : (f g : ℕ → ℕ) (n : ℕ) → total (λ k. f k + g k) n ≡ total f n + total g n
total-sum f g zero = refl
total-sum f g (suc n) = omega (arith, total-sum (λ k. f (suc k)) (λ k. g (suc k)) n)

total-none : (f : ℕ → ℕ) (n : ℕ) → ((k : ℕ) → f k ≡ 0) → total f n ≡ 0
total-none f zero none = refl
total-none f (suc n) none = omega (arith, none 0, total-none (λ k. f (suc k)) n (λ k. none (suc k)))

abbrev one_if : Bool → ℕ
one_if b = cond b 1 0

if_same : (x k : ℕ) (b : Bool) → (x == k) ≡ b → one_if (suc x == suc k) ≡ one_if b
if_same x k true is = let same : (suc x == suc k) ≡ true = grind (arith, nat_tests, is) in rw same refl
if_same x k false is = let apart : (suc x == suc k) ≡ false = grind (arith, nat_tests, is) in rw apart refl

if_zero : (k : ℕ) → one_if (0 == suc k) ≡ 0
if_zero k = let apart : (0 == suc k) ≡ false = grind (arith, nat_tests) in rw apart refl

if_above : (x : ℕ) → one_if (suc x == 0) ≡ 0
if_above x = let apart : (suc x == 0) ≡ false = grind (arith, nat_tests) in rw apart refl

-- a number stands once among those below a greater one
total-one : (x n : ℕ) → x < n → total (λ k. one_if (x == k)) n ≡ 1
total-one x zero few = absurd (omega (arith, few))
total-one zero (suc n) few = ap (λ (m : ℕ). 1 + m) (total-none (λ k. one_if (0 == suc k)) n if_zero)
total-one (suc x) (suc n) few =
    ap (λ (m : ℕ). m + total (λ k. one_if (suc x == suc k)) n) (if_above x)
    ∙ ap (λ (m : ℕ). 0 + m) (total-same (λ k. one_if (suc x == suc k)) (λ k. one_if (x == k)) n (λ k. if_same x k (x == k) refl) ∙ total-one x n (omega (arith, few)))

-- a list is as long as the times of its threads together
length-total : (n : ℕ) (threads : List ℕ) → All (λ thread. thread < n) threads → length threads ≡ total (λ k. times_of k threads) n
length-total n [] all = sym (total-none (λ k. times_of k []) n (λ k. refl))
length-total n (thread ∷ before) all =
    let more = length-total n before (All-tail (λ (t : ℕ). t < n) thread before all) in
    let one = total-one thread n (All-head (λ (t : ℕ). t < n) thread before all) in
    sym (total-same (λ k. times_of k (thread ∷ before)) (λ k. one_if (thread == k) + times_of k before) n (λ k. times_of-cons k thread before)
    ∙ total-sum (λ k. one_if (thread == k)) (λ k. times_of k before) n
    ∙ omega (arith, more, one))

total-lengths : {X : Type 0} (f : ℕ → ℕ) (xss : List (List X)) → ((k : ℕ) → f k ≡ length (slice_index_or xss k [])) → total f (length xss) ≡ sum_by length xss
total-lengths f [] same = refl
total-lengths {X = X} f (xs ∷ xss) same =
    omega (arith, same 0, total-lengths (λ k. f (suc k)) xss (λ k. same (suc k)), sum_by-cons (λ (l : List X). length l) xs xss)

-- a legal list is as long as there are patches
pub legal-length : (threads : List ℕ) (patches : List (List Patches)) → IsLegal threads patches → length threads ≡ sum_by length patches
legal-length threads patches is =
    length-total (length patches) threads (legal-threads threads patches is) ∙ total-lengths (λ k. times_of k threads) patches is.each
