-- The writes of one data set, of all threads together, are few.
use Rattle.std.proofs.Common.{◌≡◌, refl, ap, arith, ℕ, zero, suc, ◌+◌, ◌<◌, ◌≤◌, ◌^◌, ◌==◌, ◌⊎◌, inl, inr, Bool, true, false, ◌&&◌, cond, List, [], ◌∷◌, map, slice_index_or, sum, sum_by, count_by}
use Rattle.std.specs.List.{range_with_len}
use Rattle.std.proofs.lemmas.Bool.{cases_lt, ne_eqb}
use Rattle.std.proofs.lemmas.List.Elements.{All-map}
use Rattle.std.proofs.lemmas.List.Sums.{sum-map, sum_by-cons}
use Rattle.cell_bank.specs.Hands.{AreSmall}
use Rattle.ps_script.specs.declared.script.Act.{Act}
use Rattle.ps_script.specs.declared.script.Act.TheVariants as act
use Rattle.ps_script.specs.declared.script.Line.{Line}
use Rattle.ps_script.specs.Sessions.{is_write, writes_in}
use Rattle.ps_script.specs.Sound.{AreFew, is_some_write}
use Rattle.script_player.specs.Sizes.{quotas_by}

abbrev pub one_if : Bool → ℕ
one_if b = cond b 1 0

-- ---- a write is of one thread

-- no thread of these numbers is the writer
none-writes : (writer other set from n : ℕ) → writer < from → sum_by (λ (thread : ℕ). one_if (writer == thread && other == set)) (range_with_len from n) ≡ 0
none-writes writer other set from zero low = refl
none-writes writer other set from (suc n) low =
    let apart : (writer == from) ≡ false = ne_eqb writer from (λ same. let wrong : ⊥ = omega arith in wrong) in
    let first : one_if (writer == from && other == set) ≡ 0 = ap (λ (b : Bool). one_if (b && other == set)) apart in
    let later : sum_by (λ (thread : ℕ). one_if (writer == thread && other == set)) (range_with_len (from + 1) n) ≡ 0 = none-writes writer other set (from + 1) n (omega arith) in
    let all = sum_by-cons (λ (thread : ℕ). one_if (writer == thread && other == set)) from (range_with_len (from + 1) n) in
    omega arith

one-at-most : (b : Bool) → one_if b ≤ 1
one-at-most true = omega arith
one-at-most false = omega arith

pub one-writes : (writer other set from n : ℕ) → sum_by (λ (thread : ℕ). one_if (writer == thread && other == set)) (range_with_len from n) ≤ 1
one-writes writer other set from zero = omega arith
one-writes writer other set from (suc n) = go (cases_lt from writer) (one-writes writer other set (from + 1) n)
  where
    go : (from < writer) ⊎ (writer ≤ from) → sum_by (λ (thread : ℕ). one_if (writer == thread && other == set)) (range_with_len (from + 1) n) ≤ 1
        → sum_by (λ (thread : ℕ). one_if (writer == thread && other == set)) (range_with_len from (suc n)) ≤ 1
    go (inl high) later =
        let apart : (writer == from) ≡ false = ne_eqb writer from (λ same. let wrong : ⊥ = omega arith in wrong) in
        let first : one_if (writer == from && other == set) ≡ 0 = ap (λ (b : Bool). one_if (b && other == set)) apart in
        let all = sum_by-cons (λ (thread : ℕ). one_if (writer == thread && other == set)) from (range_with_len (from + 1) n) in
        omega arith
    go (inr low) some =
        let first : one_if (writer == from && other == set) ≤ 1 = one-at-most (writer == from && other == set) in
        let later : sum_by (λ (thread : ℕ). one_if (writer == thread && other == set)) (range_with_len (from + 1) n) ≡ 0 = none-writes writer other set (from + 1) n (omega arith) in
        let all = sum_by-cons (λ (thread : ℕ). one_if (writer == thread && other == set)) from (range_with_len (from + 1) n) in
        omega arith

pub sum_by-none : (threads : List ℕ) → sum_by (λ (thread : ℕ). 0) threads ≡ 0
sum_by-none [] = refl
sum_by-none (thread ∷ threads) =
    let all = sum_by-cons (λ (t : ℕ). 0) thread threads in
    let later = sum_by-none threads in
    omega arith

act-writes : (set : ℕ) (a : Act) → sum_by (λ (thread : ℕ). one_if (is_write thread set a)) (range_with_len 0 8) ≤ one_if (is_some_write a)
act-writes set (act.Write writer other patch) = one-writes writer other set 0 8
act-writes set (act.Tick ms) = omega (arith, sum_by-none (range_with_len 0 8))
act-writes set (act.Enable id) = omega (arith, sum_by-none (range_with_len 0 8))
act-writes set (act.Disable id) = omega (arith, sum_by-none (range_with_len 0 8))
act-writes set (act.Fated k fate) = omega (arith, sum_by-none (range_with_len 0 8))
act-writes set (act.Watch thread reader times) = omega (arith, sum_by-none (range_with_len 0 8))
act-writes set (act.Append other) = omega (arith, sum_by-none (range_with_len 0 8))

-- ---- the writes of all lines

pub sum_by-both : (f g : ℕ → ℕ) (xs : List ℕ) → sum_by (λ x. f x + g x) xs ≡ sum_by f xs + sum_by g xs
sum_by-both f g [] = refl
sum_by-both f g (x ∷ xs) =
    let all = sum_by-cons (λ (y : ℕ). f y + g y) x xs in
    let one = sum_by-cons f x xs in
    let other = sum_by-cons g x xs in
    let later = sum_by-both f g xs in
    omega arith

pub sum_by-same : (f g : ℕ → ℕ) (xs : List ℕ) → ((x : ℕ) → f x ≡ g x) → sum_by f xs ≡ sum_by g xs
sum_by-same f g [] same = refl
sum_by-same f g (x ∷ xs) same =
    let one = sum_by-cons f x xs in
    let other = sum_by-cons g x xs in
    let here = same x in
    let later = sum_by-same f g xs same in
    omega arith

pub line-writes : (thread set : ℕ) (line : Line) (lines : List Line) → writes_in thread set (line ∷ lines) ≡ one_if (is_write thread set line.act) + writes_in thread set lines
line-writes thread set line lines = sum_by-cons (λ (l : Line). one_if (is_write thread set l.act)) line lines

all-writes : (set : ℕ) (lines : List Line) → sum_by (λ (thread : ℕ). writes_in thread set lines) (range_with_len 0 8) ≤ count_by (λ (line : Line). is_some_write line.act) lines
all-writes set [] = omega (arith, sum_by-none (range_with_len 0 8))
all-writes set (line ∷ lines) =
    let each =
    sum_by-same (λ (thread : ℕ). writes_in thread set (line ∷ lines)) (λ (thread : ℕ). one_if (is_write thread set line.act) + writes_in thread set lines)
    (range_with_len 0 8) (λ (thread : ℕ). line-writes thread set line lines) in
    let both = sum_by-both (λ (thread : ℕ). one_if (is_write thread set line.act)) (λ (thread : ℕ). writes_in thread set lines) (range_with_len 0 8) in
    let here = act-writes set line.act in
    let later = all-writes set lines in
    let count = sum_by-cons (λ (l : Line). one_if (is_some_write l.act)) line lines in
    omega arith

pub few-writes : (sets : ℕ) (lines : List Line) → AreFew lines → AreSmall (quotas_by sets lines)
few-writes sets lines few =
    All-map (λ (of_set : List ℕ). sum of_set < 2 ^ 63) (λ (set : ℕ). map (λ (thread : ℕ). writes_in thread set lines) (range_with_len 0 8)) (range_with_len 0 sets)
    (λ k d within. small (slice_index_or (range_with_len 0 sets) k d))
  where
    small : (set : ℕ) → sum (map (λ (thread : ℕ). writes_in thread set lines) (range_with_len 0 8)) < 2 ^ 63
    small set =
        let same = sum-map (λ (thread : ℕ). writes_in thread set lines) (range_with_len 0 8) in
        let most = all-writes set lines in
        let writes = few.writes in
        omega arith
