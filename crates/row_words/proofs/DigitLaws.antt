-- Digits of numbers that are made of digits.
use Rattle.std.proofs.Common.{◌≡◌, ℕ, zero, suc, ◌+◌, ◌-◌, ◌*◌, ◌/◌, ◌%◌, ◌<◌, ◌≤◌, Bool, true, false, List, [], ◌∷◌, ◌++◌, length, take, drop, refl, sym, ap, ◌∙◌, arith, append_assoc, length-append, length-take, length-drop, take-append-drop}
use Rattle.std.specs.Prelude.{replicate, nat_le}
use Rattle.std.specs.List.{flat_map}
use Rattle.std.proofs.Math.Seq.{take-nil}
use Rattle.std.proofs.lemmas.Bool.Decides.{nat_tests}
use Rattle.std.specs.List.{All}
use Rattle.std.proofs.Math.Nat.{add-mul-mod_self_left, add-mul-div_left, zero-mod, zero-div, mod-eq_of_lt, div-eq_of_lt}
use Rattle.std.proofs.lemmas.List.{append-nil, replicate-append-replicate, take_all, drop_all, drop-drop}
use Rattle.std.proofs.lemmas.List.Elements.{All-head, All-tail, All-take, All-drop}
use Rattle.row_words.specs.Digits.{from_digits, digits_of, grouped}

pub length-digits_of : (base count n : ℕ) → length (digits_of base count n) ≡ count
length-digits_of base zero n = refl
length-digits_of base (suc count) n = ap suc (length-digits_of base count (n / base))

digits_of-zero : (base count : ℕ) → digits_of base count 0 ≡ replicate count 0
digits_of-zero base zero = refl
digits_of-zero base (suc count) =
    ap (λ (d : ℕ). d ∷ digits_of base count (0 / base)) (zero-mod base)
    ∙ ap (λ (n : ℕ). 0 ∷ digits_of base count n) (zero-div base) ∙ ap (λ (ds : List ℕ). 0 ∷ ds) (digits_of-zero base count)

lowest : (base digit rest : ℕ) → digit < base → (digit + base * rest) % base ≡ digit
lowest base digit rest below = add-mul-mod_self_left digit base rest ∙ mod-eq_of_lt below

others : (base digit rest : ℕ) → digit < base → (digit + base * rest) / base ≡ rest
others base digit rest below =
    let some : zero < base = omega arith in
    let none : digit / base ≡ 0 = div-eq_of_lt below in
    add-mul-div_left digit rest some ∙ omega (arith, none)

-- the digits are those that the number was made of, and zeros
pub digits_of-from_digits : (base count : ℕ) (xs : List ℕ) → All (λ x. x < base) xs → length xs ≤ count
    → digits_of base count (from_digits base xs) ≡ xs ++ replicate (count - length xs) 0
digits_of-from_digits base count [] all few =
    let all_left : count ≡ count - 0 = omega arith in digits_of-zero base count ∙ ap (λ (n : ℕ). replicate n 0) all_left
digits_of-from_digits base zero (x ∷ xs) all few = absurd (omega arith)
digits_of-from_digits base (suc count) (x ∷ xs) all few =
    let below : x < base = All-head (λ (y : ℕ). y < base) x xs all in
    let left : suc count - length (x ∷ xs) ≡ count - length xs = omega arith in
    ap (λ (d : ℕ). d ∷ digits_of base count ((x + base * from_digits base xs) / base)) (lowest base x (from_digits base xs) below)
    ∙ ap (λ (n : ℕ). x ∷ digits_of base count n) (others base x (from_digits base xs) below)
    ∙ ap (λ (ds : List ℕ). x ∷ ds) (digits_of-from_digits base count xs (All-tail (λ (y : ℕ). y < base) x xs all) (omega arith))
    ∙ ap (λ (n : ℕ). x ∷ (xs ++ replicate n 0)) (sym left)

pub length-grouped : (base size count : ℕ) (xs : List ℕ) → length (grouped base size count xs) ≡ count
length-grouped base size zero xs = refl
length-grouped base size (suc count) xs = ap suc (length-grouped base size count (drop size xs))

pub length-digits_in : (base size : ℕ) (numbers : List ℕ) → length (flat_map (digits_of base size) numbers) ≡ size * length numbers
length-digits_in base size [] = omega arith
length-digits_in base size (n ∷ numbers) =
    length-append (digits_of base size n) (flat_map (digits_of base size) numbers)
    ∙ omega (arith, length-digits_of base size n, length-digits_in base size numbers)

-- what a group has, and then zeros where the list ends within it
one_group : (size more : ℕ) (xs : List ℕ) (b : Bool) → nat_le size (length xs) ≡ b → length xs ≤ size + more
    → (take size xs ++ replicate (size - length (take size xs)) 0) ++ (drop size xs ++ replicate (more - length (drop size xs)) 0)
    ≡ xs ++ replicate ((size + more) - length xs) 0
one_group size more xs true e few =
    let long : size ≤ length xs = grind (arith, nat_tests) in
    let none : size - length (take size xs) ≡ 0 = omega (arith, length-take size xs) in
    let left : more - length (drop size xs) ≡ (size + more) - length xs = omega (arith, length-drop size xs) in
    rw (none, left)
    (ap (λ (front : List ℕ). front ++ (drop size xs ++ replicate ((size + more) - length xs) 0)) (append-nil (take size xs))
    ∙ sym (append_assoc (take size xs) (drop size xs) (replicate ((size + more) - length xs) 0))
    ∙ ap (λ (all : List ℕ). all ++ replicate ((size + more) - length xs) 0) (take-append-drop size xs))
one_group size more xs false e few =
    let short : length xs ≤ size = grind (arith, nat_tests) in
    let sum : (size - length xs) + more ≡ (size + more) - length xs = omega arith in
    let all_left : more - 0 ≡ more = omega arith in
    rw (take_all size xs short, drop_all size xs short, all_left)
    (append_assoc xs (replicate (size - length xs) 0) (replicate more 0)
    ∙ ap (λ (zeros : List ℕ). xs ++ zeros) (replicate-append-replicate (size - length xs) more 0 ∙ ap (λ (n : ℕ). replicate n 0) sum))

pub digits_in-grouped : (base size count : ℕ) (xs : List ℕ) → All (λ x. x < base) xs → length xs ≤ size * count
    → flat_map (digits_of base size) (grouped base size count xs) ≡ xs ++ replicate (size * count - length xs) 0
digits_in-grouped base size zero [] all few =
    let none : size * 0 - 0 ≡ 0 = omega arith in ap (λ (n : ℕ). replicate n 0) (sym none)
digits_in-grouped base size zero (x ∷ xs) all few = absurd (omega arith)
digits_in-grouped base size (suc count) xs all few =
    let next : size * suc count ≡ size + size * count = omega arith in
    let first = digits_of-from_digits base size (take size xs) (All-take (λ (y : ℕ). y < base) size xs all) (omega (arith, length-take size xs)) in
    let rest = digits_in-grouped base size count (drop size xs) (All-drop (λ (y : ℕ). y < base) size xs all) (omega (arith, length-drop size xs)) in
    ap (λ (front : List ℕ). front ++ flat_map (digits_of base size) (grouped base size count (drop size xs))) first
    ∙ ap (λ (back : List ℕ). (take size xs ++ replicate (size - length (take size xs)) 0) ++ back) rest
    ∙ one_group size (size * count) xs (nat_le size (length xs)) refl (omega arith)
    ∙ ap (λ (n : ℕ). xs ++ replicate (n - length xs) 0) (sym next)

-- one group more
pub grouped_more : (base size count : ℕ) (xs : List ℕ)
    → grouped base size (count + 1) xs ≡ grouped base size count xs ++ from_digits base (take size (drop (size * count) xs)) ∷ []
grouped_more base size zero xs =
    let none : size * 0 ≡ 0 = omega arith in
    ap (λ (n : ℕ). from_digits base (take size (drop n xs)) ∷ []) (sym none)
grouped_more base size (suc count) xs =
    let next : size + size * count ≡ size * suc count = omega arith in
    let one : suc count + 1 ≡ suc (count + 1) = omega arith in
    ap (λ (n : ℕ). grouped base size n xs) one
    ∙ ap (λ (rest : List ℕ). from_digits base (take size xs) ∷ rest)
    (grouped_more base size count (drop size xs)
    ∙ ap (λ (back : List ℕ). grouped base size count (drop size xs) ++ from_digits base (take size back) ∷ [])
    (drop-drop (size * count) size xs ∙ ap (λ (n : ℕ). drop n xs) next))

-- zeros give nothing
pub from_digits-zeros : (base : ℕ) (xs : List ℕ) (n : ℕ) → from_digits base (xs ++ replicate n 0) ≡ from_digits base xs
from_digits-zeros base [] zero = refl
from_digits-zeros base [] (suc n) = ap (λ (r : ℕ). 0 + base * r) (from_digits-zeros base [] n) ∙ omega arith
from_digits-zeros base (x ∷ xs) n = ap (λ (r : ℕ). x + base * r) (from_digits-zeros base xs n)

pub grouped-nil : (base size count : ℕ) → grouped base size count [] ≡ replicate count 0
grouped-nil base size zero = refl
grouped-nil base size (suc count) =
    ap (λ (xs : List ℕ). from_digits base xs ∷ grouped base size count (drop size [])) (take-nil size)
    ∙ ap (λ (xs : List ℕ). 0 ∷ grouped base size count xs) (drop_all size [] (omega arith))
    ∙ ap (λ (xs : List ℕ). 0 ∷ xs) (grouped-nil base size count)
