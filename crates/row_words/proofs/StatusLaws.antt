-- Statuses, two to a word.
use Rattle.std.proofs.Common.{◌≡◌, ℕ, zero, suc, ◌+◌, ◌-◌, ◌*◌, ◌/◌, ◌%◌, ◌^◌, ◌<◌, ◌≤◌, List, [], ◌∷◌, ◌++◌, length, take, drop, get_or, set, refl, sym, ap, ◌∙◌, arith, append_assoc}
use Rattle.std.specs.Prelude.{replicate, slice_index, slice_set, All}
use Rattle.std.specs.List.{flat_map}
use Rattle.std.proofs.lemmas.List.Elements.{All-nil, All-cons, All-head, All-tail}
use Rattle.std.proofs.lemmas.Grind.{flat_map-append}
use Rattle.row_words.specs.Digits.{from_digits, digits_of, grouped}
use Rattle.row_words.specs.Belonging.{statuses_in}
use Rattle.row_words.proofs.DigitLaws.{digits_of-from_digits, digits_in-grouped, from_digits-zeros}

-- one half of a word is another
abbrev pub half_set : ℕ → ℕ → ℕ → ℕ
half_set word r status = from_digits (2 ^ 32) (slice_set (digits_of (2 ^ 32) 2 word) r status)

abbrev pub AreStatuses : List ℕ → Type 0
AreStatuses xs = All (λ x. x < 2 ^ 32) xs

pair : (x y : ℕ) (xs : List ℕ) → AreStatuses (x ∷ y ∷ xs) → AreStatuses (x ∷ y ∷ [])
pair x y xs all =
    let P = λ (z : ℕ). z < 2 ^ 32 in
    All-cons P x (y ∷ []) (All-head P x (y ∷ xs) all) (All-cons P y [] (All-head P y xs (All-tail P x (y ∷ xs) all)) (All-nil P))

-- the halves of a word are what it was made of
two : (x y : ℕ) (xs : List ℕ) → AreStatuses (x ∷ y ∷ xs) → digits_of (2 ^ 32) 2 (from_digits (2 ^ 32) (x ∷ y ∷ [])) ≡ x ∷ y ∷ []
two x y xs all = digits_of-from_digits (2 ^ 32) 2 (x ∷ y ∷ []) (pair x y xs all) (omega arith)

one : (x : ℕ) → AreStatuses (x ∷ []) → digits_of (2 ^ 32) 2 (from_digits (2 ^ 32) (x ∷ [])) ≡ x ∷ 0 ∷ []
one x all = digits_of-from_digits (2 ^ 32) 2 (x ∷ []) all (omega arith)

rest_all : (x y : ℕ) (xs : List ℕ) → AreStatuses (x ∷ y ∷ xs) → AreStatuses xs
rest_all x y xs all = let P = λ (z : ℕ). z < 2 ^ 32 in All-tail P y xs (All-tail P x (y ∷ xs) all)

-- a status is read in its half of its word
pub half_read : (count q r : ℕ) (xs more : List ℕ) → AreStatuses xs → r < 2 → 2 * q + r < length xs → length xs ≤ 2 * count
    → slice_index (digits_of (2 ^ 32) 2 (get_or (grouped (2 ^ 32) 2 count xs ++ more) q 0)) r ≡ get_or xs (2 * q + r) 0
half_read zero q r xs more all small within room = absurd (omega arith)
half_read (suc count) q r [] more all small within room = absurd (omega arith)
half_read (suc count) zero zero (x ∷ []) more all small within room = ap (λ (ds : List ℕ). slice_index ds 0) (one x all)
half_read (suc count) zero (suc r) (x ∷ []) more all small within room = absurd (omega arith)
half_read (suc count) zero zero (x ∷ y ∷ xs) more all small within room = ap (λ (ds : List ℕ). slice_index ds 0) (two x y xs all)
half_read (suc count) zero (suc zero) (x ∷ y ∷ xs) more all small within room = ap (λ (ds : List ℕ). slice_index ds 1) (two x y xs all)
half_read (suc count) zero (suc (suc r)) (x ∷ y ∷ xs) more all small within room = absurd (omega arith)
half_read (suc count) (suc q) r (x ∷ []) more all small within room = absurd (omega arith)
half_read (suc count) (suc q) r (x ∷ y ∷ xs) more all small within room =
    let next : 2 * suc q + r ≡ suc (suc (2 * q + r)) = omega arith in
    half_read count q r xs more (rest_all x y xs all) small (omega arith) (omega arith) ∙ ap (λ (k : ℕ). get_or (x ∷ y ∷ xs) k 0) (sym next)

-- and written there
pub half_written : (count q r status : ℕ) (xs more : List ℕ) → AreStatuses xs → r < 2 → 2 * q + r < length xs → length xs ≤ 2 * count
    → set (grouped (2 ^ 32) 2 count xs ++ more) q (half_set (get_or (grouped (2 ^ 32) 2 count xs ++ more) q 0) r status)
    ≡ grouped (2 ^ 32) 2 count (slice_set xs (2 * q + r) status) ++ more
half_written zero q r status xs more all small within room = absurd (omega arith)
half_written (suc count) q r status [] more all small within room = absurd (omega arith)
half_written (suc count) zero zero status (x ∷ []) more all small within room =
    ap (λ (w : ℕ). w ∷ (grouped (2 ^ 32) 2 count [] ++ more))
    (ap (λ (ds : List ℕ). from_digits (2 ^ 32) (slice_set ds 0 status)) (one x all) ∙ from_digits-zeros (2 ^ 32) (status ∷ []) 1)
half_written (suc count) zero (suc r) status (x ∷ []) more all small within room = absurd (omega arith)
half_written (suc count) zero zero status (x ∷ y ∷ xs) more all small within room =
    ap (λ (w : ℕ). w ∷ (grouped (2 ^ 32) 2 count xs ++ more)) (ap (λ (ds : List ℕ). from_digits (2 ^ 32) (slice_set ds 0 status)) (two x y xs all))
half_written (suc count) zero (suc zero) status (x ∷ y ∷ xs) more all small within room =
    ap (λ (w : ℕ). w ∷ (grouped (2 ^ 32) 2 count xs ++ more)) (ap (λ (ds : List ℕ). from_digits (2 ^ 32) (slice_set ds 1 status)) (two x y xs all))
half_written (suc count) zero (suc (suc r)) status (x ∷ y ∷ xs) more all small within room = absurd (omega arith)
half_written (suc count) (suc q) r status (x ∷ []) more all small within room = absurd (omega arith)
half_written (suc count) (suc q) r status (x ∷ y ∷ xs) more all small within room =
    let next : 2 * suc q + r ≡ suc (suc (2 * q + r)) = omega arith in
    ap (λ (ws : List ℕ). from_digits (2 ^ 32) (x ∷ y ∷ []) ∷ ws) (half_written count q r status xs more (rest_all x y xs all) small (omega arith) (omega arith))
    ∙ ap (λ (k : ℕ). grouped (2 ^ 32) 2 (suc count) (slice_set (x ∷ y ∷ xs) k status) ++ more) (sym next)

-- the statuses that words were made of
unfoldable pub rest_behind : ℕ → List ℕ → List ℕ → List ℕ
rest_behind count xs more = replicate (2 * count - length xs) 0 ++ flat_map (digits_of (2 ^ 32) 2) more

pub statuses_in-grouped : (count : ℕ) (xs more : List ℕ) → AreStatuses xs → length xs ≤ 2 * count
    → statuses_in (grouped (2 ^ 32) 2 count xs ++ more) ≡ xs ++ rest_behind count xs more
unfolding statuses_in rest_behind
statuses_in-grouped count xs more all room =
    flat_map-append (digits_of (2 ^ 32) 2) (grouped (2 ^ 32) 2 count xs) more
    ∙ ap (λ (front : List ℕ). front ++ flat_map (digits_of (2 ^ 32) 2) more) (digits_in-grouped (2 ^ 32) 2 count xs all room)
    ∙ append_assoc xs (replicate (2 * count - length xs) 0) (flat_map (digits_of (2 ^ 32) 2) more)

abbrev pub AreWords : List ℕ → Type 0
AreWords ws = All (λ w. w < 2 ^ 64) ws

whole : (w : ℕ) → w < 2 ^ 64 → w % 2 ^ 32 + 2 ^ 32 * (w / 2 ^ 32 % 2 ^ 32 + 2 ^ 32 * 0) ≡ w
whole w small = omega arith

lower : (w : ℕ) → w % 2 ^ 32 + 2 ^ 32 * 0 ≡ w % 2 ^ 32
lower w = omega arith

-- the words of the first statuses, an even count of them
cut_even : (q : ℕ) (ws : List ℕ) → AreWords ws → q ≤ length ws → grouped (2 ^ 32) 2 q (take (2 * q) (flat_map (digits_of (2 ^ 32) 2) ws)) ≡ take q ws
cut_even zero ws all within = refl
cut_even (suc q) [] all within = absurd (omega arith)
cut_even (suc q) (w ∷ ws) all within =
    let P = λ (z : ℕ). z < 2 ^ 64 in
    let next : 2 * suc q ≡ suc (suc (2 * q)) = omega arith in
    ap (λ (k : ℕ). grouped (2 ^ 32) 2 (suc q) (take k (flat_map (digits_of (2 ^ 32) 2) (w ∷ ws)))) next
    ∙ ap (λ (n : ℕ). n ∷ grouped (2 ^ 32) 2 q (take (2 * q) (flat_map (digits_of (2 ^ 32) 2) ws))) (whole w (All-head P w ws all))
    ∙ ap (λ (rest : List ℕ). w ∷ rest) (cut_even q ws (All-tail P w ws all) (omega arith))

-- and an odd one, whose last word has its lower half alone
cut_odd : (q : ℕ) (ws : List ℕ) → AreWords ws → q < length ws
    → grouped (2 ^ 32) 2 (suc q) (take (suc (2 * q)) (flat_map (digits_of (2 ^ 32) 2) ws)) ≡ take q ws ++ get_or ws q 0 % 2 ^ 32 ∷ []
cut_odd q [] all within = absurd (omega arith)
cut_odd zero (w ∷ ws) all within = ap (λ (n : ℕ). n ∷ []) (lower w)
cut_odd (suc q) (w ∷ ws) all within =
    let P = λ (z : ℕ). z < 2 ^ 64 in
    let next : suc (2 * suc q) ≡ suc (suc (suc (2 * q))) = omega arith in
    ap (λ (k : ℕ). grouped (2 ^ 32) 2 (suc (suc q)) (take k (flat_map (digits_of (2 ^ 32) 2) (w ∷ ws)))) next
    ∙ ap (λ (n : ℕ). n ∷ grouped (2 ^ 32) 2 (suc q) (take (suc (2 * q)) (flat_map (digits_of (2 ^ 32) 2) ws))) (whole w (All-head P w ws all))
    ∙ ap (λ (rest : List ℕ). w ∷ rest) (cut_odd q ws (All-tail P w ws all) (omega arith))

lower_set : (q : ℕ) (ws back : List ℕ) → q < length ws
    → set (take (suc q) ws ++ back) q (get_or (take (suc q) ws ++ back) q 0 % 2 ^ 32) ≡ (take q ws ++ get_or ws q 0 % 2 ^ 32 ∷ []) ++ back
lower_set q [] back within = absurd (omega arith)
lower_set zero (w ∷ ws) back within = refl
lower_set (suc q) (w ∷ ws) back within = ap (λ (rest : List ℕ). w ∷ rest) (lower_set q ws back (omega arith))

-- what is written over the front of `to`
pub cut_copied : (count : ℕ) (from to : List ℕ) → AreWords from → (count + 1) / 2 ≤ length from → count % 2 ≡ 0
    → take ((count + 1) / 2) from ++ drop ((count + 1) / 2) to ≡ grouped (2 ^ 32) 2 ((count + 1) / 2) (take count (statuses_in from)) ++ drop ((count + 1) / 2) to
unfolding statuses_in
cut_copied count from to all room even =
    let twice : 2 * ((count + 1) / 2) ≡ count = omega arith in
    ap (λ (front : List ℕ). front ++ drop ((count + 1) / 2) to)
    (sym (cut_even ((count + 1) / 2) from all room) ∙ ap (λ (k : ℕ). grouped (2 ^ 32) 2 ((count + 1) / 2) (take k (statuses_in from))) twice)

pub cut_lowered : (count : ℕ) (from to : List ℕ) → AreWords from → (count + 1) / 2 ≤ length from → count % 2 ≡ 1
    → set (take ((count + 1) / 2) from ++ drop ((count + 1) / 2) to) ((count + 1) / 2 - 1)
    (get_or (take ((count + 1) / 2) from ++ drop ((count + 1) / 2) to) ((count + 1) / 2 - 1) 0 % 2 ^ 32)
    ≡ grouped (2 ^ 32) 2 ((count + 1) / 2) (take count (statuses_in from)) ++ drop ((count + 1) / 2) to
unfolding statuses_in
cut_lowered count from to all room odd =
    let words : (count + 1) / 2 ≡ suc (count / 2) = omega arith in
    let last : (count + 1) / 2 - 1 ≡ count / 2 = omega arith in
    let twice : suc (2 * (count / 2)) ≡ count = omega arith in
    rw (last, words)
    (lower_set (count / 2) from (drop (suc (count / 2)) to) (omega arith)
    ∙ ap (λ (front : List ℕ). front ++ drop (suc (count / 2)) to)
    (sym (cut_odd (count / 2) from all (omega arith)) ∙ ap (λ (k : ℕ). grouped (2 ^ 32) 2 (suc (count / 2)) (take k (statuses_in from))) twice))
