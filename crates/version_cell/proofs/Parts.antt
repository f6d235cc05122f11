-- A head and a row, of words behind which those that they stand for are 0.
use Rattle.std.proofs.Common.{◌≡◌, ℕ, ◌-◌, ◌≤◌, List, [], ◌∷◌, ◌++◌, length, take, drop, refl, sym, ap, ◌∙◌, arith, append_assoc, length-append, length-drop, length-take-le}
use Rattle.std.specs.Prelude.{replicate, slice_index, slice_range}
use Rattle.std.proofs.lemmas.List.{append-nil, drop_at, nil_from_length, take_all, take_at, take-append-drop}
use borrow.Rule.Slice.PartMut.{mid_of, post_of, put_mid}
use Rattle.version_cell.specs.declared.rule.View.{View}
use Rattle.version_cell.specs.Histories.{row_after}
use Rattle.version_cell.specs.Steps.{Reads}
use Rattle.version_cell.specs.Widths.{widened}
use Rattle.version_cell.proofs.Fronts.{row_wide}

-- what is put in the row: these words, and zeros behind
pub parted : (words head front zeros row : List ℕ) → 26 ≤ length words → length words ≤ 151 → length row ≡ 125 → head ≡ take 26 words → front ≡ take (length words - 26) (drop 26 words)
    → (let count = length words - 26 in
    let old = front ++ post_of 0 count row in
    zeros ≡ replicate (length (mid_of count (125 - count) old)) 0 → head ++ put_mid count (125 - count) old zeros ≡ widened (length words) words)
parted words head front zeros row wide small all head_is taken zeros_are =
    let count : ℕ = length words - 26 in
    let front_is : front ≡ drop 26 words = taken ∙ take_all count (drop 26 words) (omega (arith, length-drop 26 words)) in
    let long : length front ≡ count = ap length front_is ∙ length-drop 26 words in
    let old : List ℕ = front ++ post_of 0 count row in
    let left : length (drop count old) ≡ 125 - count = length-drop count old ∙ omega (arith, length-append front (post_of 0 count row), length-drop count row, long, all) in
    let behind : length (post_of {X = ℕ} count (125 - count) old) ≡ 0 = length-drop (125 - count) (drop count old) ∙ omega (arith, left) in
    let none : post_of {X = ℕ} count (125 - count) old ≡ [] = nil_from_length (post_of {X = ℕ} count (125 - count) old) behind in
    let few : length (mid_of count (125 - count) old) ≡ 151 - length words = length-take-le (125 - count) (drop count old) (omega (arith, left)) ∙ omega (arith, wide, small) in
    (λ i. head_is i ++ (take_at front (post_of 0 count row) count long i ++ (zeros_are i ++ none i)))
    ∙ ap (λ (l : List ℕ). take 26 words ++ (front ++ l)) (append-nil (replicate (length (mid_of count (125 - count) old)) 0) ∙ ap (λ (n : ℕ). replicate n 0) few)
    ∙ ap (λ (l : List ℕ). take 26 words ++ (l ++ replicate (151 - length words) 0)) front_is
    ∙ sym (append_assoc (take 26 words) (drop 26 words) (replicate (151 - length words) 0))
    ∙ ap (λ (l : List ℕ). l ++ replicate (151 - length words) 0) (take-append-drop 26 words)

pub version_found : (head row : List ℕ) → length head ≡ 26 → slice_index head 0 ≡ slice_index (head ++ row) 0
version_found [] row wide = absurd (omega (arith, wide))
version_found (version ∷ head) row wide = refl

pub row_found : (head row : List ℕ) → length head ≡ 26 → length row ≡ 125 → row ≡ slice_range (head ++ row) 26 151
row_found head row wide all = sym (ap (take 125) (drop_at head row 26 wide) ∙ take_all 125 row (omega (arith, all)))

-- what is found has the words of a row
pub row_long : (v w : View) (head row : List ℕ) → length head ≡ 26 → Reads v (head ++ row) (head ++ row) w → length row ≡ 125
row_long v w head row wide r =
    let all = ap length r.spelled in
    let long = row_wide r.terms w.seen r.lawful in
    let few = r.wide in
    omega (arith, all, long, few, wide, length-append head row, length-append r.terms (row_after w.seen))

-- the words that were found are those that were expected
pub found_same : (head row start : List ℕ) → length start ≡ 151 → head ≡ take 26 start → row ≡ take 125 (drop 26 start) → head ++ row ≡ start
found_same head row start all first rest =
    (λ i. first i ++ (rest ∙ take_all 125 (drop 26 start) (omega (arith, length-drop 26 start, all))) i) ∙ take-append-drop 26 start
