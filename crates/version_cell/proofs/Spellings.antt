-- The parts of a spelling.
use Rattle.std.proofs.Common.{◌≡◌, ℕ, zero, suc, ◌+◌, ◌-◌, ◌≤◌, List, [], ◌∷◌, ◌++◌, length, take, drop, refl, sym, ap, ◌∙◌, arith, length-append, length-drop, length-take-le}
use Rattle.std.specs.Prelude.{replicate, slice_range, slice_set}
use Rattle.std.proofs.Math.Seq.{take-append-add}
use Rattle.std.proofs.lemmas.List.{append-nil, length-replicate, nil_from_length, take_all, take_at, drop_at, append_cancel_left}
use borrow.Rule.Slice.PartMut.{mid_of, post_of, put_mid}
use Rattle.version_cell.specs.Rule.{spell}

-- the first words of a spelling, put in place of zeros one after another
pub put_first : (n v c : ℕ) (row terms row' terms' : List ℕ) → 26 ≤ n → n ≤ 151 → terms' ≡ terms → row' ≡ take (n - 26) row
    → (let zeros = slice_set (slice_set (replicate n 0) 0 v) 1 c in
    let begun = put_mid 2 24 zeros terms' in length terms' ≡ length (mid_of 2 24 zeros) → put_mid 26 (length begun - 26) begun row' ≡ take n (spell v c row terms))
put_first zero v c row terms row' terms' wide small e d few = absurd (omega (arith, wide))
put_first (suc zero) v c row terms row' terms' wide small e d few = absurd (omega (arith, wide))
put_first (suc (suc m)) v c row terms row' terms' wide small e d few =
    let zeros : List ℕ = replicate m 0 in
    let begun : List ℕ = v ∷ c ∷ (terms' ++ drop 24 zeros) in
    let more : ℕ = suc (suc m) - 26 in
    let long : length terms' ≡ 24 = few ∙ length-take-le 24 zeros (omega (arith, length-replicate {A = ℕ} m 0, wide)) in
    let terms_long : length terms ≡ 24 = ap length (sym e) ∙ long in
    let front : take 24 (terms' ++ drop 24 zeros) ≡ terms = take_at terms' (drop 24 zeros) 24 long ∙ e in
    let behind : length (post_of {X = ℕ} 26 (length begun - 26) begun) ≡ 0 = length-drop (length begun - 26) (drop 26 begun) ∙ omega (arith, length-drop 26 begun) in
    let none : post_of {X = ℕ} 26 (length begun - 26) begun ≡ [] = nil_from_length (post_of {X = ℕ} 26 (length begun - 26) begun) behind in
    (λ i. v ∷ c ∷ (front i ++ ((ap (λ l. row' ++ l) none ∙ append-nil row' ∙ d) i)))
    ∙ ap (λ (l : List ℕ). v ∷ c ∷ l) (sym (ap (λ (k : ℕ). take k (terms ++ row)) (let is : m ≡ length terms + more = omega (arith, terms_long, wide) in is) ∙ take-append-add terms row more))

pub row_of_spell : (v c : ℕ) (row terms : List ℕ) → length terms ≡ 24 → length row ≡ 125 → slice_range (spell v c row terms) 26 151 ≡ row
row_of_spell v c row terms few wide = ap (take 125) (drop_at terms row 24 few) ∙ take_all 125 row (omega (arith, wide))

pub equal_parts : (version other_version count other_count : ℕ) (row other_row terms other_terms : List ℕ) → length row ≡ 125 → length other_row ≡ 125
    → spell version count row terms ≡ spell other_version other_count other_row other_terms → (version ≡ other_version) × (count ≡ other_count) × (row ≡ other_row) × (terms ≡ other_terms)
equal_parts version other_version count other_count row other_row terms other_terms wide other_wide e =
    let behind : terms ++ row ≡ other_terms ++ other_row = ap (λ l. drop 2 l) e in
    let few : length terms ≡ length other_terms = omega (arith, ap length behind, length-append terms row, length-append other_terms other_row, wide, other_wide) in
    let terms_is : terms ≡ other_terms = sym (take_at terms row (length other_terms) few) ∙ ap (take (length other_terms)) behind ∙ take_at other_terms other_row (length other_terms) refl in
    let row_is : row ≡ other_row = append_cancel_left terms row other_row (behind ∙ ap (λ l. l ++ other_row) (sym terms_is)) in
    let v : version ≡ other_version = cc in
    let c : count ≡ other_count = cc in
    (v, c, row_is, terms_is)

pub put_two_parts : (first second z first' second' : List ℕ) → first' ≡ first → second' ≡ second → length first ≡ 8 → length z ≡ 16
    → take 8 (first' ++ z) ++ (second' ++ post_of {X = ℕ} 8 16 (first' ++ z)) ≡ first ++ second
put_two_parts first second z first' second' e d wide few =
    let front : take 8 (first' ++ z) ≡ first = take_at first' z 8 (ap length e ∙ wide) ∙ e in
    let behind : length (post_of {X = ℕ} 8 16 (first' ++ z)) ≡ 0 = length-drop 16 (drop 8 (first' ++ z)) ∙ omega (arith, length-drop 8 (first' ++ z), length-append first' z, ap length e) in
    let none = nil_from_length (post_of {X = ℕ} 8 16 (first' ++ z)) behind in
    λ i. front i ++ ((ap (λ l. second' ++ l) none ∙ append-nil second' ∙ d) i)
