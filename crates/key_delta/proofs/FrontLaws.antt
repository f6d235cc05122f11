-- What stands behind the words that are used.
use Rattle.std.proofs.Common.{◌≡◌, ℕ, zero, suc, ◌+◌, ◌-◌, ◌*◌, ◌^◌, ◌<◌, ◌≤◌, Bool, true, false, List, [], ◌∷◌, ◌++◌, length, take, drop, replicate, refl, sym, ap, ◌∙◌, subst, arith, append_assoc, length-append, take-append-drop}
use Rattle.std.specs.Prelude.{map, ltb}
use Rattle.std.proofs.lemmas.Bool.Decides.{nat_tests, Decides-ltb}
use Rattle.std.proofs.Math.Seq.{drop-append-add, drop-append_seam, take-nil, drop-nil}
use Rattle.std.proofs.lemmas.List.{drop-drop, drop-replicate, length-take-le, length-replicate, length-take, take_all, replicate-append-replicate}
use Rattle.dataset_meta.specs.declared.field.Field.{Field}
use Rattle.dataset_meta.specs.DataValues.{DataValue}
use Rattle.dataset_meta.specs.Metas.{MetaData, IsMeta, words_of, value_words, status_words}
use Rattle.dataset_meta.specs.Rows.{IsRowOf}
use Rattle.row_words.specs.Digits.{from_digits, grouped}
use Rattle.row_words.specs.Belonging.{Belongs, row_in, spelled_values, spelled_statuses, spelled_parts, spelled_row}
use Rattle.row_words.proofs.RowLaws.{length-spelled_values, length-spelled_statuses}
use Rattle.key_delta.specs.Fronts.{HasZerosBehind}
use Rattle.key_delta.proofs.FieldWords.{fronts}

-- behind the words of a row's meta
zeros-of : (meta : MetaData) (words : List ℕ) (used : ℕ) → Belongs meta words → words_of meta.fields ≤ used → used ≤ 125 → drop used words ≡ replicate (125 - used) 0
zeros-of meta words used belongs covers narrow =
    let count : ℕ = words_of meta.fields in
    let front : List ℕ = take count words in
    let long : length front ≡ count = length-take-le count words (omega (arith, belongs.whole)) in
    let split : used ≡ length front + (used - count) = omega (arith, long, covers) in
    let rest : (125 - count) - (used - count) ≡ 125 - used = omega (arith, covers) in
    ap (drop used) (fronts meta words belongs)
    ∙ ap (λ (n : ℕ). drop n (front ++ replicate (125 - count) 0)) split
    ∙ drop-append-add front (replicate (125 - count) 0) (used - count)
    ∙ drop-replicate (used - count) (125 - count) 0
    ∙ ap (λ (n : ℕ). replicate n 0) rest

pub belongs_behind : (meta : MetaData) (words : List ℕ) (used : ℕ) → Belongs meta words → words_of meta.fields ≤ used → used ≤ 125 → HasZerosBehind used words
belongs_behind meta words used belongs covers narrow = record { whole = belongs.whole; zeros = zeros-of meta words used belongs covers narrow }

-- and so behind more words
pub wider_behind : (used more : ℕ) (words : List ℕ) → HasZerosBehind used words → used ≤ more → HasZerosBehind more words
wider_behind used more words behind grows =
    let split : more ≡ used + (more - used) = omega arith in
    let rest : (125 - used) - (more - used) ≡ 125 - more = omega arith in
    record {
      whole = behind.whole;
      zeros = ap (λ (n : ℕ). drop n words) split
          ∙ sym (drop-drop (more - used) used words)
          ∙ ap (drop (more - used)) behind.zeros
          ∙ drop-replicate (more - used) (125 - used) 0
          ∙ ap (λ (n : ℕ). replicate n 0) rest;
    }

pub opening_behind : (used : ℕ) (words : List ℕ) → words ≡ replicate 125 0 → HasZerosBehind used words
opening_behind used words zeros = record {
  whole = ap length zeros ∙ length-replicate {A = ℕ} 125 0;
  zeros = ap (drop used) zeros ∙ drop-replicate used 125 0;
}

-- without quality each status is zero
good_statuses : (fields : List Field) (row : List DataValue) → IsRowOf false fields row → map (λ x. x.status) row ≡ replicate (length fields) 0
good_statuses [] [] is = refl
good_statuses [] (x ∷ row) is = absurd is
good_statuses (field ∷ fields) [] is = absurd is
good_statuses (field ∷ fields) (x ∷ row) is =
    ap (λ (n : ℕ). n ∷ map (λ (x : DataValue). x.status) row) is.0.is_status ∙ ap (λ (ns : List ℕ). 0 ∷ ns) (good_statuses fields row is.1)

-- nothing and zeros in groups are zeros
none_grouped : (base size count : ℕ) → grouped base size count [] ≡ replicate count 0
none_grouped base size zero = refl
none_grouped base size (suc count) =
    ap (λ (xs : List ℕ). from_digits base xs ∷ grouped base size count (drop size [])) (take-nil size)
    ∙ ap (λ (xs : List ℕ). 0 ∷ grouped base size count xs) (drop-nil size)
    ∙ ap (λ (xs : List ℕ). 0 ∷ xs) (none_grouped base size count)

zeros_grouped : (base count n : ℕ) → grouped base 2 count (replicate n 0) ≡ replicate count 0
zeros_grouped base zero n = refl
zeros_grouped base (suc count) zero = none_grouped base 2 (suc count)
zeros_grouped base (suc count) (suc zero) =
    let none : 0 + base * 0 ≡ 0 = omega arith in
    ap (λ (w : ℕ). w ∷ grouped base 2 count []) none ∙ ap (λ (ws : List ℕ). 0 ∷ ws) (none_grouped base 2 count)
zeros_grouped base (suc count) (suc (suc n)) =
    let none : 0 + base * (0 + base * 0) ≡ 0 = omega arith in
    ap (λ (w : ℕ). w ∷ grouped base 2 count (replicate n 0)) none ∙ ap (λ (ws : List ℕ). 0 ∷ ws) (zeros_grouped base count n)

zero_statuses : (fields : List Field) (row : List DataValue) → IsRowOf false fields row → spelled_statuses fields row ≡ replicate (status_words fields) 0
unfolding spelled_statuses
zero_statuses fields row is =
    ap (grouped (2 ^ 32) 2 (status_words fields)) (good_statuses fields row is) ∙ zeros_grouped (2 ^ 32) (status_words fields) (length fields)

drop_parts : (values statuses : List ℕ) (count : ℕ) → length statuses ≡ count → statuses ≡ replicate count 0 → length values + count ≤ 125
    → drop (length values) ((values ++ statuses) ++ replicate (125 - length (values ++ statuses)) 0) ≡ replicate (125 - length values) 0
drop_parts values statuses count long zeros room =
    let rest : List ℕ = replicate (125 - length (values ++ statuses)) 0 in
    let all : count + (125 - length (values ++ statuses)) ≡ 125 - length values = omega (arith, long, length-append values statuses, room) in
    ap (drop (length values)) (append_assoc values statuses rest)
    ∙ drop-append_seam values (statuses ++ rest)
    ∙ ap (λ (ws : List ℕ). ws ++ rest) zeros
    ∙ replicate-append-replicate count (125 - length (values ++ statuses)) 0
    ∙ ap (λ (n : ℕ). replicate n 0) all

good_row : (fields : List Field) (row : List DataValue) → IsRowOf false fields row → words_of fields ≤ 125 → drop (value_words fields) (spelled_row fields row) ≡ replicate (125 - value_words fields) 0
unfolding spelled_row
good_row fields row is room =
    let long = length-spelled_values false fields row is in
    subst (λ (n : ℕ). drop n (spelled_parts fields row ++ replicate (125 - length (spelled_parts fields row)) 0) ≡ replicate (125 - n) 0) long
    (drop_parts (spelled_values fields row) (spelled_statuses fields row) (status_words fields) (length-spelled_statuses fields row) (zero_statuses fields row is) (omega (arith, long, room)))

-- without quality a row has zeros behind the words of its values
pub good_behind : (meta : MetaData) (words : List ℕ) → IsMeta meta.fields → Belongs meta words → meta.quality ≡ false → HasZerosBehind (value_words meta.fields) words
good_behind meta words is belongs none =
    let row = row_in meta.fields words in
    record {
      whole = belongs.whole;
      zeros = ap (drop (value_words meta.fields)) belongs.spelled
          ∙ good_row meta.fields row (subst (λ (q : Bool). IsRowOf q meta.fields row) none belongs.row) is.narrow;
    }

-- rows with zeros behind are the same where the words in front of those are
pub same_before : (one other : List ℕ) (count : ℕ) → HasZerosBehind count one → HasZerosBehind count other → take count one ≡ take count other → one ≡ other
same_before one other count of_one of_other same =
    sym (take-append-drop count one)
    ∙ ap (λ (ws : List ℕ). ws ++ drop count one) same
    ∙ ap (λ (ws : List ℕ). take count other ++ ws) (of_one.zeros ∙ sym of_other.zeros)
    ∙ take-append-drop count other

-- all the words in front, taken twice
pub same_taken : (one other : List ℕ) (count same : ℕ) → count ≤ same → take same (take count one) ≡ take same (take count other) → take count one ≡ take count other
same_taken one other count same all taken =
    let first : length (take count one) ≤ same = omega (arith, length-take count one) in
    let second : length (take count other) ≤ same = omega (arith, length-take count other) in
    sym (take_all same (take count one) first) ∙ taken ∙ take_all same (take count other) second

pub not_less : (a b : ℕ) → ltb a b ≡ false → b ≤ a
not_less a b e = grind (arith, nat_tests)

pub is_less : (a b : ℕ) → ltb a b ≡ true → a < b
is_less a b e = (Decides-ltb a b).0 e
