-- The test for fields that make a meta is right.
use Rattle.std.proofs.Common.{◌≡◌, ℕ, ◌<◌, ◌≤◌, Bool, true, false, ◌&&◌, not, nat_le, IsTrue, List, [], length, take, get_or, refl, sym, ap, ◌∙◌, subst, arith, zero-add}
use Rattle.std.specs.List.{list_any, list_all, range_with_len}
use Rattle.std.specs.Str.{bytes_eq}
use Rattle.std.specs.Cmp.Lexicographic.{nat_list_eq_equiv}
use Rattle.std.proofs.lemmas.Bool.{false≢true}
use Rattle.std.proofs.lemmas.Bool.Decides.{nat_tests}
use Rattle.std.proofs.lemmas.List.FromFn.{length-range_with_len, get_or-range_with_len}
use Rattle.std.proofs.lemmas.List.Sums.{AllPass-from_list_all, list_all-from_AllPass}
use Rattle.std.proofs.lemmas.Map.Views.{list_any-from_Contains, Contains-from_any}
use Rattle.std.proofs.lemmas.Slice.Eq.{bytes_eq-Decides}
use Rattle.dataset_meta.specs.declared.field.Field.{Field}
use Rattle.dataset_meta.specs.Fields.{has_cap}
use Rattle.dataset_meta.specs.Metas.{names, words_of, IsMeta, AreDistinct}
use Rattle.ps_script.specs.Faults.{is_fresh, is_meta}

both : (b c : Bool) → (b && c) ≡ true → (b ≡ true) × (c ≡ true)
both true c e = (refl, e)
both false c e = absurd (false≢true e)

joined : (b c : Bool) → b ≡ true → c ≡ true → (b && c) ≡ true
joined b c e f = ap (λ v. v && c) e ∙ f

not_true : (b : Bool) → not b ≡ true → b ≡ true → ⊥
not_true true e f = false≢true e
not_true false e f = false≢true f

is_not : (b : Bool) → (b ≡ true → ⊥) → not b ≡ true
is_not true never = absurd (never refl)
is_not false never = refl

same_bytes : (x y : List ℕ) → bytes_eq x y ≡ true → x ≡ y
same_bytes x y e = (bytes_eq-Decides x y).0 e

index_at : (n k d : ℕ) → k < n → get_or (range_with_len 0 n) k d ≡ k
index_at n k d lt = get_or-range_with_len 0 n k d lt ∙ zero-add k

fresh_at : (fields : List Field) → list_all (is_fresh fields) (range_with_len 0 (length fields)) ≡ true → (index : ℕ) → index < length fields → is_fresh fields index ≡ true
fresh_at fields all index lt =
    let within : index < length (range_with_len 0 (length fields)) = omega (arith, length-range_with_len 0 (length fields)) in
    subst (λ (k : ℕ). is_fresh fields k ≡ true) (index_at (length fields) index 0 lt) (AllPass-from_list_all (is_fresh fields) (range_with_len 0 (length fields)) all index 0 within)

distinct : (fields : List Field) → list_all (is_fresh fields) (range_with_len 0 (length fields)) ≡ true → AreDistinct fields
distinct fields all index lt double =
    not_true (list_any (bytes_eq (get_or (names fields) index [])) (take index (names fields))) (fresh_at fields all index lt)
    (list_any-from_Contains nat_list_eq_equiv (get_or (names fields) index []) (take index (names fields)) double)

fresh : (fields : List Field) → AreDistinct fields → (index : ℕ) → index < length fields → is_fresh fields index ≡ true
fresh fields distinct index lt =
    is_not (list_any (bytes_eq (get_or (names fields) index [])) (take index (names fields)))
    (λ any. distinct index lt (Contains-from_any same_bytes (get_or (names fields) index []) (take index (names fields)) any))

all_fresh : (fields : List Field) → AreDistinct fields → list_all (is_fresh fields) (range_with_len 0 (length fields)) ≡ true
all_fresh fields distinct =
    list_all-from_AllPass (is_fresh fields) (range_with_len 0 (length fields)) (λ k d lt.
    let within : k < length fields = omega (arith, length-range_with_len 0 (length fields)) in
    subst (λ (i : ℕ). is_fresh fields i ≡ true) (sym (index_at (length fields) k d within)) (fresh fields distinct k within))

pub meta_passes : (fields : List Field) → IsMeta fields → IsTrue (is_meta fields)
unfolding is_meta
meta_passes fields m =
    let some : nat_le 1 (length fields) ≡ true = grind (arith, nat_tests, m.count.0) in
    let few : nat_le (length fields) 64 ≡ true = grind (arith, nat_tests, m.count.1) in
    let narrow : nat_le (words_of fields) 125 ≡ true = grind (arith, nat_tests, m.narrow) in
    joined _ _ some (joined _ _ few (joined _ _ (all_fresh fields m.distinct) (joined _ _ (list_all-from_AllPass has_cap fields m.capped) narrow)))

pub passes_meta : (fields : List Field) → IsTrue (is_meta fields) → IsMeta fields
unfolding is_meta
passes_meta fields passes =
    let a = both (nat_le 1 (length fields)) _ passes in
    let b = both (nat_le (length fields) 64) _ a.1 in
    let c = both (list_all (is_fresh fields) (range_with_len 0 (length fields))) _ b.1 in
    let d = both (list_all has_cap fields) (nat_le (words_of fields) 125) c.1 in
    let some : 1 ≤ length fields = grind (arith, nat_tests, a.0) in
    let few : length fields ≤ 64 = grind (arith, nat_tests, b.0) in
    record {
      count = (some, few);
      distinct = distinct fields c.0;
      capped = AllPass-from_list_all has_cap fields d.0;
      narrow = grind (arith, nat_tests, d.1);
    }
