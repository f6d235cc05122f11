-- What differs between two rows, one field after another.
use Rattle.std.proofs.Common.{◌≡◌, ◌↔◌, ℕ, ◌+◌, ◌<◌, Bool, true, false, not, List, [], ◌∷◌, ◌++◌, length, take, Some, ◌≤◌, refl, sym, ap, ◌∙◌, arith}
use Rattle.std.specs.Prelude.{slice_get}
use Rattle.std.specs.List.{HoldsAt}
use Rattle.std.proofs.lemmas.List.{take_more, take_all, length-take-le}
use Rattle.std.proofs.lemmas.Option.{get_or_from_slice_get}
use Rattle.dataset_meta.specs.DataValues.{DataValue}
use Rattle.dataset_meta.specs.Metas.{MetaData}
use Rattle.dataset_meta.specs.Rows.{patched, differs, differs_from, cons_if, put_in}
use Rattle.dataset_meta.specs.SameValues.{same_data_value}
use Rattle.dataset_meta.proofs.SameLaws.{same_data_value-refl}
use Rattle.dataset_meta.proofs.RowLaws.{patched-differs}
use Rattle.row_words.specs.declared.patch.Patch.{Patch}
use Rattle.row_words.specs.Belonging.{row_in, spelled_row, Belongs}
use Rattle.row_words.specs.Patches.{patch_in, patched_words}
use Rattle.row_words.proofs.FieldLaws.{StandsAt}
use Rattle.row_words.proofs.PatchLaws.{past_case}
use Rattle.key_delta.specs.Changes.{changes_upto}

-- nothing differs between a row and itself
none_if : (same : Bool) (index : ℕ) (value : DataValue) (rest : List (ℕ × DataValue)) → same ≡ true → cons_if (not same) (index, value) rest ≡ rest
none_if same index value rest e = rw e refl

none_differ : (index : ℕ) (row : List DataValue) → differs_from index row row ≡ []
none_differ index [] = refl
none_differ index (value ∷ row) = none_if (same_data_value value value) index value (differs_from (index + 1) row row) (same_data_value-refl value) ∙ none_differ (index + 1) row

pub differs-same : (old new : List DataValue) → old ≡ new → differs old new ≡ []
differs-same old new e = ap (differs old) (sym e) ∙ none_differ 0 old

-- a field more that is the same
same_more : (olds news : List DataValue) (from : ℕ) (old new : DataValue) → length olds ≡ length news → same_data_value old new ≡ true
    → differs_from from (olds ++ old ∷ []) (news ++ new ∷ []) ≡ differs_from from olds news
same_more [] [] from old new same e = none_if (same_data_value old new) from new [] e
same_more [] (n ∷ news) from old new same e = absurd (omega arith)
same_more (o ∷ olds) [] from old new same e = absurd (omega arith)
same_more (o ∷ olds) (n ∷ news) from old new same e = ap (cons_if (not (same_data_value o n)) (from, n)) (same_more olds news (from + 1) old new (omega arith) e)

-- a field more that differs
other_more : (olds news : List DataValue) (from at : ℕ) (old new : DataValue) → length olds ≡ length news → at ≡ from + length olds → same_data_value old new ≡ false
    → differs_from from (olds ++ old ∷ []) (news ++ new ∷ []) ≡ put_in (differs_from from olds news) at new
other_more [] [] from at old new same is e = let here : from ≡ at = omega arith in rw (e, here) refl
other_more [] (n ∷ news) from at old new same is e = absurd (omega arith)
other_more (o ∷ olds) [] from at old new same is e = absurd (omega arith)
other_more (o ∷ olds) (n ∷ news) from at old new same is e =
    ap (cons_if (not (same_data_value o n)) (from, n)) (other_more olds news (from + 1) at old new (omega arith) (omega arith) e)
    ∙ sym (past_case (not (same_data_value o n)) n (differs_from (from + 1) olds news) from at new (omega arith))

-- the test of a field, of what stands there
pub tested : (result : Bool) (old new : List DataValue) (index : ℕ) (s : StandsAt old index) (t : StandsAt new index)
    → HoldsAt (λ before. HoldsAt (λ after. result ≡ not (same_data_value before after)) new index) old index → result ≡ not (same_data_value s.x t.x)
tested result old new index s t holds =
    holds s.x t.x ∙ ap (λ (x : DataValue). not (same_data_value x _)) (s.here s.x) ∙ ap (λ (y : DataValue). not (same_data_value s.x y)) (t.here t.x)

next_is : (row : List DataValue) (i : ℕ) (value : DataValue) → slice_get row i ≡ Some value → i < length row → take (i + 1) row ≡ take i row ++ value ∷ []
next_is row i value here within = take_more row i value within ∙ ap (λ (v : DataValue). take i row ++ v ∷ []) (get_or_from_slice_get row i value value here)

-- what the test of a field makes of what differs in front of it
pub upto_more : (old new : List DataValue) (i : ℕ) (before after : DataValue) (test : Bool) → i < length old → i < length new → slice_get old i ≡ Some before → slice_get new i ≡ Some after
    → test ≡ not (same_data_value before after) → test ≡ false → changes_upto i old new ≡ changes_upto (i + 1) old new
upto_more old new i before after test in_old in_new was is tested same_words =
    let same : same_data_value before after ≡ true = not_not (same_data_value before after) (sym tested ∙ same_words) in
    sym (ap (λ (row : List DataValue). differs row (take (i + 1) new)) (next_is old i before was in_old)
    ∙ ap (differs (take i old ++ before ∷ [])) (next_is new i after is in_new)
    ∙ same_more (take i old) (take i new) 0 before after (omega (arith, length-take-le i old (omega arith), length-take-le i new (omega arith))) same)
  where
    not_not : (b : Bool) → not b ≡ false → b ≡ true
    not_not true e = refl
    not_not false e = absurd (cc)

pub put_more : (old new : List DataValue) (i : ℕ) (before after : DataValue) (test : Bool) → i < length old → i < length new → slice_get old i ≡ Some before → slice_get new i ≡ Some after
    → test ≡ not (same_data_value before after) → test ≡ true → put_in (changes_upto i old new) i after ≡ changes_upto (i + 1) old new
put_more old new i before after test in_old in_new was is tested other_words =
    let other : same_data_value before after ≡ false = not_yes (same_data_value before after) (sym tested ∙ other_words) in
    sym (ap (λ (row : List DataValue). differs row (take (i + 1) new)) (next_is old i before was in_old)
    ∙ ap (differs (take i old ++ before ∷ [])) (next_is new i after is in_new)
    ∙ other_more (take i old) (take i new) 0 i before after
    (omega (arith, length-take-le i old (omega arith), length-take-le i new (omega arith))) (omega (arith, length-take-le i old (omega arith))) other)
  where
    not_yes : (b : Bool) → not b ≡ true → b ≡ false
    not_yes true e = absurd (cc)
    not_yes false e = refl

pub upto_all : (old new : List DataValue) (i : ℕ) → length old ≤ i → length new ≤ i → changes_upto i old new ≡ differs old new
upto_all old new i all_old all_new = ap (λ (row : List DataValue). differs row (take i new)) (take_all i old all_old) ∙ ap (differs old) (take_all i new all_new)

-- the new row, words and all, is what the changes make of the old one
pub new_words : (meta : MetaData) (old new : List ℕ) (patch : Patch) → Belongs meta old → Belongs meta new
    → patch_in meta.fields patch ≡ differs (row_in meta.fields old) (row_in meta.fields new) → patched_words meta.fields patch old ≡ new
unfolding patched_words
new_words meta old new patch of_old of_new is =
    ap (spelled_row meta.fields)
    (ap (patched (row_in meta.fields old)) is ∙ patched-differs meta.quality meta.fields (row_in meta.fields old) (row_in meta.fields new) of_old.row of_new.row)
    ∙ sym of_new.spelled

-- nothing differs exactly where the words are the same
pub none_differs : (meta : MetaData) (old new : List ℕ) → Belongs meta old → Belongs meta new → (differs (row_in meta.fields old) (row_in meta.fields new) ≡ []) ↔ (old ≡ new)
none_differs meta old new of_old of_new = (
  λ none. of_old.spelled
      ∙ ap (spelled_row meta.fields)
      (sym (ap (patched (row_in meta.fields old)) none) ∙ patched-differs meta.quality meta.fields (row_in meta.fields old) (row_in meta.fields new) of_old.row of_new.row)
      ∙ sym of_new.spelled,
  λ same. differs-same (row_in meta.fields old) (row_in meta.fields new) (ap (row_in meta.fields) same),
)
