-- Field words one after another.
use Rattle.std.proofs.Common.{◌≡◌, ℕ, ◌<◌, Bool, ◌&&◌, length, arith, true, false, ◌||◌, List, [], ◌∷◌, Option, Some, None, is_none, option_map, refl, sym, ap, ◌∙◌}
use Rattle.std.specs.List.{list_any, list_all}
use Rattle.dataset_meta.specs.declared.field.Field.{Field}
use Rattle.dataset_meta.specs.DataValues.{DataValue}
use Rattle.ps_script.specs.declared.changes.Change.{Change}
use Rattle.ps_script.specs.Values.{ValueReader}
use Rattle.ps_script.specs.Fields.{is_field_word, change_of, with_change, patch_with}
use Rattle.ps_script.specs.Changes.{change_by}

abbrev pub is_bad : ValueReader → Bool → List Field → List ℕ → Bool
is_bad reader quality fields word = is_none (change_of reader quality fields word)

none_same : (found : Option Change) → is_none (option_map change_by found) ≡ is_none found
none_same None = refl
none_same (Some change) = refl

pub gives : (reader : ValueReader) (quality : Bool) (fields : List Field) (word : List ℕ) (found : Option Change) → option_map change_by found ≡ change_of reader quality fields word → is_none found ≡ is_bad reader quality fields word
gives reader quality fields word found same = sym (none_same found) ∙ ap is_none same

-- behind a word that gives its field a value
pub value_next : (reader : ValueReader) (quality : Bool) (fields : List Field) (left rest : List (List ℕ)) (word : List ℕ) (bad all : Bool) → list_any (is_bad reader quality fields) left ≡ all → left ≡ word ∷ rest → bad ≡ is_bad reader quality fields word → bad ≡ false → list_any (is_bad reader quality fields) rest ≡ all
value_next reader quality fields left rest word bad all so_far is same good =
    sym (ap (λ b. b || list_any (is_bad reader quality fields) rest) (sym same ∙ good))
    ∙ sym (ap (list_any (is_bad reader quality fields)) is) ∙ so_far

-- a word that gives none
pub value_bad : (reader : ValueReader) (quality : Bool) (fields : List Field) (left rest : List (List ℕ)) (word : List ℕ) (bad all : Bool) → list_any (is_bad reader quality fields) left ≡ all → left ≡ word ∷ rest → bad ≡ is_bad reader quality fields word → bad ≡ true → true ≡ all
value_bad reader quality fields left rest word bad all so_far is same found =
    sym (ap (λ b. b || list_any (is_bad reader quality fields) rest) (sym same ∙ found))
    ∙ sym (ap (list_any (is_bad reader quality fields)) is) ∙ so_far

-- no word is left
pub value_end : (reader : ValueReader) (quality : Bool) (fields : List Field) (left : List (List ℕ)) (all : Bool) → list_any (is_bad reader quality fields) left ≡ all → left ≡ [] → false ≡ all
value_end reader quality fields left all so_far is = sym (ap (list_any (is_bad reader quality fields)) is) ∙ so_far

-- behind a word the patch has what it gives
pub patch_more : (reader : ValueReader) (quality : Bool) (fields : List Field) (old new all : List (ℕ × DataValue)) (left rest : List (List ℕ)) (word : List ℕ) (found : Option Change) → patch_with reader quality fields old left ≡ all → left ≡ word ∷ rest → option_map change_by found ≡ change_of reader quality fields word → new ≡ with_change old (option_map change_by found) → patch_with reader quality fields new rest ≡ all
patch_more reader quality fields old new all left rest word found so_far is same put =
    ap (λ (p : List (ℕ × DataValue)). patch_with reader quality fields p rest) (put ∙ ap (with_change old) same)
    ∙ sym (ap (patch_with reader quality fields old) is) ∙ so_far

pub patch_end : (reader : ValueReader) (quality : Bool) (fields : List Field) (old all : List (ℕ × DataValue)) (left : List (List ℕ)) → patch_with reader quality fields old left ≡ all → left ≡ [] → old ≡ all
patch_end reader quality fields old all left so_far is = sym (ap (patch_with reader quality fields old) is) ∙ so_far

-- behind a field word
pub shaped_next : (left rest : List (List ℕ)) (word : List ℕ) (all : Bool) → list_all is_field_word left ≡ all → left ≡ word ∷ rest → is_field_word word ≡ true → list_all is_field_word rest ≡ all
shaped_next left rest word all so_far is shaped =
    sym (ap (λ b. b && list_all is_field_word rest) shaped) ∙ sym (ap (list_all is_field_word) is) ∙ so_far

pub shaped_end : (left : List (List ℕ)) (all : Bool) → list_all is_field_word left ≡ all → left ≡ [] → all ≡ true
shaped_end left all so_far is = sym so_far ∙ ap (list_all is_field_word) is

pub some_words : (words rest : List (List ℕ)) (word : List ℕ) → words ≡ word ∷ rest → 0 < length words
some_words words rest word is = omega (arith, ap length is)
