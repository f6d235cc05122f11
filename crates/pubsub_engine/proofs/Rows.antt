-- Equal words are no differences.
use Rattle.std.proofs.Common.{◌≡◌, refl, sym, ap, ◌∙◌, subst, ℕ, ◌+◌, Bool, true, not, List, [], ◌∷◌, Decides}
use Rattle.std.proofs.lemmas.Bool.Decides.{same_from_decides}
use Rattle.dataset_meta.specs.DataValues.{DataValue}
use Rattle.dataset_meta.specs.Metas.{MetaData}
use Rattle.dataset_meta.specs.Rows.{cons_if, differs, differs_from, patched}
use Rattle.dataset_meta.proofs.RowLaws.{patched-differs}
use Rattle.dataset_meta.proofs.SameLaws.{same_data_value-refl}
use Rattle.row_words.specs.Belonging.{Belongs, row_in, spelled_row}
use Rattle.session_model.specs.Stores.{is_none_of}

-- one row has no differences from itself
none-from : (index : ℕ) (row : List DataValue) → differs_from index row row ≡ []
none-from index [] = refl
none-from index (x ∷ row) =
    ap (λ (b : Bool). cons_if (not b) (index, x) (differs_from (index + 1) row row)) (same_data_value-refl x) ∙ none-from (index + 1) row

pub same-none : (one other : List DataValue) → one ≡ other → is_none_of (differs one other) ≡ true
same-none one other same = subst (λ (row : List DataValue). is_none_of (differs one row) ≡ true) same (ap is_none_of (none-from 0 one))

none-same : (patch : List (ℕ × DataValue)) → is_none_of patch ≡ true → patch ≡ []
none-same [] none = refl
none-same (change ∷ patch) none = absurd (cc)

-- rows with no differences have equal words
pub none-words : (meta : MetaData) (one other : List ℕ) → Belongs meta one → Belongs meta other
    → is_none_of (differs (row_in meta.fields one) (row_in meta.fields other)) ≡ true → one ≡ other
none-words meta one other is_one is_other none =
    is_one.spelled
    ∙ ap (spelled_row meta.fields) (ap (λ (patch : List (ℕ × DataValue)). patched (row_in meta.fields one) patch) (sym (none-same _ none))
    ∙ patched-differs meta.quality meta.fields (row_in meta.fields one) (row_in meta.fields other) is_one.row is_other.row)
    ∙ sym is_other.spelled

-- whether words are equal is whether their rows have no differences
pub rows-same : (meta : MetaData) (one other : List ℕ) (same : Bool) → Decides same (one ≡ other) → Belongs meta one → Belongs meta other
    → same ≡ is_none_of (differs (row_in meta.fields one) (row_in meta.fields other))
rows-same meta one other same decides is_one is_other =
    same_from_decides same (is_none_of (differs (row_in meta.fields one) (row_in meta.fields other))) decides
    (none-words meta one other is_one is_other, λ equal. same-none (row_in meta.fields one) (row_in meta.fields other) (ap (row_in meta.fields) equal))
