-- Rows of data sets, one by one.
use Rattle.std.proofs.Common.{◌≡◌, ℕ, zero, suc, ◌+◌, ◌<◌, List, [], ◌∷◌, ◌++◌, length, get_or, set, subst, ◌∙◌, arith}
use Rattle.std.proofs.lemmas.List.{get_or_default}
use Rattle.std.specs.List.{HoldsAt}
use Rattle.dataset_meta.specs.Metas.{MetaData}
use Rattle.row_words.specs.Belonging.{Belongs}
use Rattle.writer_group.specs.declared.sampled.Sampled.{Sampled}
use Rattle.writer_group.specs.Standing.{AreRowsFrom}

-- the row belongs to the meta at the place
abbrev pub IsRowAt : List MetaData → Sampled → ℕ → Type 0
IsRowAt metas sampled place = HoldsAt (λ meta. Belongs meta sampled.row.words) metas place

pub rows-at : (metas : List MetaData) (first : ℕ) (rows : List Sampled) (i : ℕ) (d : Sampled) → AreRowsFrom first metas rows → i < length rows
    → IsRowAt metas (get_or rows i d) (first + i)
rows-at metas first [] i d are low = absurd (omega (arith, low))
rows-at metas first (x ∷ rows) zero d are low = subst (IsRowAt metas x) (omega arith) are.0
rows-at metas first (x ∷ rows) (suc i) d are low =
    subst (IsRowAt metas (get_or rows i d)) (omega arith) (rows-at metas (first + 1) rows i d are.1 (omega (arith, low)))

pub rows-set : (metas : List MetaData) (first : ℕ) (rows : List Sampled) (i : ℕ) (x : Sampled) → AreRowsFrom first metas rows → IsRowAt metas x (first + i)
    → AreRowsFrom first metas (set rows i x)
rows-set metas first [] i x are is = are
rows-set metas first (y ∷ rows) zero x are is = (subst (IsRowAt metas x) (omega arith) is, are.1)
rows-set metas first (y ∷ rows) (suc i) x are is = (are.0, rows-set metas (first + 1) rows i x are.1 (subst (IsRowAt metas x) (omega arith) is))

pub rows-more : (metas : List MetaData) (first : ℕ) (rows : List Sampled) (x : Sampled) → AreRowsFrom first metas rows → IsRowAt metas x (first + length rows)
    → AreRowsFrom first metas (rows ++ (x ∷ []))
rows-more metas first [] x are is = (subst (IsRowAt metas x) (omega arith) is, tt)
rows-more metas first (y ∷ rows) x are is = (are.0, rows-more metas (first + 1) rows x are.1 (subst (IsRowAt metas x) (omega arith) is))

-- the same for all rows
pub row-of : (metas : List MetaData) (rows : List Sampled) (i : ℕ) (d : Sampled) → AreRowsFrom 0 metas rows → i < length rows → IsRowAt metas (get_or rows i d) i
row-of metas rows i d are low = subst (IsRowAt metas (get_or rows i d)) (omega arith) (rows-at metas 0 rows i d are low)

pub set-row : (metas : List MetaData) (rows : List Sampled) (i : ℕ) (x : Sampled) → AreRowsFrom 0 metas rows → IsRowAt metas x i
    → AreRowsFrom 0 metas (set rows i x)
set-row metas rows i x are is = rows-set metas 0 rows i x are (subst (IsRowAt metas x) (omega arith) is)

-- a row of the meta that stands at the place
pub of-meta : (metas : List MetaData) (i : ℕ) (meta : MetaData) (x : Sampled) → i < length metas → meta ≡ get_or metas i meta → Belongs meta x.row.words
    → IsRowAt metas x i
of-meta metas i meta x low is belongs = λ d. subst (λ (m : MetaData). Belongs m x.row.words) (is ∙ get_or_default metas i meta d low) belongs
