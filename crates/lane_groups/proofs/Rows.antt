-- Rows that are cut to all their fields are whole.
use Rattle.std.proofs.Common.{◌≡◌, refl, sym, ap, ◌∙◌, arith, ℕ, zero, suc, ◌<◌, List, [], ◌∷◌, length, get_or}
use Rattle.std.specs.List.{AllZip}
use Rattle.std.proofs.lemmas.List.{take_all}
use Rattle.std.proofs.lemmas.List.FromFn.{fill_by_all}
use Rattle.dataset_meta.specs.DataValues.{FitsField}
use Rattle.dataset_meta.specs.Metas.{MetaData, no_meta}
use Rattle.row_words.specs.Belonging.{Belongs, cut_words, row_in, spelled_row}
use Rattle.writer_group.specs.declared.sampled.Sampled.{Sampled}
use Rattle.writer_group.specs.Turns.{no_sample}
use Rattle.session_model.specs.Sets.{AreRowsOf, cut_sample, meta_in, rows_cut}

zip-length : {A B : Type 0} (R : A → B → Type 0) (xs : List A) (ys : List B) → AllZip R xs ys → length xs ≡ length ys
zip-length R [] [] all = refl
zip-length R [] (y ∷ ys) all = absurd all
zip-length R (x ∷ xs) [] all = absurd all
zip-length R (x ∷ xs) (y ∷ ys) all = ap suc (zip-length R xs ys all.1)

cut-whole : (meta : MetaData) (words : List ℕ) → Belongs meta words → cut_words meta meta words ≡ words
unfolding cut_words
cut-whole meta words is =
    let count = zip-length (FitsField meta.quality) meta.fields (row_in meta.fields words) is.row in
    ap (spelled_row meta.fields) (take_all (length meta.fields) (row_in meta.fields words) (omega (arith, count))) ∙ sym is.spelled

zip-at : {A B : Type 0} (R : A → B → Type 0) (xs : List A) (ys : List B) (i : ℕ) (d : A) (e : B) → AllZip R xs ys → i < length xs → R (get_or xs i d) (get_or ys i e)
zip-at R [] ys i d e all below = absurd (omega (arith, below))
zip-at R (x ∷ xs) [] i d e all below = absurd all
zip-at R (x ∷ xs) (y ∷ ys) zero d e all below = all.0
zip-at R (x ∷ xs) (y ∷ ys) (suc i) d e all below = zip-at R xs ys i d e all.1 (omega (arith, below))

pub rows-whole : (metas : List MetaData) (samples : List Sampled) → AreRowsOf metas samples → samples ≡ rows_cut metas metas samples
rows-whole metas samples are =
    let Fits : MetaData → Sampled → Type 0 = λ meta sampled. Belongs meta sampled.row.words in
    let count = zip-length Fits metas samples are in
    fill_by_all (λ set. cut_sample (meta_in metas set) (meta_in metas set) (get_or samples set no_sample)) samples (length metas) no_sample (omega (arith, count))
    (λ k low. ap (λ (l : List ℕ). record { row = record { words = l }; version = (get_or samples k no_sample).version })
    (sym (cut-whole (meta_in metas k) (get_or samples k no_sample).row.words (zip-at Fits metas samples k no_meta no_sample are low))))
