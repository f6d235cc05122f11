-- Rows that are cut to all their fields are whole.
use Rattle.std.proofs.Common.{◌≡◌, sym, ap, ◌∙◌, arith, ℕ, zero, suc, ◌<◌, List, [], ◌∷◌, length, get_or}
use Rattle.std.specs.List.{AllZip}
use Rattle.std.proofs.lemmas.List.{take_all}
use Rattle.std.proofs.lemmas.List.FromFn.{fill_by_all}
use Rattle.std.proofs.lemmas.Slice.Zip.{AllZip-long}
use Rattle.dataset_meta.specs.Metas.{MetaData, no_meta}
use Rattle.dataset_meta.proofs.RowLaws.{length_row}
use Rattle.row_words.specs.Belonging.{Belongs, cut_words, row_in, spelled_row}
use Rattle.writer_group.specs.declared.sampled.Sampled.{Sampled}
use Rattle.writer_group.specs.Turns.{no_sample}
use Rattle.session_model.specs.Sets.{AreRowsOf, cut_sample, meta_in, rows_cut}

pub allzip-at : {A B : Type 0} (R : A → B → Type 0) (xs : List A) (ys : List B) (i : ℕ) (d : A) (e : B) → AllZip R xs ys → i < length xs → R (get_or xs i d) (get_or ys i e)
allzip-at R [] [] i d e h low = absurd (omega (arith, low))
allzip-at R [] (y ∷ ys) i d e h low = absurd h
allzip-at R (x ∷ xs) [] i d e h low = absurd h
allzip-at R (x ∷ xs) (y ∷ ys) zero d e h low = h.0
allzip-at R (x ∷ xs) (y ∷ ys) (suc i) d e h low = allzip-at R xs ys i d e h.1 (omega (arith, low))

words-whole : (meta : MetaData) (words : List ℕ) → Belongs meta words → cut_words meta meta words ≡ words
unfolding cut_words
words-whole meta words belongs =
    let row = row_in meta.fields words in
    ap (spelled_row meta.fields) (take_all (length meta.fields) row (omega (arith, length_row meta.quality meta.fields row belongs.row)))
    ∙ sym belongs.spelled

sample-whole : (meta : MetaData) (sampled : Sampled) → Belongs meta sampled.row.words → cut_sample meta meta sampled ≡ sampled
sample-whole meta sampled belongs = ap (λ (words : List ℕ). record { row = record { words = words }; version = sampled.version }) (words-whole meta sampled.row.words belongs)

pub rows-whole : (metas : List MetaData) (samples : List Sampled) → AreRowsOf metas samples → rows_cut metas metas samples ≡ samples
rows-whole metas samples are =
    sym (fill_by_all (λ set. cut_sample (meta_in metas set) (meta_in metas set) (get_or samples set no_sample)) samples (length metas) no_sample
    (omega (arith, AllZip-long (λ (meta : MetaData) (sampled : Sampled). Belongs meta sampled.row.words) metas samples are))
    (λ k low. sym (sample-whole (meta_in metas k) (get_or samples k no_sample)
    (allzip-at (λ (meta : MetaData) (sampled : Sampled). Belongs meta sampled.row.words) metas samples k no_meta no_sample are low))))
