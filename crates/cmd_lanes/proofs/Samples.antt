-- The samples of one line more.
use Rattle.std.proofs.Common.{◌≡◌, ◌≢◌, ◌⊎◌, inl, inr, ℕ, zero, suc, ◌<◌, true, false, List, [], ◌∷◌, ◌++◌, length, get_or, set, replicate, sym, ap, ◌∙◌, subst, arith}
use Rattle.std.specs.Prelude.{◌==◌}
use Rattle.std.proofs.lemmas.Bool.Decides.{eqb_tells}
use Rattle.std.proofs.lemmas.List.{get_or-replicate, get_or-set_other, get_or-set_same, length-replicate, length-set, length_push, same_lists}
use Rattle.std.proofs.lemmas.List.FromFn.{get_or-map-range_with_len, length-map-range_with_len}
use Rattle.dataset_meta.specs.Metas.{MetaData}
use Rattle.row_words.specs.Belonging.{Belongs}
use Rattle.row_words.specs.declared.patch.Patch.{Patch}
use Rattle.row_words.specs.Patches.{patched_words}
use Rattle.version_cell.specs.declared.rule.Entry.{Entry}
use Rattle.version_cell.specs.Histories.{entry, opening_words, row_after}
use Rattle.version_cell.proofs.Logs.{last_words-push}
use Rattle.ps_script.specs.declared.script.Line.{Line}
use Rattle.writer_group.specs.declared.sampled.Sampled.{Sampled}
use Rattle.session_model.specs.Sets.{AreRowsOf, meta_in}
use Rattle.script_player.specs.Playing.{log_after, sample_after, samples_after}
use Rattle.script_player.proofs.Lines.{log_after-write, log_after-write_other, write_line}
use Rattle.cmd_lanes.specs.Courses.{written}

-- the sample of these entries
abbrev sample_of : List Entry → Sampled
sample_of log = record { row = record { words = row_after log }; version = length log }

abbrev pub opening : Sampled
opening = record { row = record { words = replicate 125 0 }; version = 0 }

module _ (metas : List MetaData) where
  pub count-samples : (lines : List Line) → length (samples_after metas lines) ≡ length metas
  count-samples lines = length-map-range_with_len (λ (k : ℕ). sample_after (meta_in metas k) k lines) 0 (length metas)

  pub sample-at : (lines : List Line) (k : ℕ) (d : Sampled) → k < length metas → get_or (samples_after metas lines) k d ≡ sample_after (meta_in metas k) k lines
  sample-at lines k d low = get_or-map-range_with_len (λ (k : ℕ). sample_after (meta_in metas k) k lines) 0 (length metas) k k d low (omega arith)

  -- ---- before the first line

  pub samples-none : replicate (length metas) opening ≡ samples_after metas []
  unfolding opening_words
  samples-none =
      same_lists (replicate (length metas) opening) (samples_after metas []) (length-replicate (length metas) opening ∙ sym (count-samples []))
      (λ k d within.
      let low : k < length metas = omega (arith, within, length-replicate (length metas) opening) in
      get_or-replicate (length metas) k opening d low ∙ sym (sample-at [] k d low))

  -- ---- a line that writes

  module _ (lines : List Line) (at thread index : ℕ) (patch : Patch) where
    sample-written : sample_after (meta_in metas index) index (write_line at thread index patch ∷ lines) ≡ written (meta_in metas index) patch (sample_after (meta_in metas index) index lines)
    sample-written =
        let meta = meta_in metas index in
        let log = log_after meta index lines in
        let row = patched_words meta.fields patch (row_after log) in
        ap sample_of (log_after-write meta index at thread patch lines)
        ∙ ap (λ (words : List ℕ). record { row = record { words = words }; version = length (log ++ entry thread row ∷ []) }) (last_words-push opening_words log (entry thread row))
        ∙ ap (λ (n : ℕ). record { row = record { words = row }; version = n }) (length_push log (entry thread row))

    abbrev before : List Sampled
    before = samples_after metas lines

    abbrev behind : List Sampled
    behind = samples_after metas (write_line at thread index patch ∷ lines)

    module _ (d : Sampled) (low : index < length metas) where
      abbrev now : Sampled
      now = written (meta_in metas index) patch (get_or before index d)

      there : index < length before
      there = omega (arith, low, count-samples lines)

      here-written : (e : Sampled) → get_or (set before index now) index e ≡ get_or behind index e
      here-written e =
          get_or-set_same before index now e there
          ∙ ap (written (meta_in metas index) patch) (sample-at lines index d low)
          ∙ sym sample-written
          ∙ sym (sample-at (write_line at thread index patch ∷ lines) index e low)

      elsewhere : (k : ℕ) (e : Sampled) → k ≢ index → k < length metas → get_or (set before index now) k e ≡ get_or behind k e
      elsewhere k e other within =
          get_or-set_other before index k now e other
          ∙ sample-at lines k e within
          ∙ sym (ap sample_of (log_after-write_other (meta_in metas k) k index at thread patch lines (λ same. other (sym same))))
          ∙ sym (sample-at (write_line at thread index patch ∷ lines) k e within)

      each-written : (k : ℕ) (e : Sampled) → k < length metas → get_or (set before index now) k e ≡ get_or behind k e
      each-written k e within = by_case (eqb_tells k index)
        where
          by_case : ((k == index) ≡ true) × (k ≡ index) ⊎ ((k == index) ≡ false) × (k ≢ index) → get_or (set before index now) k e ≡ get_or behind k e
          by_case (inl same) = subst (λ (j : ℕ). get_or (set before index now) j e ≡ get_or behind j e) (sym same.1) (here-written e)
          by_case (inr other) = elsewhere k e other.1 within

      pub samples-written : set before index now ≡ behind
      samples-written =
          same_lists (set before index now) behind
          (length-set before index now ∙ count-samples lines ∙ sym (count-samples (write_line at thread index patch ∷ lines)))
          (λ k e within. each-written k e (omega (arith, within, length-set before index now, count-samples lines)))

-- another row of the data set
pub rows-set : (metas : List MetaData) (rows : List Sampled) (k : ℕ) (sampled : Sampled) → AreRowsOf metas rows → k < length metas
    → Belongs (meta_in metas k) sampled.row.words → AreRowsOf metas (set rows k sampled)
rows-set [] rows k sampled are low belongs = absurd (omega (arith, low))
rows-set (meta ∷ metas) [] k sampled are low belongs = absurd are
rows-set (meta ∷ metas) (row ∷ rows) zero sampled are low belongs = (belongs, are.1)
rows-set (meta ∷ metas) (row ∷ rows) (suc k) sampled are low belongs = (are.0, rows-set metas rows k sampled are.1 (omega (arith, low)) belongs)
