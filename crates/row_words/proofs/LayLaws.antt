-- A patch laid into a row, one marked field after another.
use Rattle.std.proofs.Common.{◌≡◌, ℕ, List, length, sym, ap, ◌∙◌, arith}
use Rattle.std.specs.Prelude.{slice_set}
use Rattle.std.specs.Int.{trailing_zeros, w64}
use Rattle.dataset_meta.specs.DataValues.{DataValue}
use Rattle.dataset_meta.specs.Metas.{MetaData}
use Rattle.dataset_meta.specs.declared.field.Field.{Field}
use Rattle.dataset_meta.specs.Rows.{patched}
use Rattle.row_words.specs.declared.patch.Patch.{Patch}
use Rattle.row_words.specs.Belonging.{row_in, spelled_row, Belongs}
use Rattle.row_words.specs.Patches.{marked_from, patch_in, IsPatchOf, patched_words}
use Rattle.std.specs.List.{HoldsAt}
use Rattle.row_words.proofs.FieldLaws.{stands}
use Rattle.row_words.proofs.Marks.{later, Lowest, marked_first}
use Rattle.row_words.proofs.PatchLaws.{none_marked}

-- one field more is laid in
pub laid_more : (meta : MetaData) (patch : Patch) (left : ℕ) (now after : List ℕ) → IsPatchOf meta patch → Lowest left (length meta.fields)
    → HoldsAt (λ x. row_in meta.fields after ≡ slice_set (row_in meta.fields now) (trailing_zeros w64 left) x) (row_in meta.fields patch.row.words) (trailing_zeros w64 left)
    → patched (row_in meta.fields after) (marked_from 0 (later left) (row_in meta.fields patch.row.words))
    ≡ patched (row_in meta.fields now) (marked_from 0 left (row_in meta.fields patch.row.words))
laid_more meta patch left now after of first copied =
    let s = stands meta patch.row.words (trailing_zeros w64 left) of.belongs first.within in
    ap (λ (row : List DataValue). patched row (marked_from 0 (later left) (row_in meta.fields patch.row.words)))
    (copied s.x ∙ ap (slice_set (row_in meta.fields now) (trailing_zeros w64 left)) (s.here s.x))
    ∙ ap (patched (row_in meta.fields now))
    (sym (marked_first (row_in meta.fields patch.row.words) 0 (trailing_zeros w64 left) (trailing_zeros w64 left) left (later left) s.x (omega arith) s.read first.here first.gone first.before first.others))

-- nothing is left to be laid in
pub laid_all : (fields : List Field) (patch : Patch) (before now : List ℕ) (left : ℕ) → left ≡ 0
    → patched (row_in fields now) (marked_from 0 left (row_in fields patch.row.words)) ≡ patched (row_in fields before) (marked_from 0 patch.mask (row_in fields patch.row.words))
    → row_in fields now ≡ patched (row_in fields before) (patch_in fields patch)
unfolding patch_in
laid_all fields patch before now left none so_far =
    sym (ap (λ (mask : ℕ). patched (row_in fields now) (marked_from 0 mask (row_in fields patch.row.words))) none
    ∙ ap (patched (row_in fields now)) (none_marked (row_in fields patch.row.words) 0))
    ∙ so_far

pub words_laid : (meta : MetaData) (patch : Patch) (before now : List ℕ) → Belongs meta now → row_in meta.fields now ≡ patched (row_in meta.fields before) (patch_in meta.fields patch)
    → now ≡ patched_words meta.fields patch before
unfolding patched_words
words_laid meta patch before now belongs row = belongs.spelled ∙ ap (spelled_row meta.fields) row
