-- Patches in a mask and 125 words.
use Rattle.std.specs.Prelude.{◌≡◌, ℕ, ◌+◌, ◌^◌, ◌<◌, ◌==◌, List, [], ◌∷◌, length, Some, slice_get, bit_or}
use Rattle.std.specs.List.{HoldsAt}
use Rattle.std.specs.Int.{bit_at}
use Rattle.dataset_meta.specs.declared.field.Field.{Field}
use Rattle.dataset_meta.specs.DataValues.{DataValue}
use Rattle.dataset_meta.specs.Metas.{MetaData}
use Rattle.dataset_meta.specs.Rows.{opening_value, opening_row, cons_if, patched}
use Rattle.row_words.specs.declared.patch.Patch.{Patch}
use Rattle.row_words.specs.Belonging.{row_in, spelled_row, Belongs}

-- the marked of these, each with its index; the first has this one
abbrev pub marked_from : ℕ → ℕ → List DataValue → List (ℕ × DataValue)
marked_from index mask [] = []
marked_from index mask (x ∷ row) =
    cons_if (bit_at mask index == 1) (index, x) (marked_from (index + 1) mask row)

-- the patch that a mask and words stand for
unfoldable pub patch_in : List Field → Patch → List (ℕ × DataValue)
patch_in fields patch = marked_from 0 patch.mask (row_in fields patch.row.words)

-- the mask marks fields alone, and a field that isn't marked is zero, and Good
pub record IsPatchOf (meta : MetaData) (patch : Patch) : Type 0 where
  pub marks : patch.mask < 2 ^ length meta.fields
  pub belongs : Belongs meta patch.row.words
  pub unmarked : (index : ℕ) → index < length meta.fields → bit_at patch.mask index ≡ 0
      → HoldsAt (λ field. slice_get (row_in meta.fields patch.row.words) index
      ≡ Some (opening_value field)) meta.fields index

-- the words of a row that is patched
unfoldable pub patched_words : List Field → Patch → List ℕ → List ℕ
patched_words fields patch words =
    spelled_row fields (patched (row_in fields words) (patch_in fields patch))

-- a bit for each index
abbrev pub mask_of : List (ℕ × DataValue) → ℕ
mask_of [] = 0
mask_of (change ∷ patch) = bit_or (mask_of patch) (2 ^ change.0)

-- the mask and the words of a patch
unfoldable pub spelled_patch : List Field → List (ℕ × DataValue) → Patch
spelled_patch fields patch = record {
  mask = mask_of patch;
  row = record { words = spelled_row fields (patched (opening_row fields) patch) };
}
