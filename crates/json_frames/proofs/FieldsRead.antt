-- Reading a payload field by field.
use Rattle.std.proofs.Common.{◌≡◌, ℕ, suc, ◌+◌, ◌<◌, ◌≤◌, List, [], ◌∷◌, ◌++◌, length, get_or, take, Bool, true, false, Some, None, refl, sym, ap, ◌∙◌, subst, arith}
use Rattle.std.specs.Prelude.{◌==◌}
use Rattle.std.proofs.lemmas.Bool.Decides.{nat_tests}
use Rattle.std.proofs.lemmas.List.{take_more, length-append}
use Rattle.std.proofs.lemmas.Grind.{common_steps}
use Rattle.serde_json.specs.Data.{Data}
use Rattle.serde_json.specs.Find.{get}
use Rattle.dataset_meta.specs.declared.field.Field.{Field}
use Rattle.dataset_meta.specs.DataValues.{DataValue}
use Rattle.dataset_meta.specs.Metas.{MetaData}
use Rattle.dataset_meta.specs.Rows.{put_in, cons_if}
use Rattle.row_words.specs.declared.patch.Patch.{Patch}
use Rattle.row_words.specs.Patches.{IsPatchOf, patch_in, marked_from}
use Rattle.row_words.specs.Belonging.{row_in}
use Rattle.std.specs.Int.{bit_at}
use Rattle.json_values.specs.Reading.{ReadsField}
use Rattle.json_frames.specs.Parts.{numbered}
use Rattle.json_frames.specs.Written.{name_at}
use Rattle.json_frames.specs.Reading.{Names}
use Rattle.json_frames.proofs.WrittenPayloads.{no_field, named_at}
use Rattle.json_frames.proofs.Namings.{put_at_end, names_less, names_more, names_length}

abbrev pub AreRead : MetaData → Data → ℕ → Patch → Bool → Type 0
AreRead meta p i patch whole =
    IsPatchOf meta patch × Names meta.quality p 0 (take i meta.fields) (patch_in meta.fields patch)
    × (whole ≡ (length (patch_in meta.fields patch) == i))

few : (q : Bool) (p : Data) (fields : List Field) (i : ℕ) (changes : List (ℕ × DataValue)) → i < length fields → Names q p 0 (take i fields) changes → length changes ≤ i
few q p fields i changes inside names =
    let l : length changes ≤ length (take i fields) = names_length q p 0 (take i fields) changes names in
    let t : length (take i fields) ≡ i = grind (arith, common_steps) in
    omega arith

-- one field more, which isn't there
pub fields_less : (meta : MetaData) (p : Data) (i : ℕ) (name : List ℕ) (old new : Patch) (was now : Bool) → i < length meta.fields → name ≡ name_at meta.fields i → get name p ≡ None
    → new ≡ old → now ≡ false → AreRead meta p i old was → AreRead meta p (i + 1) new now
fields_less meta p i name old new was now inside named none same no_more so =
    let q = meta.quality in
    let f = get_or meta.fields i no_field in
    let cut : take (i + 1) meta.fields ≡ take i meta.fields ++ f ∷ [] = take_more meta.fields i no_field inside in
    let missing : get f.name p ≡ None = ap (λ (n : List ℕ). get n p) (named_at meta.fields i inside ∙ sym named) ∙ none in
    let names = names_less q p 0 (take i meta.fields) (patch_in meta.fields old) f so.1 missing in
    let l : length (patch_in meta.fields old) ≤ i = few q p meta.fields i (patch_in meta.fields old) inside so.1 in
    let less : (length (patch_in meta.fields old) == i + 1) ≡ false = grind (arith, nat_tests) in
    subst (λ (patch : Patch). AreRead meta p (i + 1) patch now) (sym same)
    (so.0, subst (λ (fields : List Field). Names q p 0 fields (patch_in meta.fields old)) (sym cut) names, no_more ∙ sym less)

same_test : (m i : ℕ) → (m + 1 == i + 1) ≡ (m == i)
same_test m i = grind (arith, nat_tests)

-- one field more, which is read
pub fields_more : (meta : MetaData) (p : Data) (i : ℕ) (field : Field) (d : Data) (x : DataValue) (old new : Patch) (was now : Bool) → i < length meta.fields → field ≡ get_or meta.fields i field
    → get field.name p ≡ Some d → ReadsField meta.quality field d x → IsPatchOf meta new → patch_in meta.fields new ≡ put_in (patch_in meta.fields old) i x → now ≡ was → AreRead meta p i old was
    → AreRead meta p (i + 1) new now
fields_more meta p i field d x old new was now inside is at reads patch put same so =
    let q = meta.quality in
    let old_changes = patch_in meta.fields old in
    let t : length (take i meta.fields) ≡ i = grind (arith, common_steps) in
    let cut : take (i + 1) meta.fields ≡ take i meta.fields ++ field ∷ [] = take_more meta.fields i field inside ∙ ap (λ (y : Field). take i meta.fields ++ y ∷ []) (sym is) in
    let ends : patch_in meta.fields new ≡ old_changes ++ (i, x) ∷ [] = put ∙ put_at_end q p 0 (take i meta.fields) old_changes i x so.1 (omega arith) in
    let names : Names q p 0 (take i meta.fields ++ field ∷ []) (old_changes ++ (i, x) ∷ []) = names_more q p 0 (take i meta.fields) old_changes field i d x so.1 at reads (omega arith) in
    let longer : length (patch_in meta.fields new) ≡ length old_changes + 1 = ap length ends ∙ length-append old_changes ((i, x) ∷ []) in (
      patch,
      subst (λ (fields : List Field). Names q p 0 fields (patch_in meta.fields new)) (sym cut)
          (subst (λ (cs : List (ℕ × DataValue)). Names q p 0 (take i meta.fields ++ field ∷ []) cs) (sym ends) names),
      same ∙ so.2 ∙ sym (same_test (length old_changes) i) ∙ sym (ap (λ (n : ℕ). n == i + 1) longer),
    )

fewer_by : (b : Bool) (i : ℕ) (x : DataValue) (rest : List (ℕ × DataValue)) (n : ℕ) → length rest ≤ n → length (cons_if b (i, x) rest) ≤ suc n
fewer_by true i x rest n le = omega arith
fewer_by false i x rest n le = omega arith

marked_fewer : (row : List DataValue) (i mask : ℕ) → length (marked_from i mask row) ≤ length row
marked_fewer [] i mask = omega arith
marked_fewer (x ∷ row) i mask = fewer_by (bit_at mask i == 1) i x (marked_from (i + 1) mask row) (length row) (marked_fewer row (i + 1) mask)

all_by : (b : Bool) (i : ℕ) (x : DataValue) (rest all : List (ℕ × DataValue)) (n : ℕ) → length rest ≤ n → (length rest ≡ n → rest ≡ all) → length (cons_if b (i, x) rest) ≡ suc n
    → cons_if b (i, x) rest ≡ (i, x) ∷ all
all_by true i x rest all n le then same = ap (λ (l : List (ℕ × DataValue)). (i, x) ∷ l) (then (omega arith))
all_by false i x rest all n le then same = absurd (omega arith)

-- where as many are marked as there are, all are
pub marked_all : (row : List DataValue) (i mask : ℕ) → length (marked_from i mask row) ≡ length row → marked_from i mask row ≡ numbered i row
marked_all [] i mask same = refl
marked_all (x ∷ row) i mask same =
    all_by (bit_at mask i == 1) i x (marked_from (i + 1) mask row) (numbered (i + 1) row) (length row) (marked_fewer row (i + 1) mask) (marked_all row (i + 1) mask) same

pub patch_all : (fields : List Field) (patch : Patch) → length (patch_in fields patch) ≡ length (row_in fields patch.row.words) → patch_in fields patch ≡ numbered 0 (row_in fields patch.row.words)
unfolding patch_in
patch_all fields patch same = marked_all (row_in fields patch.row.words) 0 patch.mask same

pub length_numbered : (row : List DataValue) (i : ℕ) → length (numbered i row) ≡ length row
length_numbered [] i = refl
length_numbered (x ∷ row) i = ap suc (length_numbered row (i + 1))
