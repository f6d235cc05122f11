-- What field words give a data set by a line, they give it with all its fields.
use Rattle.std.proofs.Common.{◌≡◌, ℕ, ◌+◌, ◌^◌, ◌<◌, ◌≤◌, ◌==◌, Bool, true, false, ◌||◌, List, [], ◌∷◌, ◌++◌, length, Option, Some, None, is_none, cond, nat_lt, option_map, option_and_then, slice_get, refl, sym, ap, ◌∙◌, subst, arith, lit<, length-append}
use Rattle.std.specs.Prelude.{IfSome}
use Rattle.std.specs.List.{list_any, HoldsAt}
use Rattle.std.specs.Str.{bytes_eq}
use Rattle.std.proofs.lemmas.Bool.{false≢true, or_parts, eqb-true}
use Rattle.std.proofs.lemmas.List.{get_or_append_left}
use Rattle.std.proofs.lemmas.Nat.{le_or_r, pow_pos}
use Rattle.std.proofs.lemmas.Option.{same_Some, none-some, cond_some, option_and_then_some, get_or_from_slice_get, slice_get_within}
use Rattle.ua_values.specs.declared.kind.Kind.TheVariants.{StatusCode}
use Rattle.ua_values.specs.declared.value.Value.{Value}
use Rattle.ua_values.specs.declared.value.Value.TheVariants as values
use Rattle.ua_values.specs.Values.{IsValue}
use Rattle.dataset_meta.specs.declared.field.Field.{Field}
use Rattle.dataset_meta.specs.DataValues.{DataValue, IsStatus, FitsField}
use Rattle.dataset_meta.specs.Metas.{IsMeta, MetaData}
use Rattle.dataset_meta.specs.Rows.{IsPatchFrom, put_in}
use Rattle.dataset_meta.proofs.ChangeLaws.{IsPatch-put}
use Rattle.row_words.specs.declared.patch.Patch.{Patch}
use Rattle.row_words.specs.Patches.{IsPatchOf, mask_of, spelled_patch}
use Rattle.row_words.proofs.MeaningLaws.{IsPatchOf-spelled_patch}
use Rattle.ps_script.specs.Values.{ValueReader, IsValueIn}
use Rattle.ps_script.specs.Fields.{field_name, value_text, status_text, field_named, code_of, if_allowed, status_by, value_for, data_value, given_at, change_of, with_change, patch_with}
use Rattle.ps_script.proofs.Below.{Below, slice_get_append, position_within, position_append}

-- ---- a word's field is the same with more fields behind

abbrev paired : ℕ → Value → ℕ → ℕ × DataValue
paired index value status = (index, data_value value status)

abbrev statused : ValueReader → Bool → List ℕ → ℕ → Value → Option (ℕ × DataValue)
statused reader quality word index value = option_map (paired index value) (status_by reader quality (status_text word))

abbrev given_by : ValueReader → Bool → List ℕ → ℕ → Option Field → Option (ℕ × DataValue)
given_by reader quality word index field = option_and_then (statused reader quality word index) (option_and_then (value_for reader word) field)

no_none : (P : Type 0) → true ≡ false → P
no_none P e = absurd (false≢true (sym e))

kept_by : (reader : ValueReader) (quality : Bool) (fields more : List Field) (word : List ℕ) (found : Option ℕ) → field_named fields (field_name word) ≡ found
    → is_none (option_and_then (given_at reader quality fields word) found) ≡ false
    → option_and_then (given_at reader quality (fields ++ more) word) (field_named (fields ++ more) (field_name word)) ≡ option_and_then (given_at reader quality fields word) found
kept_by reader quality fields more word None e fine = no_none _ fine
kept_by reader quality fields more word (Some index) e fine =
    let named : field_named (fields ++ more) (field_name word) ≡ Some index = position_append (λ (field : Field). bytes_eq field.name (field_name word)) fields more index e in
    let within : index < length fields = position_within (λ (field : Field). bytes_eq field.name (field_name word)) fields index e in
    ap (option_and_then (given_at reader quality (fields ++ more) word)) named
    ∙ ap (given_by reader quality word index) (slice_get_append fields more index within)

change_kept : (reader : ValueReader) (quality : Bool) (fields more : List Field) (word : List ℕ) → is_none (change_of reader quality fields word) ≡ false
    → change_of reader quality (fields ++ more) word ≡ change_of reader quality fields word
unfolding change_of
change_kept reader quality fields more word fine = kept_by reader quality fields more word (field_named fields (field_name word)) refl fine

pub patch_kept : (reader : ValueReader) (quality : Bool) (fields more : List Field) (patch : List (ℕ × DataValue)) (words : List (List ℕ))
    → list_any (λ word. is_none (change_of reader quality fields word)) words ≡ false
    → patch_with reader quality (fields ++ more) patch words ≡ patch_with reader quality fields patch words
patch_kept reader quality fields more patch [] fine = refl
patch_kept reader quality fields more patch (word ∷ words) fine =
    let p = or_parts (is_none (change_of reader quality fields word)) (list_any (λ w. is_none (change_of reader quality fields w)) words) fine in
    ap (λ (c : Option (ℕ × DataValue)). patch_with reader quality (fields ++ more) (with_change patch c) words) (change_kept reader quality fields more word p.0)
    ∙ patch_kept reader quality fields more (with_change patch (change_of reader quality fields word)) words p.1

-- ---- what a word gives fits its field

code_is : (value : Value) (code : ℕ) → code_of value ≡ Some code → IsValue value → code < 2 ^ 32
code_is (values.StatusCode n) code e is = subst (λ (k : ℕ). k < 2 ^ 32) (same_Some n code e) is
code_is _ code e is = absurd (none-some code e)

said : (reader : ValueReader) (field : Field) (text : List ℕ) (value : Value) → reader.read field.kind field.cap text ≡ Some value → IsValueIn field.kind field.cap text value
said reader field text value e = subst (λ (o : Option Value). IfSome o (IsValueIn field.kind field.cap text)) e (reader.found field.kind field.cap text)

code_said : (reader : ValueReader) (text : List ℕ) (code : ℕ) → option_and_then code_of (reader.read StatusCode 0 text) ≡ Some code → code < 2 ^ 32
code_said reader text code e =
    option_and_then_some {P = code < 2 ^ 32} code_of (reader.read StatusCode 0 text) code e (λ value read is.
    let valid : IsValueIn StatusCode 0 text value = subst (λ (o : Option Value). IfSome o (IsValueIn StatusCode 0 text)) read (reader.found StatusCode 0 text) in
    code_is value code is valid.valid)

allowed : (quality : Bool) (code status : ℕ) → code < 2 ^ 32 → if_allowed quality code ≡ Some status → IsStatus quality status
allowed true code status small e =
    let s = cond_some (true || code == 0) code status e in subst (λ (k : ℕ). k < 2 ^ 32) s.1 small
allowed false code status small e =
    let s = cond_some (false || code == 0) code status e in sym s.1 ∙ eqb-true code 0 s.0

good : (quality : Bool) → IsStatus quality 0
good true = lit< tt
good false = refl

status_is : (reader : ValueReader) (quality : Bool) (text : Option (List ℕ)) (status : ℕ) → status_by reader quality text ≡ Some status → IsStatus quality status
status_is reader quality None status e = subst (IsStatus quality) (same_Some 0 status e) (good quality)
status_is reader quality (Some text) status e =
    option_and_then_some {P = IsStatus quality status} (if_allowed quality) (option_and_then code_of (reader.read StatusCode 0 text)) status e
    (λ code spelled is. allowed quality code status (code_said reader text code spelled) is)

-- a field and what fits it
pub record IsChange (quality : Bool) (fields : List Field) (change : ℕ × DataValue) : Type 0 where
  pub within : change.0 < length fields
  pub fits : HoldsAt (λ field. FitsField quality field change.1) fields change.0

option_map_some : {A B : Type 0} (P : Type 0) (f : A → B) (o : Option A) (y : B) → option_map f o ≡ Some y → ((x : A) → o ≡ Some x → f x ≡ y → P) → P
option_map_some P f None y e go = absurd (none-some y e)
option_map_some P f (Some x) y e go = go x refl (same_Some (f x) y e)

one_is : (reader : ValueReader) (quality : Bool) (fields : List Field) (word : List ℕ) (index status : ℕ) (field : Field) (value : Value) → slice_get fields index ≡ Some field
    → reader.read field.kind field.cap (value_text word) ≡ Some value → status_by reader quality (status_text word) ≡ Some status → IsChange quality fields (paired index value status)
one_is reader quality fields word index status field value found read spelled =
    let v = said reader field (value_text word) value read in
    let fits : FitsField quality field (data_value value status) =
    record { is_value = v.valid; fits = v.fits; is_status = status_is reader quality (status_text word) status spelled } in
    record {
      within = slice_get_within fields index field found;
      fits = λ d. subst (λ (f : Field). FitsField quality f (data_value value status)) (sym (get_or_from_slice_get fields index field d found)) fits;
    }

given_is : (reader : ValueReader) (quality : Bool) (fields : List Field) (word : List ℕ) (index : ℕ) (change : ℕ × DataValue)
    → given_at reader quality fields word index ≡ Some change → IsChange quality fields change
given_is reader quality fields word index change e =
    option_and_then_some {P = IsChange quality fields change} (statused reader quality word index) (option_and_then (value_for reader word) (slice_get fields index)) change e (λ value valued given.
    option_and_then_some {P = IsChange quality fields change} (value_for reader word) (slice_get fields index) value valued (λ field found read.
    option_map_some (IsChange quality fields change) (paired index value) (status_by reader quality (status_text word)) change given (λ status spelled is.
    subst (IsChange quality fields) is (one_is reader quality fields word index status field value found read spelled))))

change_is : (reader : ValueReader) (quality : Bool) (fields : List Field) (word : List ℕ) (change : ℕ × DataValue) → change_of reader quality fields word ≡ Some change → IsChange quality fields change
unfolding change_of
change_is reader quality fields word change e =
    option_and_then_some {P = IsChange quality fields change} (given_at reader quality fields word) (field_named fields (field_name word)) change e
    (λ index named given. given_is reader quality fields word index change given)

with_is : (quality : Bool) (fields : List Field) (patch : List (ℕ × DataValue)) (change : Option (ℕ × DataValue)) → IfSome change (IsChange quality fields)
    → IsPatchFrom 0 quality fields patch → IsPatchFrom 0 quality fields (with_change patch change)
with_is quality fields patch None is fits = fits
with_is quality fields patch (Some change) is fits = IsPatch-put quality fields 0 patch change.0 change.1 (omega arith) is.within is.fits fits

each_change : (reader : ValueReader) (quality : Bool) (fields : List Field) (word : List ℕ) (found : Option (ℕ × DataValue)) → change_of reader quality fields word ≡ found → IfSome found (IsChange quality fields)
each_change reader quality fields word None e = tt
each_change reader quality fields word (Some change) e = change_is reader quality fields word change e

-- so what words give is a patch
pub patch_is : (reader : ValueReader) (quality : Bool) (fields : List Field) (patch : List (ℕ × DataValue)) (words : List (List ℕ))
    → IsPatchFrom 0 quality fields patch → IsPatchFrom 0 quality fields (patch_with reader quality fields patch words)
patch_is reader quality fields patch [] fits = fits
patch_is reader quality fields patch (word ∷ words) fits =
    patch_is reader quality fields (with_change patch (change_of reader quality fields word)) words
    (with_is quality fields patch (change_of reader quality fields word) (each_change reader quality fields word (change_of reader quality fields word) refl) fits)

-- ---- with more fields behind it is one

pub patch_more_fields : (from : ℕ) (quality : Bool) (fields more : List Field) (patch : List (ℕ × DataValue)) → IsPatchFrom from quality fields patch → IsPatchFrom from quality (fields ++ more) patch
patch_more_fields from quality fields more [] fits = tt
patch_more_fields from quality fields more (change ∷ patch) fits =
    let within : change.0 < length (fields ++ more) = omega (arith, length-append fields more, fits.1) in (
      fits.0,
      within,
      λ d. subst (λ (f : Field). FitsField quality f change.1) (sym (get_or_append_left fields more d change.0 fits.1)) (fits.2 d),
      patch_more_fields (change.0 + 1) quality fields more patch fits.3,
    )

-- ---- one word or more mark a field

least : (a b : ℕ) → 0 < a → a ≤ b → 0 < b
least a b some more = omega (arith, some, more)

pub marked : (change : ℕ × DataValue) (patch : List (ℕ × DataValue)) → 0 < mask_of (change ∷ patch)
marked change patch = least (2 ^ change.0) (mask_of (change ∷ patch)) (pow_pos change.0) (le_or_r (mask_of patch) (2 ^ change.0))

put_marked : (patch : List (ℕ × DataValue)) (index : ℕ) (value : DataValue) → 0 < mask_of (put_in patch index value)
put_marked [] index value = marked (index, value) []
put_marked (change ∷ patch) index value = chosen (nat_lt change.0 index) (change.0 == index)
  where
    chosen : (b c : Bool) → 0 < mask_of (cond b (change ∷ put_in patch index value) (cond c ((index, value) ∷ patch) ((index, value) ∷ change ∷ patch)))
    chosen true c = marked change (put_in patch index value)
    chosen false true = marked (index, value) patch
    chosen false false = marked (index, value) (change ∷ patch)

with_marked : (patch : List (ℕ × DataValue)) (change : Option (ℕ × DataValue)) → 0 < mask_of patch → 0 < mask_of (with_change patch change)
with_marked patch None some = some
with_marked patch (Some change) some = put_marked patch change.0 change.1

all_marked : (reader : ValueReader) (quality : Bool) (fields : List Field) (patch : List (ℕ × DataValue)) (words : List (List ℕ)) → 0 < mask_of patch
    → 0 < mask_of (patch_with reader quality fields patch words)
all_marked reader quality fields patch [] some = some
all_marked reader quality fields patch (word ∷ words) some =
    all_marked reader quality fields (with_change patch (change_of reader quality fields word)) words (with_marked patch (change_of reader quality fields word) some)

first_marked : (change : Option (ℕ × DataValue)) → is_none change ≡ false → 0 < mask_of (with_change [] change)
first_marked None fine = no_none _ fine
first_marked (Some change) fine = put_marked [] change.0 change.1

words_marked : (reader : ValueReader) (quality : Bool) (fields : List Field) (words : List (List ℕ)) → 0 < length words
    → list_any (λ word. is_none (change_of reader quality fields word)) words ≡ false → 0 < mask_of (patch_with reader quality fields [] words)
words_marked reader quality fields [] some fine = absurd (omega (arith, some))
words_marked reader quality fields (word ∷ words) some fine =
    let p = or_parts (is_none (change_of reader quality fields word)) (list_any (λ w. is_none (change_of reader quality fields w)) words) fine in
    all_marked reader quality fields (with_change [] (change_of reader quality fields word)) words (first_marked (change_of reader quality fields word) p.0)

-- the patch of a line `write`: of the whole data set, and it marks fields that there are by the line
pub record Written (meta whole : MetaData) (patch : Patch) : Type 0 where
  pub of : IsPatchOf whole patch
  pub some : 0 < patch.mask
  pub marks : patch.mask < 2 ^ length meta.fields

pub written : (reader : ValueReader) (meta whole : MetaData) (words : List (List ℕ)) → Below meta whole → IsMeta meta.fields → IsMeta whole.fields
    → 0 < length words → list_any (λ word. is_none (change_of reader meta.quality meta.fields word)) words ≡ false
    → Written meta whole (spelled_patch whole.fields (patch_with reader whole.quality whole.fields [] words))
unfolding spelled_patch
written reader meta whole words below is_meta is_whole there fine =
    let patch : List (ℕ × DataValue) = patch_with reader meta.quality meta.fields [] words in
    let same : patch_with reader whole.quality whole.fields [] words ≡ patch =
    ap (λ (q : Bool). patch_with reader q whole.fields [] words) below.quality
    ∙ ap (λ (fs : List Field). patch_with reader meta.quality fs [] words) below.fields
    ∙ patch_kept reader meta.quality meta.fields below.more [] words fine in
    let fits : IsPatchFrom 0 meta.quality meta.fields patch = patch_is reader meta.quality meta.fields [] words tt in
    let fits_more : IsPatchFrom 0 meta.quality (meta.fields ++ below.more) patch = patch_more_fields 0 meta.quality meta.fields below.more patch fits in
    let fits_whole : IsPatchFrom 0 whole.quality whole.fields patch =
    subst (λ (q : Bool). IsPatchFrom 0 q whole.fields patch) (sym below.quality)
    (subst (λ (fs : List Field). IsPatchFrom 0 meta.quality fs patch) (sym below.fields) fits_more) in
    let marks : mask_of patch < 2 ^ length meta.fields = (IsPatchOf-spelled_patch meta patch is_meta fits).marks in
    record {
      of = subst (λ (p : List (ℕ × DataValue)). IsPatchOf whole (spelled_patch whole.fields p)) (sym same) (IsPatchOf-spelled_patch whole patch is_whole fits_whole);
      some = subst (λ (p : List (ℕ × DataValue)). 0 < mask_of p) (sym same) (words_marked reader meta.quality meta.fields words there fine);
      marks = subst (λ (p : List (ℕ × DataValue)). mask_of p < 2 ^ length meta.fields) (sym same) marks;
    }
