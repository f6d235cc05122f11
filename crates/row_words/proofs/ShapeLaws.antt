-- Metas of one shape have the same rows.
use Rattle.std.proofs.Common.{◌≡◌, ℕ, zero, suc, ◌-◌, ◌*◌, ◌/◌, ◌+◌, ◌≤◌, ◌^◌, ◌<◌, Bool, true, false, List, [], ◌∷◌, ◌++◌, length, take, drop, map, refl, sym, ap, ◌∙◌, subst, arith, lit<}
use Rattle.std.specs.Prelude.{replicate, slice_index, slice_index_or, if◌then◌else◌, All, ◌↔◌}
use Rattle.std.specs.List.{AllZip, flat_map}
use Rattle.std.proofs.lemmas.List.{length-map}
use Rattle.std.proofs.lemmas.List.Elements.{All-map, All-head, All-tail}
use Rattle.std.proofs.lemmas.List.Sums.{sum_by-cons}
use Rattle.ua_values.specs.declared.kind.Kind.{Kind}
use Rattle.ua_values.specs.declared.kind.Kind.TheVariants.{Boolean, SByte, Byte, Int16, UInt16, Int32, UInt32, Int64, UInt64, Float, Double, String, DateTime, Guid, ByteString, StatusCode}
use Rattle.dataset_meta.specs.declared.field.Field.{Field}
use Rattle.dataset_meta.specs.Fields.{width, width_of, is_sized}
use Rattle.dataset_meta.specs.DataValues.{DataValue, FitsField}
use Rattle.dataset_meta.specs.Metas.{value_words, IsMeta, MetaData}
use Rattle.dataset_meta.specs.Rows.{IsRowOf, IsRow, patched}
use Rattle.dataset_meta.proofs.RowLaws.{IsRow-patched}
use Rattle.row_words.specs.declared.patch.Patch.{Patch}
use Rattle.row_words.specs.Digits.{digits_of, grouped}
use Rattle.row_words.specs.Words.{spelled_value, value_in}
use Rattle.row_words.specs.Belonging.{spelled_values, spelled_statuses, spelled_parts, spelled_row, statuses_in, row_with, row_in, Belongs}
use Rattle.row_words.specs.Patches.{marked_from, patch_in, IsPatchOf, patched_words}
use Rattle.row_words.specs.Shapes.{number_of_kind, code_of, shape_of, HaveOneShape, BelongsTo}
use Rattle.row_words.proofs.DigitLaws.{digits_in-grouped}
use Rattle.row_words.proofs.FieldLaws.{small_cap}
use Rattle.row_words.proofs.RowLaws.{narrow, Belongs-spelled_row, row_in-spelled_row}
use Rattle.row_words.proofs.PatchLaws.{IsPatch-patch_in}
use Rattle.row_words.proofs.OpeningLaws.{Belongs-zeros}

-- a kind by its number
kind_numbered : ℕ → Kind
kind_numbered n =
    slice_index_or (Boolean ∷ SByte ∷ Byte ∷ Int16 ∷ UInt16 ∷ Int32 ∷ UInt32 ∷ Int64 ∷ UInt64 ∷ Float ∷ Double ∷ String ∷ DateTime ∷ Guid ∷ ByteString ∷ StatusCode ∷ []) n Boolean

kind_back : (kind : Kind) → kind_numbered (number_of_kind kind) ≡ kind
unfolding kind_numbered
kind_back Boolean = refl
kind_back SByte = refl
kind_back Byte = refl
kind_back Int16 = refl
kind_back UInt16 = refl
kind_back Int32 = refl
kind_back UInt32 = refl
kind_back Int64 = refl
kind_back UInt64 = refl
kind_back Float = refl
kind_back Double = refl
kind_back String = refl
kind_back DateTime = refl
kind_back Guid = refl
kind_back ByteString = refl
kind_back StatusCode = refl

small_kind : (kind : Kind) → number_of_kind kind < 16
small_kind Boolean = lit< tt
small_kind SByte = lit< tt
small_kind Byte = lit< tt
small_kind Int16 = lit< tt
small_kind UInt16 = lit< tt
small_kind Int32 = lit< tt
small_kind UInt32 = lit< tt
small_kind Int64 = lit< tt
small_kind UInt64 = lit< tt
small_kind Float = lit< tt
small_kind Double = lit< tt
small_kind String = lit< tt
small_kind DateTime = lit< tt
small_kind Guid = lit< tt
small_kind ByteString = lit< tt
small_kind StatusCode = lit< tt

-- fields of one kind and one cap
record SameForm (f g : Field) : Type 0 where
  kind : f.kind ≡ g.kind
  cap : f.cap ≡ g.cap

-- two fields with the same code, in metas that have quality where the other has
record SameCode (p q : Bool) (f g : Field) : Type 0 where
  form : SameForm f g
  quality : p ≡ q

quality_same : (p q : Bool) (m n : ℕ) → m < 16384 → n < 16384 → m + (if p then 16384 else 0) ≡ n + (if q then 16384 else 0) → p ≡ q
quality_same true true m n small small2 e = refl
quality_same true false m n small small2 e = absurd (omega arith)
quality_same false true m n small small2 e = absurd (omega arith)
quality_same false false m n small small2 e = refl

code_same : (p q : Bool) (f g : Field) → f.cap ≤ 256 → g.cap ≤ 256 → code_of p f ≡ code_of q g → SameCode p q f g
code_same p q f g small small2 e =
    let quality : p ≡ q =
    quality_same p q (1 + 2 * number_of_kind f.kind + 32 * f.cap) (1 + 2 * number_of_kind g.kind + 32 * g.cap)
    (omega (arith, small, small_kind f.kind)) (omega (arith, small2, small_kind g.kind)) e in
    let rest : 1 + 2 * number_of_kind f.kind + 32 * f.cap ≡ 1 + 2 * number_of_kind g.kind + 32 * g.cap =
    omega (arith, e, ap {B = ℕ} (λ (b : Bool). if b then 16384 else 0) quality) in
    let number : number_of_kind f.kind ≡ number_of_kind g.kind = omega (arith, small_kind f.kind, small_kind g.kind, rest) in
    record {
      form = record { kind = sym (kind_back f.kind) ∙ ap kind_numbered number ∙ kind_back g.kind; cap = omega (arith, number, rest) };
      quality = quality;
    }

abbrev AreSmall : List Field → Type 0
AreSmall fields = All (λ field. field.cap ≤ 256) fields

same_forms : (p q : Bool) (fs gs : List Field) (m n : ℕ) → AreSmall fs → AreSmall gs → map (code_of p) fs ++ replicate m 0 ≡ map (code_of q) gs ++ replicate n 0
    → AllZip (SameCode p q) fs gs
same_forms p q [] [] m n small small2 e = tt
same_forms p q [] (g ∷ gs) zero n small small2 e = absurd (cc)
same_forms p q [] (g ∷ gs) (suc m) n small small2 e = let first : 0 ≡ code_of q g = cc in absurd (omega arith)
same_forms p q (f ∷ fs) [] m zero small small2 e = absurd (cc)
same_forms p q (f ∷ fs) [] m (suc n) small small2 e = let first : code_of p f ≡ 0 = cc in absurd (omega arith)
same_forms p q (f ∷ fs) (g ∷ gs) m n small small2 e =
    let P = λ (field : Field). field.cap ≤ 256 in
    let first : code_of p f ≡ code_of q g = cc in
    let rest : map (code_of p) fs ++ replicate m 0 ≡ map (code_of q) gs ++ replicate n 0 = cc in
    (code_same p q f g (All-head P f fs small) (All-head P g gs small2) first, same_forms p q fs gs m n (All-tail P f fs small) (All-tail P g gs small2) rest)

small_caps : (fields : List Field) → IsMeta fields → AreSmall fields
small_caps fields meta = λ k d within. small_cap (is_sized (slice_index_or fields k d).kind) (slice_index_or fields k d).cap (meta.capped k d within)

small_code : (quality : Bool) (field : Field) → field.cap ≤ 256 → code_of quality field < 65536
small_code true field small = omega (arith, small, small_kind field.kind)
small_code false field small = omega (arith, small, small_kind field.kind)

codes_of_shape : (meta : MetaData) → IsMeta meta.fields
    → flat_map (digits_of 65536 4) (shape_of meta) ≡ map (code_of meta.quality) meta.fields ++ replicate (4 * 16 - length (map (code_of meta.quality) meta.fields)) 0
unfolding shape_of
codes_of_shape meta is =
    let small = All-map (λ (code : ℕ). code < 65536) (code_of meta.quality) meta.fields (λ k d within. small_code meta.quality (slice_index_or meta.fields k d) (small_caps meta.fields is k d within)) in
    digits_in-grouped 65536 4 16 (map (code_of meta.quality) meta.fields) small (omega (arith, length-map meta.fields (code_of meta.quality), is.count.1))

codes_same : (one other : MetaData) → IsMeta one.fields → IsMeta other.fields → shape_of one ≡ shape_of other → AllZip (SameCode one.quality other.quality) one.fields other.fields
codes_same one other is is2 same =
    same_forms one.quality other.quality one.fields other.fields _ _ (small_caps one.fields is) (small_caps other.fields is2)
    (sym (codes_of_shape one is) ∙ ap (flat_map (digits_of 65536 4)) same ∙ codes_of_shape other is2)

forms_of_codes : (p q : Bool) (fs gs : List Field) → AllZip (SameCode p q) fs gs → AllZip SameForm fs gs
forms_of_codes p q [] [] same = tt
forms_of_codes p q [] (g ∷ gs) same = absurd same
forms_of_codes p q (f ∷ fs) [] same = absurd same
forms_of_codes p q (f ∷ fs) (g ∷ gs) same = (same.0.form, forms_of_codes p q fs gs same.1)

-- a meta has a field, whose code says whether it has quality
quality_of_codes : (p q : Bool) (fs gs : List Field) → 1 ≤ length fs → AllZip (SameCode p q) fs gs → p ≡ q
quality_of_codes p q [] gs some same = absurd (omega arith)
quality_of_codes p q (f ∷ fs) [] some same = absurd same
quality_of_codes p q (f ∷ fs) (g ∷ gs) some same = same.0.quality

same_width : (f g : Field) → SameForm f g → width_of f ≡ width_of g
same_width f g same = ap (λ (kind : Kind). width kind f.cap) same.kind ∙ ap (width g.kind) same.cap

same_value_words : (fs gs : List Field) → AllZip SameForm fs gs → value_words fs ≡ value_words gs
same_value_words [] [] same = refl
same_value_words [] (g ∷ gs) same = absurd same
same_value_words (f ∷ fs) [] same = absurd same
same_value_words (f ∷ fs) (g ∷ gs) same =
    omega (arith, sum_by-cons width_of f fs, sum_by-cons width_of g gs, same_width f g same.0, same_value_words fs gs same.1)

same_length : (fs gs : List Field) → AllZip SameForm fs gs → length fs ≡ length gs
same_length [] [] same = refl
same_length [] (g ∷ gs) same = absurd same
same_length (f ∷ fs) [] same = absurd same
same_length (f ∷ fs) (g ∷ gs) same = ap suc (same_length fs gs same.1)

same_row_with : (fs gs : List Field) (words statuses : List ℕ) → AllZip SameForm fs gs → row_with fs words statuses ≡ row_with gs words statuses
same_row_with [] [] words statuses same = refl
same_row_with [] (g ∷ gs) words statuses same = absurd same
same_row_with (f ∷ fs) [] words statuses same = absurd same
same_row_with (f ∷ fs) (g ∷ gs) words statuses same =
    let status = slice_index statuses 0 in
    ap (λ (kind : Kind). record { value = value_in kind (take (width_of f) words); status = status } ∷ row_with fs (drop (width_of f) words) (drop 1 statuses)) same.0.kind
    ∙ ap (λ (n : ℕ). record { value = value_in g.kind (take n words); status = status } ∷ row_with fs (drop n words) (drop 1 statuses)) (same_width f g same.0)
    ∙ ap (λ (row : List DataValue). record { value = value_in g.kind (take (width_of g) words); status = status } ∷ row) (same_row_with fs gs (drop (width_of g) words) (drop 1 statuses) same.1)

same_row_in : (fs gs : List Field) (words : List ℕ) → AllZip SameForm fs gs → row_in fs words ≡ row_in gs words
unfolding row_in
same_row_in fs gs words same =
    same_row_with fs gs words (statuses_in (drop (value_words fs) words)) same
    ∙ ap (λ (n : ℕ). row_with gs words (statuses_in (drop n words))) (same_value_words fs gs same)

same_spelled_values : (fs gs : List Field) (row : List DataValue) → AllZip SameForm fs gs → spelled_values fs row ≡ spelled_values gs row
same_spelled_values [] [] row same = refl
same_spelled_values [] (g ∷ gs) row same = absurd same
same_spelled_values (f ∷ fs) [] row same = absurd same
same_spelled_values (f ∷ fs) (g ∷ gs) [] same = refl
same_spelled_values (f ∷ fs) (g ∷ gs) (x ∷ row) same =
    ap (λ (cap : ℕ). spelled_value cap x.value ++ spelled_values fs row) same.0.cap
    ∙ ap (λ (back : List ℕ). spelled_value g.cap x.value ++ back) (same_spelled_values fs gs row same.1)

same_parts : (fs gs : List Field) (row : List DataValue) → AllZip SameForm fs gs → spelled_parts fs row ≡ spelled_parts gs row
unfolding spelled_statuses
same_parts fs gs row same =
    ap (λ (front : List ℕ). front ++ spelled_statuses fs row) (same_spelled_values fs gs row same)
    ∙ ap (λ (n : ℕ). spelled_values gs row ++ grouped (2 ^ 32) 2 ((n + 1) / 2) (map (λ x. x.status) row)) (same_length fs gs same)

same_fit : (quality : Bool) (f g : Field) (x : DataValue) → SameForm f g → FitsField quality f x → FitsField quality g x
same_fit quality f g x same fits = record {
  is_value = fits.is_value;
  fits = record { same_kind = fits.fits.same_kind ∙ same.kind; within = omega (arith, fits.fits.within, same.cap) };
  is_status = fits.is_status;
}

same_rows : (quality : Bool) (fs gs : List Field) (row : List DataValue) → AllZip SameForm fs gs → IsRowOf quality fs row → IsRowOf quality gs row
same_rows quality [] [] row same is = is
same_rows quality [] (g ∷ gs) row same is = absurd same
same_rows quality (f ∷ fs) [] row same is = absurd same
same_rows quality (f ∷ fs) (g ∷ gs) [] same is = absurd is
same_rows quality (f ∷ fs) (g ∷ gs) (x ∷ row) same is = (same_fit quality f g x same.0 is.0, same_rows quality fs gs row same.1 is.1)

same_spelled_row : (fs gs : List Field) (row : List DataValue) → AllZip SameForm fs gs → spelled_row fs row ≡ spelled_row gs row
unfolding spelled_row
same_spelled_row fs gs row same = ap (λ (words : List ℕ). words ++ replicate (125 - length words) 0) (same_parts fs gs row same)

same_belongs : (one other : MetaData) (words : List ℕ) → AllZip SameForm one.fields other.fields → one.quality ≡ other.quality → Belongs one words → Belongs other words
same_belongs one other words same quality belongs = record {
  whole = belongs.whole;
  row = subst (λ (q : Bool). IsRowOf q other.fields (row_in other.fields words)) quality
      (same_rows one.quality one.fields other.fields (row_in other.fields words) same (subst (IsRow one) (same_row_in one.fields other.fields words same) belongs.row));
  spelled = belongs.spelled ∙ ap (spelled_row one.fields) (same_row_in one.fields other.fields words same) ∙ same_spelled_row one.fields other.fields (row_in other.fields words) same;
}

-- metas of one shape
one_form : (one other : MetaData) → HaveOneShape one other → AllZip SameForm one.fields other.fields
one_form one other have =
    forms_of_codes one.quality other.quality one.fields other.fields (codes_same one other have.is_meta have.other_is_meta have.same_shape)

pub shape-quality : (one other : MetaData) → HaveOneShape one other → one.quality ≡ other.quality
shape-quality one other have =
    quality_of_codes one.quality other.quality one.fields other.fields have.is_meta.count.0 (codes_same one other have.is_meta have.other_is_meta have.same_shape)

pub shape-rows : (one other : MetaData) (words : List ℕ) → HaveOneShape one other → row_in one.fields words ≡ row_in other.fields words
shape-rows one other words have = same_row_in one.fields other.fields words (one_form one other have)

pub shape-patches : (one other : MetaData) (patch : Patch) → HaveOneShape one other → patch_in one.fields patch ≡ patch_in other.fields patch
unfolding patch_in
shape-patches one other patch have = ap (marked_from 0 patch.mask) (shape-rows one other patch.row.words have)

pub shape-words : (one other : MetaData) (row : List DataValue) → HaveOneShape one other → spelled_row one.fields row ≡ spelled_row other.fields row
shape-words one other row have = same_spelled_row one.fields other.fields row (one_form one other have)

pub shape-belongs : (one other : MetaData) (words : List ℕ) → HaveOneShape one other → Belongs one words → Belongs other words
shape-belongs one other words have belongs = same_belongs one other words (one_form one other have) (shape-quality one other have) belongs

pub BelongsTo-shape_of : (meta : MetaData) (words : List ℕ) → IsMeta meta.fields → BelongsTo (shape_of meta) words ↔ Belongs meta words
BelongsTo-shape_of meta words is = (
  λ to. let codes = codes_same to.meta meta to.is_meta is to.of_shape in
      same_belongs to.meta meta words (forms_of_codes to.meta.quality meta.quality to.meta.fields meta.fields codes)
      (quality_of_codes to.meta.quality meta.quality to.meta.fields meta.fields to.is_meta.count.0 codes) to.belongs,
  λ belongs. record { whole = belongs.whole; meta = meta; is_meta = is; of_shape = refl; belongs = belongs },
)

pub BelongsTo-zeros : (meta : MetaData) → IsMeta meta.fields → BelongsTo (shape_of meta) (replicate 125 0)
BelongsTo-zeros meta is = (BelongsTo-shape_of meta (replicate 125 0) is).1 (Belongs-zeros meta (replicate 125 0) is refl)

-- a row that is patched
pub record Patches (meta : MetaData) (patch : Patch) (words : List ℕ) : Type 0 where
  pub belongs : Belongs meta (patched_words meta.fields patch words)
  pub row : row_in meta.fields (patched_words meta.fields patch words) ≡ patched (row_in meta.fields words) (patch_in meta.fields patch)

pub patches : (meta : MetaData) (patch : Patch) (words : List ℕ) → IsMeta meta.fields → IsPatchOf meta patch → Belongs meta words → Patches meta patch words
unfolding patched_words
patches meta patch words is of belongs =
    let row = IsRow-patched meta.quality meta.fields 0 (row_in meta.fields words) (patch_in meta.fields patch) belongs.row (IsPatch-patch_in meta patch of) in
    record {
      belongs = Belongs-spelled_row meta (patched (row_in meta.fields words) (patch_in meta.fields patch)) (narrow meta.fields is) row;
      row = row_in-spelled_row meta.quality meta.fields (patched (row_in meta.fields words) (patch_in meta.fields patch)) row;
    }

pub BelongsTo-patched_words : (meta : MetaData) (patch : Patch) (shape words : List ℕ) → IsMeta meta.fields → shape_of meta ≡ shape → IsPatchOf meta patch → BelongsTo shape words
    → BelongsTo shape (patched_words meta.fields patch words)
BelongsTo-patched_words meta patch shape words is same of to =
    let belongs = (BelongsTo-shape_of meta words is).0 (subst (λ (s : List ℕ). BelongsTo s words) (sym same) to) in
    subst (λ (s : List ℕ). BelongsTo s (patched_words meta.fields patch words)) same
    ((BelongsTo-shape_of meta (patched_words meta.fields patch words) is).1 (patches meta patch words is of belongs).belongs)

-- rows with the same words have the same values and statuses, and the other way round
pub same_words : (meta : MetaData) (one other : List ℕ) → Belongs meta one → Belongs meta other → (one ≡ other) ↔ (row_in meta.fields one ≡ row_in meta.fields other)
same_words meta one other of_one of_other =
    (λ e. ap (row_in meta.fields) e, λ e. of_one.spelled ∙ ap (spelled_row meta.fields) e ∙ sym of_other.spelled)
