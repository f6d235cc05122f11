-- The words of a row, all zero, and a patch without its lowest change.
use Rattle.std.proofs.Common.{◌≡◌, ℕ, ◌+◌, ◌-◌, ◌<◌, Bool, true, false, List, ◌++◌, length, drop, get_or, refl, sym, ap, subst, ◌∙◌, arith, Some, inl, inr}
use Rattle.std.specs.Prelude.{replicate, slice_get, slice_set}
use Rattle.std.specs.Int.{trailing_zeros, w64}
use Rattle.std.specs.List.{HoldsAt}
use Rattle.std.proofs.Math.Seq.{drop-append_seam}
use Rattle.std.proofs.lemmas.Bool.{cases_eq}
use Rattle.std.proofs.lemmas.List.{replicate-append-replicate, get_or_default, get_or-set_same}
use Rattle.std.proofs.lemmas.Option.{slice_get-get_or}
use Rattle.ua_values.specs.declared.kind.Kind.{Kind}
use Rattle.ua_values.specs.declared.kind.Kind.TheVariants as kinds
use Rattle.ua_values.specs.declared.value.Value.{Value}
use Rattle.ua_values.specs.Values.{opening}
use Rattle.dataset_meta.specs.declared.field.Field.{Field}
use Rattle.dataset_meta.specs.DataValues.{DataValue}
use Rattle.dataset_meta.specs.Metas.{MetaData, IsMeta, words_of}
use Rattle.dataset_meta.specs.Rows.{opening_value}
use Rattle.dataset_meta.proofs.RowLaws.{length_row, slice_get-set_other}
use Rattle.row_words.specs.declared.row.Row.{Row}
use Rattle.row_words.specs.declared.patch.Patch.{Patch}
use Rattle.row_words.specs.Words.{is_scalar, IsWordOf, scalar_in}
use Rattle.row_words.specs.Belonging.{Belongs, row_in, spelled_parts, spelled_row}
use Rattle.row_words.specs.Patches.{IsPatchOf}
use Rattle.row_words.proofs.RowLaws.{length-spelled_parts, narrow}
use Rattle.row_words.proofs.Marks.{later, Lowest}
use Rattle.frame_codec.specs.Contents.{kept}

-- behind the words of a meta's rows stand zeros
zeros_behind : (meta : MetaData) (words : List ℕ) → Belongs meta words → drop (words_of meta.fields) words ≡ replicate (125 - words_of meta.fields) 0
unfolding spelled_row
zeros_behind meta words belongs =
    let parts = spelled_parts meta.fields (row_in meta.fields words) in
    ap (drop (words_of meta.fields)) belongs.spelled
    ∙ subst (λ (n : ℕ). drop n (parts ++ replicate (125 - length parts) 0) ≡ replicate (125 - n) 0) (length-spelled_parts meta.quality meta.fields (row_in meta.fields words) belongs.row)
    (drop-append_seam parts (replicate (125 - length parts) 0))

-- so that with zeros in place of those words all are zero
pub all-zero : (meta : MetaData) (words front : List ℕ) → IsMeta meta.fields → Belongs meta words → front ≡ replicate (words_of meta.fields) 0 → front ++ drop (words_of meta.fields) words ≡ replicate 125 0
all-zero meta words front is_meta belongs zeros =
    let count = words_of meta.fields in
    let all : count + (125 - count) ≡ 125 = omega (arith, narrow meta.fields is_meta) in
    ap (λ (first : List ℕ). first ++ drop count words) zeros
    ∙ ap (λ (rest : List ℕ). replicate count 0 ++ rest) (zeros_behind meta words belongs)
    ∙ replicate-append-replicate count (125 - count) 0
    ∙ ap (λ (n : ℕ). replicate n 0) all

-- zero is the word of each scalar
zero_word : (kind : Kind) → is_scalar kind ≡ true → IsWordOf kind 0
zero_word kinds.Boolean is = omega arith
zero_word kinds.SByte is = omega arith
zero_word kinds.Byte is = omega arith
zero_word kinds.Int16 is = omega arith
zero_word kinds.UInt16 is = omega arith
zero_word kinds.Int32 is = omega arith
zero_word kinds.UInt32 is = omega arith
zero_word kinds.Int64 is = omega arith
zero_word kinds.UInt64 is = omega arith
zero_word kinds.Float is = omega arith
zero_word kinds.Double is = omega arith
zero_word kinds.DateTime is = omega arith
zero_word kinds.StatusCode is = omega arith
zero_word kinds.String is = absurd (cc)
zero_word kinds.ByteString is = absurd (cc)
zero_word kinds.Guid is = absurd (cc)

-- it stands for what a scalar is at first
zero_opens : (kind : Kind) → is_scalar kind ≡ true → scalar_in kind 0 ≡ opening kind
zero_opens kinds.Boolean is = refl
zero_opens kinds.SByte is = refl
zero_opens kinds.Byte is = refl
zero_opens kinds.Int16 is = refl
zero_opens kinds.UInt16 is = refl
zero_opens kinds.Int32 is = refl
zero_opens kinds.UInt32 is = refl
zero_opens kinds.Int64 is = refl
zero_opens kinds.UInt64 is = refl
zero_opens kinds.Float is = refl
zero_opens kinds.Double is = refl
zero_opens kinds.DateTime is = refl
zero_opens kinds.StatusCode is = refl
zero_opens kinds.String is = absurd (cc)
zero_opens kinds.ByteString is = absurd (cc)
zero_opens kinds.Guid is = absurd (cc)

pub zero_fits : (fields : List Field) (index : ℕ) (field : Field) → index < length fields → field ≡ get_or fields index field → is_scalar field.kind ≡ true
    → HoldsAt (λ f. IsWordOf f.kind 0) fields index
zero_fits fields index field within at scalar = λ d. subst (λ (f : Field). IsWordOf f.kind 0) (at ∙ get_or_default fields index field d within) (zero_word field.kind scalar)

zero_kept : (quality : Bool) (kind : Kind) → is_scalar kind ≡ true → kept quality (scalar_in kind 0) 0 ≡ record { value = opening kind; status = 0 }
zero_kept true kind is = ap (λ (value : Value). kept true value 0) (zero_opens kind is)
zero_kept false kind is = ap (λ (value : Value). kept false value 0) (zero_opens kind is)

-- the lowest change is taken out where its field is zero again, and Good
pub without_lowest : (meta : MetaData) (patch : Patch) (row : Row) (field : Field) → IsPatchOf meta patch → Lowest patch.mask (length meta.fields) → Belongs meta row.words
    → field ≡ get_or meta.fields (trailing_zeros w64 patch.mask) field → is_scalar field.kind ≡ true
    → row_in meta.fields row.words ≡ slice_set (row_in meta.fields patch.row.words) (trailing_zeros w64 patch.mask) (kept meta.quality (scalar_in field.kind 0) 0)
    → IsPatchOf meta (record { mask = later patch.mask; row = row })
without_lowest meta patch row field of first belongs at scalar set =
    let lowest = trailing_zeros w64 patch.mask in
    let old = row_in meta.fields patch.row.words in
    let zero = kept meta.quality (scalar_in field.kind 0) 0 in
    let new = row_in meta.fields row.words in
    let long = length_row meta.quality meta.fields old of.belongs.row in
    let as_long = length_row meta.quality meta.fields new belongs.row in
    record {
      marks = omega (arith, first.fewer, of.marks);
      belongs = belongs;
      unmarked = λ k inside clear d. elim (cases_eq k lowest) [
        | inl same ↦
            ap (slice_get new) same
            ∙ slice_get-get_or new lowest zero (omega (arith, first.within, as_long))
            ∙ ap (λ (values : List DataValue). Some (get_or values lowest zero)) set
            ∙ ap Some (get_or-set_same old lowest zero zero (omega (arith, first.within, long)))
            ∙ ap Some (zero_kept meta.quality field.kind scalar)
            ∙ ap (λ (f : Field). Some (opening_value f)) (at ∙ get_or_default meta.fields lowest field d first.within)
            ∙ ap (λ (i : ℕ). Some (opening_value (get_or meta.fields i d))) (sym same)
        | inr other ↦
            ap (λ (values : List DataValue). slice_get values k) set
            ∙ slice_get-set_other old lowest k zero other
            ∙ of.unmarked k inside (sym (first.others k other) ∙ clear) d
      ];
    }
