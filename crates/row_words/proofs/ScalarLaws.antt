-- Scalars, whose values take one word.
use Rattle.std.proofs.Common.{◌≡◌, ◌≢◌, ℕ, zero, suc, ◌+◌, ◌-◌, ◌^◌, ◌<◌, true, List, [], ◌∷◌, length, take, drop, get_or, set, refl, sym, ap, ◌∙◌, subst, arith}
use Rattle.std.specs.Prelude.{slice_index, ◌==◌, if◌then◌else◌, FitsSigned}
use Rattle.std.specs.Int.{w8, w16, w32, w64, cast_signed}
use Rattle.std.specs.List.{HoldsAt}
use Rattle.std.proofs.lemmas.Int.{of_z-to_z, ints}
use Rattle.std.proofs.lemmas.List.{get_or-take, get_or-drop}
use borrow.Rule.Slice.PartMut.{put_mid}
use Rattle.ua_values.specs.declared.kind.Kind.{Kind}
use Rattle.ua_values.specs.declared.kind.Kind.TheVariants as kinds
use Rattle.ua_values.specs.Values.{kind_of, size_of, IsValue}
use Rattle.dataset_meta.specs.declared.field.Field.{Field}
use Rattle.dataset_meta.specs.Fields.{width, width_of}
use Rattle.dataset_meta.specs.Metas.{start_of, IsMeta, MetaData}
use Rattle.row_words.specs.Words.{is_scalar, IsWordOf, scalar_in, spelled_value, value_in, Spells}
use Rattle.row_words.specs.Belonging.{row_in, Belongs}
use Rattle.row_words.specs.Setting.{HasValue, with_value}
use Rattle.row_words.proofs.ValueLaws.{word_of_scalar}
use Rattle.row_words.proofs.RowLaws.{FitsIn}
use Rattle.row_words.proofs.FieldLaws.{ReadsAs, read_part, Wrote, field_written, ends_within}

-- the value in a word is one of the kind
pub kind_of-scalar_in : (kind : Kind) (word : ℕ) → kind_of (scalar_in kind word) ≡ kind
kind_of-scalar_in kinds.Boolean word = refl
kind_of-scalar_in _ word = refl

pub size_of-scalar_in : (kind : Kind) (word : ℕ) → size_of (scalar_in kind word) ≡ 0
size_of-scalar_in kinds.Boolean word = refl
size_of-scalar_in _ word = refl

signed8 : (n : ℕ) → n < 2 ^ 8 → FitsSigned w8 (cast_signed w8 n)
signed8 n h = omega (arith, ints)

signed16 : (n : ℕ) → n < 2 ^ 16 → FitsSigned w16 (cast_signed w16 n)
signed16 n h = omega (arith, ints)

signed32 : (n : ℕ) → n < 2 ^ 32 → FitsSigned w32 (cast_signed w32 n)
signed32 n h = omega (arith, ints)

signed64 : (n : ℕ) → n < 2 ^ 64 → FitsSigned w64 (cast_signed w64 n)
signed64 n h = omega (arith, ints)

-- it is in range
pub IsValue-scalar_in : (kind : Kind) (word : ℕ) → IsWordOf kind word → IsValue (scalar_in kind word)
IsValue-scalar_in kinds.Boolean word is = tt
IsValue-scalar_in kinds.SByte word is = signed8 word is
IsValue-scalar_in kinds.Byte word is = is
IsValue-scalar_in kinds.Int16 word is = signed16 word is
IsValue-scalar_in kinds.UInt16 word is = is
IsValue-scalar_in kinds.Int32 word is = signed32 word is
IsValue-scalar_in kinds.UInt32 word is = is
IsValue-scalar_in kinds.Int64 word is = signed64 word is
IsValue-scalar_in kinds.UInt64 word is = is
IsValue-scalar_in kinds.Float word is = is
IsValue-scalar_in kinds.Double word is = is
IsValue-scalar_in kinds.DateTime word is = signed64 word is
IsValue-scalar_in kinds.StatusCode word is = is
IsValue-scalar_in kinds.String word is = absurd is
IsValue-scalar_in kinds.ByteString word is = absurd is
IsValue-scalar_in kinds.Guid word is = absurd is

pub boolean_word : (word : ℕ) → word < 2 → (if word == 1 then 1 else 0) ≡ word
boolean_word zero is = refl
boolean_word (suc zero) is = refl
boolean_word (suc (suc word)) is = absurd (omega arith)

-- its word is the word that it stands in
pub word_back : (cap : ℕ) (kind : Kind) (word : ℕ) → IsWordOf kind word → word ∷ [] ≡ spelled_value cap (scalar_in kind word)
word_back cap kinds.Boolean word is = ap (λ (w : ℕ). w ∷ []) (sym (boolean_word word is))
word_back cap kinds.SByte word is = ap (λ (w : ℕ). w ∷ []) (sym (of_z-to_z w8 word is))
word_back cap kinds.Byte word is = refl
word_back cap kinds.Int16 word is = ap (λ (w : ℕ). w ∷ []) (sym (of_z-to_z w16 word is))
word_back cap kinds.UInt16 word is = refl
word_back cap kinds.Int32 word is = ap (λ (w : ℕ). w ∷ []) (sym (of_z-to_z w32 word is))
word_back cap kinds.UInt32 word is = refl
word_back cap kinds.Int64 word is = ap (λ (w : ℕ). w ∷ []) (sym (of_z-to_z w64 word is))
word_back cap kinds.UInt64 word is = refl
word_back cap kinds.Float word is = refl
word_back cap kinds.Double word is = refl
word_back cap kinds.DateTime word is = ap (λ (w : ℕ). w ∷ []) (sym (of_z-to_z w64 word is))
word_back cap kinds.StatusCode word is = refl
word_back cap kinds.String word is = absurd is
word_back cap kinds.ByteString word is = absurd is
word_back cap kinds.Guid word is = absurd is

pub FitsIn-scalar_in : (field : Field) (word : ℕ) → IsWordOf field.kind word → FitsIn field (scalar_in field.kind word)
FitsIn-scalar_in field word is = record {
  is_value = IsValue-scalar_in field.kind word is;
  fits = record { same_kind = kind_of-scalar_in field.kind word; within = omega (arith, size_of-scalar_in field.kind word) };
}

-- a kind that has words is a scalar's
pub is_scalar-word : (kind : Kind) (word : ℕ) → IsWordOf kind word → is_scalar kind ≡ true
is_scalar-word kinds.String word is = absurd is
is_scalar-word kinds.ByteString word is = absurd is
is_scalar-word kinds.Guid word is = absurd is
is_scalar-word _ word is = refl

width-scalar : (kind : Kind) (cap : ℕ) → is_scalar kind ≡ true → width kind cap ≡ 1
width-scalar kinds.String cap is = absurd (cc)
width-scalar kinds.ByteString cap is = absurd (cc)
width-scalar kinds.Guid cap is = absurd (cc)
width-scalar _ cap is = refl

value_in-scalar : (kind : Kind) (words : List ℕ) → is_scalar kind ≡ true → value_in kind words ≡ scalar_in kind (slice_index words 0)
value_in-scalar kinds.String words is = absurd (cc)
value_in-scalar kinds.ByteString words is = absurd (cc)
value_in-scalar kinds.Guid words is = absurd (cc)
value_in-scalar _ words is = refl

not_String : (kind : Kind) → is_scalar kind ≡ true → kind ≢ kinds.String
not_String kind is same = let no = ap is_scalar same in cc

not_ByteString : (kind : Kind) → is_scalar kind ≡ true → kind ≢ kinds.ByteString
not_ByteString kind is same = let no = ap is_scalar same in cc

not_Guid : (kind : Kind) → is_scalar kind ≡ true → kind ≢ kinds.Guid
not_Guid kind is same = let no = ap is_scalar same in cc

-- the word of a scalar's words
word_of : (kind : Kind) (words : List ℕ) → is_scalar kind ≡ true → Spells kind words → IsWordOf kind (slice_index words 0)
word_of kind words is spells =
    let same : kind_of spells.value ≡ kind = spells.fits.same_kind in
    let scalar : is_scalar (kind_of spells.value) ≡ true = ap is_scalar same ∙ is in
    let here : IsWordOf (kind_of spells.value) (slice_index (spelled_value spells.cap spells.value) 0) =
    word_of_scalar spells.cap spells.value spells.is_value (not_String (kind_of spells.value) scalar) (not_ByteString (kind_of spells.value) scalar) (not_Guid (kind_of spells.value) scalar) in
    subst (λ (ws : List ℕ). IsWordOf kind (slice_index ws 0)) (sym spells.spelled)
    (subst (λ (k : Kind). IsWordOf k (slice_index (spelled_value spells.cap spells.value) 0)) same here)

-- whatever the default is, where there is a field
same_at : (fields : List Field) (index : ℕ) (one other : Field) → index < length fields → get_or fields index one ≡ get_or fields index other
same_at [] index one other within = absurd (omega arith)
same_at (field ∷ fields) zero one other within = refl
same_at (field ∷ fields) (suc index) one other within = same_at fields index one other (omega arith)

first_of_part : (words : List ℕ) (start : ℕ) → slice_index (take 1 (drop start words)) 0 ≡ get_or words start 0
first_of_part words start = get_or-take 1 (drop start words) 0 0 (omega arith) ∙ get_or-drop start words 0 0 ∙ ap (λ (n : ℕ). get_or words n 0) (omega arith)

pub start_within : (fields : List Field) (index : ℕ) → IsMeta fields → index < length fields → HoldsAt (λ field. is_scalar field.kind ≡ true) fields index → start_of fields index < 125
start_within [] index meta within scalar = absurd (omega arith)
start_within (first ∷ fields) index meta within scalar =
    let field = get_or (first ∷ fields) index first in
    omega (arith, meta.narrow, ends_within (first ∷ fields) index field meta within (same_at (first ∷ fields) index first field within), width-scalar field.kind field.cap (scalar first))

-- what is read at a scalar field
pub record ReadsWord (fields : List Field) (words : List ℕ) (index got : ℕ) : Type 0 where
  pub word : HoldsAt (λ field. IsWordOf field.kind got) fields index
  pub value : HoldsAt (λ field. HasValue (row_in fields words) index (scalar_in field.kind got)) fields index

pub word_read : (meta : MetaData) (words : List ℕ) (index start : ℕ) → IsMeta meta.fields → Belongs meta words → index < length meta.fields
    → HoldsAt (λ field. is_scalar field.kind ≡ true) meta.fields index → start ≡ start_of meta.fields index → ReadsWord meta.fields words index (get_or words start 0)
word_read meta words index start is belongs within scalar begins = record {
  word = λ d. subst (IsWordOf (get_or meta.fields index d).kind) (word_is d) (word_of (get_or meta.fields index d).kind (part d) (scalar d) (reads d).spells);
  value = λ d e. (reads d).value e
      ∙ (value_in-scalar (get_or meta.fields index d).kind (part d) (scalar d) ∙ ap (scalar_in (get_or meta.fields index d).kind) (word_is d));
}
  where
    part : Field → List ℕ
    part d = take (width_of (get_or meta.fields index d)) (drop (start_of meta.fields index) words)

    reads : (d : Field) → ReadsAs meta.fields words index (get_or meta.fields index d) (part d)
    reads d = read_part meta words index (get_or meta.fields index d) is belongs within (same_at meta.fields index d (get_or meta.fields index d) within)

    word_is : (d : Field) → slice_index (part d) 0 ≡ get_or words start 0
    word_is d = ap (λ (n : ℕ). slice_index (take n (drop (start_of meta.fields index) words)) 0) (width-scalar (get_or meta.fields index d).kind (get_or meta.fields index d).cap (scalar d))
        ∙ first_of_part words (start_of meta.fields index) ∙ ap (λ (n : ℕ). get_or words n 0) (sym begins)

-- one word in place of another
one_set : (words : List ℕ) (start word : ℕ) → start < length words → put_mid start 1 words (word ∷ []) ≡ set words start word
one_set [] start word within = absurd (omega arith)
one_set (old ∷ words) zero word within = refl
one_set (old ∷ words) (suc start) word within = ap (λ (ws : List ℕ). old ∷ ws) (one_set words start word (omega arith))

-- there is a field at each index of one
some_field : (fields : List Field) (index : ℕ) → index < length fields → Field
some_field [] index within = absurd (omega arith)
some_field (first ∷ fields) index within = first

-- what is written over a scalar field
pub record WroteWord (meta : MetaData) (words : List ℕ) (index word : ℕ) (after : List ℕ) : Type 0 where
  pub belongs : Belongs meta after
  pub set : HoldsAt (λ field. row_in meta.fields after ≡ with_value (row_in meta.fields words) index (scalar_in field.kind word)) meta.fields index

pub word_written : (meta : MetaData) (words : List ℕ) (index start word : ℕ) → IsMeta meta.fields → Belongs meta words → index < length meta.fields
    → HoldsAt (λ field. IsWordOf field.kind word) meta.fields index → start ≡ start_of meta.fields index → WroteWord meta words index word (set words start word)
word_written meta words index start word is belongs within of begins = record { belongs = (wrote (some_field meta.fields index within)).belongs; set = λ d. (wrote d).set }
  where
    wrote : (d : Field) → Wrote meta words index (scalar_in (get_or meta.fields index d).kind word) (set words start word)
    wrote d =
        let all = meta.fields in
        let field = get_or all index d in
        let scalar = is_scalar-word field.kind word (of d) in
        let wide : 1 ≡ width_of field = sym (width-scalar field.kind field.cap scalar) in
        let room : start < length words = omega (arith, begins, belongs.whole, start_within all index is within (λ e. is_scalar-word (get_or all index e).kind word (of e))) in
        let one : (start + 1) - start ≡ 1 = omega arith in
        subst (Wrote meta words index (scalar_in field.kind word)) (ap (λ (k : ℕ). put_mid start k words (word ∷ [])) one ∙ one_set words start word room)
        (field_written meta words index field (scalar_in field.kind word) start 1 (word ∷ []) is belongs within (same_at all index d field within) (FitsIn-scalar_in field word (of d)) begins wide
        (word_back field.cap field.kind word (of d)))
