-- The words of one field among those of two rows, and the words of whole rows.
use Rattle.std.proofs.Common.{◌≡◌, ℕ, ◌+◌, ◌-◌, ◌/◌, ◌%◌, ◌^◌, ◌<◌, Bool, true, false, not, ◌&&◌, ◌==◌, List, [], ◌∷◌, ◌++◌, length, take, drop, get_or, replicate, refl, sym, ap, ◌∙◌, subst, arith, ◌↔◌}
use Rattle.std.specs.Prelude.{slice_index}
use Rattle.std.specs.List.{HoldsAt}
use Rattle.std.specs.Str.{bytes_eq}
use Rattle.std.proofs.lemmas.Slice.Eq.{bytes_eq-Decides}
use Rattle.std.proofs.lemmas.Bool.Decides.{Decides-eqb}
use Rattle.std.proofs.lemmas.List.{take_at}
use Rattle.ua_values.specs.declared.value.Value.{Value}
use Rattle.dataset_meta.specs.declared.field.Field.{Field}
use Rattle.dataset_meta.specs.DataValues.{DataValue}
use Rattle.dataset_meta.specs.Fields.{width_of}
use Rattle.dataset_meta.specs.Metas.{start_of, value_words, words_of, IsMeta, MetaData}
use Rattle.dataset_meta.specs.Rows.{IsRowOf}
use Rattle.dataset_meta.specs.SameValues.{same_value, same_data_value}
use Rattle.dataset_meta.proofs.SameLaws.{same_value-true, same_value-refl}
use Rattle.row_words.specs.Digits.{digits_of}
use Rattle.row_words.specs.Words.{spelled_value, value_in, scalar_in, IsWordOf}
use Rattle.row_words.specs.Belonging.{spelled_parts, spelled_row, row_in, Belongs}
use Rattle.row_words.specs.Setting.{HasValue}
use Rattle.row_words.proofs.RowLaws.{Belongs-at, length-spelled_parts}
use Rattle.row_words.proofs.FieldLaws.{StandsAt, stands, field_read, status_read}
use Rattle.row_words.proofs.ScalarLaws.{word_back}
use Rattle.row_words.proofs.SettingLaws.{good_at}

-- two tests that hold of the same things
test_case : (words values : Bool) → (words ≡ true → values ≡ true) → (values ≡ true → words ≡ true) → words ≡ values
test_case true values there back = sym (there refl)
test_case false true there back = back refl
test_case false false there back = refl

-- whether the words of a field are the same is whether its values are
same_words : (x y : List ℕ) (before after : Value) → (x ≡ y) ↔ (before ≡ after) → bytes_eq x y ≡ same_value before after
same_words x y before after iff =
    test_case (bytes_eq x y) (same_value before after)
    (λ e. subst (λ (v : Value). same_value before v ≡ true) (iff.0 ((bytes_eq-Decides x y).0 e)) (same_value-refl before))
    (λ e. (bytes_eq-Decides x y).1 (iff.1 (same_value-true before after e)))

same_word : (m n : ℕ) (before after : Value) → (m ≡ n) ↔ (before ≡ after) → (m == n) ≡ same_value before after
same_word m n before after iff =
    test_case (m == n) (same_value before after)
    (λ e. subst (λ (v : Value). same_value before v ≡ true) (iff.0 ((Decides-eqb m n).0 e)) (same_value-refl before))
    (λ e. (Decides-eqb m n).1 (iff.1 (same_value-true before after e)))

-- two values of one field, whatever stands for what is beyond the rows
abbrev pub Differ : MetaData → List ℕ → List ℕ → ℕ → (DataValue → DataValue → Type 0) → Type 0
Differ meta old new index P = HoldsAt (λ before. HoldsAt (λ after. P before after) (row_in meta.fields new) index) (row_in meta.fields old) index

of_both : (meta : MetaData) (old new : List ℕ) (index : ℕ) (P : DataValue → DataValue → Type 0) → (s : StandsAt (row_in meta.fields old) index) (t : StandsAt (row_in meta.fields new) index)
    → P s.x t.x → Differ meta old new index P
of_both meta old new index P s t holds = λ d e.
    subst (λ (x : DataValue). P x (get_or (row_in meta.fields new) index e)) (sym (s.here d)) (subst (λ (y : DataValue). P s.x y) (sym (t.here e)) holds)

pub words_tell : (meta : MetaData) (old new : List ℕ) (index : ℕ) (field : Field) (start width : ℕ) (result : Bool) → IsMeta meta.fields → Belongs meta old → Belongs meta new
    → index < length meta.fields → field ≡ get_or meta.fields index field → start ≡ start_of meta.fields index → width ≡ width_of field
    → result ≡ not (bytes_eq (take ((start + width) - start) (drop start old)) (take ((start + width) - start) (drop start new)))
    → Differ meta old new index (λ before after. result ≡ not (same_value before.value after.value))
words_tell meta old new index field start width result is of_old of_new within at begins wide tells =
    let s = stands meta old index of_old within in
    let t = stands meta new index of_new within in
    let one = field_read meta old index field start width is of_old within at begins wide in
    let two = field_read meta new index field start width is of_new within at begins wide in
    let count : (start + width) - start ≡ width_of field = omega (arith, wide) in
    let was : take ((start + width) - start) (drop start old) ≡ spelled_value field.cap s.x.value =
    rw (count, begins) (Belongs-at meta old index field s.x of_old within at (sym (s.here s.x))) in
    let now : take ((start + width) - start) (drop start new) ≡ spelled_value field.cap t.x.value =
    rw (count, begins) (Belongs-at meta new index field t.x of_new within at (sym (t.here t.x))) in
    let value_of = λ (x : DataValue). x.value in
    let iff : (take ((start + width) - start) (drop start old) ≡ take ((start + width) - start) (drop start new)) ↔ (s.x.value ≡ t.x.value) = (
      λ e. sym (ap value_of (s.here s.x)) ∙ one.value s.x ∙ ap (value_in field.kind) e ∙ sym (two.value t.x) ∙ ap value_of (t.here t.x),
      λ e. was ∙ ap (spelled_value field.cap) e ∙ sym now,
    ) in
    of_both meta old new index (λ before after. result ≡ not (same_value before.value after.value)) s t
    (tells ∙ ap not (same_words (take ((start + width) - start) (drop start old)) (take ((start + width) - start) (drop start new)) s.x.value t.x.value iff))

same_head : (m n : ℕ) → m ∷ [] ≡ n ∷ [] → m ≡ n
same_head m n e = cc

pub word_tells : (meta : MetaData) (old new : List ℕ) (index : ℕ) (field : Field) (m n : ℕ) (result : Bool) → Belongs meta old → Belongs meta new
    → index < length meta.fields
    → HoldsAt (λ f. IsWordOf f.kind m) meta.fields index → HoldsAt (λ f. IsWordOf f.kind n) meta.fields index
    → HoldsAt (λ f. HasValue (row_in meta.fields old) index (scalar_in f.kind m)) meta.fields index
    → HoldsAt (λ f. HasValue (row_in meta.fields new) index (scalar_in f.kind n)) meta.fields index
    → result ≡ not (m == n) → Differ meta old new index (λ before after. result ≡ not (same_value before.value after.value))
word_tells meta old new index field m n result of_old of_new within word word2 value value2 tells =
    let s = stands meta old index of_old within in
    let t = stands meta new index of_new within in
    let value_of = λ (x : DataValue). x.value in
    let kind = (get_or meta.fields index field).kind in
    let was : s.x.value ≡ scalar_in kind m = sym (ap value_of (s.here s.x)) ∙ value field s.x in
    let now : t.x.value ≡ scalar_in kind n = sym (ap value_of (t.here t.x)) ∙ value2 field t.x in
    let iff : (m ≡ n) ↔ (s.x.value ≡ t.x.value) = (
      λ e. was ∙ ap (scalar_in kind) e ∙ sym now,
      λ e. same_head m n (word_back 0 kind m (word field) ∙ ap (spelled_value 0) (sym was ∙ e ∙ now) ∙ sym (word_back 0 kind n (word2 field))),
    ) in
    of_both meta old new index (λ before after. result ≡ not (same_value before.value after.value)) s t (tells ∙ ap not (same_word m n s.x.value t.x.value iff))

good_case : (values statuses : Bool) → false ≡ not values → statuses ≡ true → false ≡ not (values && statuses)
good_case true statuses same good = sym (ap not good)
good_case false statuses same good = absurd (cc)

-- a field's status is the same in both rows
abbrev pub IsOneStatus : MetaData → List ℕ → List ℕ → ℕ → Type 0
IsOneStatus meta old new index = (s : StandsAt (row_in meta.fields old) index) (t : StandsAt (row_in meta.fields new) index) → s.x.status ≡ t.x.status

-- as without quality each is
pub good_status : (meta : MetaData) (old new : List ℕ) (index : ℕ) → Belongs meta old → Belongs meta new → index < length meta.fields → meta.quality ≡ false → IsOneStatus meta old new index
good_status meta old new index of_old of_new within none = λ s t.
    let was : s.x.status ≡ 0 = good_at meta.fields (row_in meta.fields old) index s.x (subst (λ (q : Bool). IsRowOf q meta.fields (row_in meta.fields old)) none of_old.row) within (s.here s.x) in
    let now : t.x.status ≡ 0 = good_at meta.fields (row_in meta.fields new) index t.x (subst (λ (q : Bool). IsRowOf q meta.fields (row_in meta.fields new)) none of_new.row) within (t.here t.x) in
    was ∙ sym now

-- and with quality where its word is the same
pub word_status : (meta : MetaData) (old new : List ℕ) (index : ℕ) → Belongs meta old → Belongs meta new → index < length meta.fields
    → get_or old (value_words meta.fields + index / 2) 0 ≡ get_or new (value_words meta.fields + index / 2) 0 → IsOneStatus meta old new index
word_status meta old new index of_old of_new within same = λ s t.
    let status_of = λ (x : DataValue). x.status in
    let was = status_read meta old index (value_words meta.fields + index / 2) _ of_old within refl refl in
    let now = status_read meta new index (value_words meta.fields + index / 2) _ of_new within refl refl in
    sym (ap status_of (s.here s.x)) ∙ was s.x ∙ ap (λ (w : ℕ). slice_index (digits_of (2 ^ 32) 2 w) (index % 2)) same ∙ sym (now t.x) ∙ ap status_of (t.here t.x)

-- then values tell
pub status_tells : (meta : MetaData) (old new : List ℕ) (index : ℕ) (differs result : Bool) → Belongs meta old → Belongs meta new → index < length meta.fields → IsOneStatus meta old new index → result ≡ false → differs ≡ false
    → Differ meta old new index (λ before after. differs ≡ not (same_value before.value after.value)) → Differ meta old new index (λ before after. result ≡ not (same_data_value before after))
status_tells meta old new index differs result of_old of_new within one is same values =
    let s = stands meta old index of_old within in
    let t = stands meta new index of_new within in
    λ d e.
    let before = get_or (row_in meta.fields old) index d in
    let after = get_or (row_in meta.fields new) index e in
    let statuses : before.status ≡ after.status = ap (λ (x : DataValue). x.status) (s.here d) ∙ one s t ∙ sym (ap (λ (x : DataValue). x.status) (t.here e)) in
    is ∙ good_case (same_value before.value after.value) (before.status == after.status) (sym same ∙ values d e) ((Decides-eqb before.status after.status).1 statuses)

-- without quality no status differs
pub good_tells : (meta : MetaData) (old new : List ℕ) (index : ℕ) (differs result : Bool) → Belongs meta old → Belongs meta new → index < length meta.fields → meta.quality ≡ false → result ≡ false → differs ≡ false
    → Differ meta old new index (λ before after. differs ≡ not (same_value before.value after.value)) → Differ meta old new index (λ before after. result ≡ not (same_data_value before after))
good_tells meta old new index differs result of_old of_new within none is same values =
    status_tells meta old new index differs result of_old of_new within (good_status meta old new index of_old of_new within none) is same values

-- the words of a row, and zeros behind them
pub fronts : (meta : MetaData) (words : List ℕ) → Belongs meta words → words ≡ take (words_of meta.fields) words ++ replicate (125 - words_of meta.fields) 0
unfolding spelled_row
fronts meta words belongs =
    let row = row_in meta.fields words in
    let zeros = replicate (125 - length (spelled_parts meta.fields row)) 0 in
    let long = length-spelled_parts meta.quality meta.fields row belongs.row in
    let front : take (words_of meta.fields) words ≡ spelled_parts meta.fields row =
    ap (take (words_of meta.fields)) belongs.spelled ∙ take_at (spelled_parts meta.fields row) zeros (words_of meta.fields) long in
    belongs.spelled ∙ ap (λ (ws : List ℕ). ws ++ zeros) (sym front) ∙ ap (λ (n : ℕ). take (words_of meta.fields) words ++ replicate (125 - n) 0) long
