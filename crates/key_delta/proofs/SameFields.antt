-- Fields whose words are the same.
use Rattle.std.proofs.Common.{◌≡◌, ℕ, zero, suc, ◌+◌, ◌-◌, ◌*◌, ◌/◌, ◌<◌, ◌≤◌, false, not, List, [], ◌∷◌, length, take, drop, get_or, refl, sym, ap, ◌∙◌, subst, arith}
use Rattle.std.specs.Prelude.{sum_by}
use Rattle.std.proofs.lemmas.Slice.Eq.{bytes_eq-Decides}
use Rattle.std.proofs.Math.Seq.{get_or-take, get_or-drop}
use Rattle.std.proofs.lemmas.List.{drop-drop, drop-take, take-take, take_all, length-take}
use Rattle.std.proofs.lemmas.List.Sums.{sum_by_more, sum_by-take-le}
use Rattle.dataset_meta.specs.declared.field.Field.{Field}
use Rattle.dataset_meta.specs.DataValues.{DataValue}
use Rattle.dataset_meta.specs.Fields.{width_of}
use Rattle.dataset_meta.specs.Metas.{start_of, value_words, IsMeta, MetaData}
use Rattle.dataset_meta.specs.SameValues.{same_data_value}
use Rattle.dataset_meta.proofs.RowLaws.{length_row}
use Rattle.row_words.specs.Belonging.{row_in, Belongs}
use Rattle.row_words.proofs.FieldLaws.{stands}
use Rattle.key_delta.specs.Changes.{changes_upto, HaveSameValues, HaveSameStatuses}
use Rattle.key_delta.proofs.FieldWords.{Differ, IsOneStatus, words_tell, good_status, word_status, status_tells}
use Rattle.key_delta.proofs.Differences.{tested, upto_more}

-- words within words that are the same
part_same : (xs ys : List ℕ) (s d w n : ℕ) → d + w ≤ n → take n (drop s xs) ≡ take n (drop s ys) → take w (drop (s + d) xs) ≡ take w (drop (s + d) ys)
part_same xs ys s d w n within same =
    sym (part xs) ∙ ap (λ (ws : List ℕ). drop d (take (d + w) ws)) same ∙ part ys
  where
    part : (zs : List ℕ) → drop d (take (d + w) (take n (drop s zs))) ≡ take w (drop (s + d) zs)
    part zs = ap (drop d) (take-take (d + w) n (drop s zs) within) ∙ drop-take d w (drop s zs) ∙ ap (take w) (drop-drop d s zs)

-- later fields start later
starts_rise : (fields : List Field) (index more : ℕ) → start_of fields index ≤ start_of fields (index + more)
starts_rise fields index more =
    let same : start_of (take (index + more) fields) index ≡ start_of fields index = ap (sum_by width_of) (take-take index (index + more) fields (omega arith)) in
    let least : start_of (take (index + more) fields) index ≤ start_of fields (index + more) = sum_by-take-le width_of (take (index + more) fields) index in
    omega (arith, same, least)

record IsField (fields : List Field) (index : ℕ) : Type 0 where
  pub field : Field
  pub here : (other : Field) → get_or fields index other ≡ field

field_at : (fields : List Field) (index : ℕ) → index < length fields → IsField fields index
field_at [] index within = absurd (omega arith)
field_at (field ∷ fields) zero within = record { field = field; here = λ other. refl }
field_at (field ∷ fields) (suc index) within =
    let later = field_at fields index (omega arith) in record { field = later.field; here = later.here }

-- a field whose words are the same doesn't differ
kept : (meta : MetaData) (old new : List ℕ) (index : ℕ) (field : Field) → IsMeta meta.fields → Belongs meta old → Belongs meta new → IsOneStatus meta old new index → index < length meta.fields
    → field ≡ get_or meta.fields index field
    → take (width_of field) (drop (start_of meta.fields index) old) ≡ take (width_of field) (drop (start_of meta.fields index) new)
    → Differ meta old new index (λ before after. false ≡ not (same_data_value before after))
kept meta old new index field is of_old of_new one within at same =
    let start = start_of meta.fields index in
    let count : (start + width_of field) - start ≡ width_of field = omega arith in
    let words : take ((start + width_of field) - start) (drop start old) ≡ take ((start + width_of field) - start) (drop start new) = rw count same in
    status_tells meta old new index false false of_old of_new within one refl refl
    (words_tell meta old new index field start (width_of field) false is of_old of_new within at refl refl
    (sym (ap not ((bytes_eq-Decides _ _).1 words))))

-- what differs up to a field is what differs up to the one behind it, where that field is the same
one_more : (meta : MetaData) (old new : List ℕ) (index : ℕ) → Belongs meta old → Belongs meta new → index < length meta.fields
    → Differ meta old new index (λ before after. false ≡ not (same_data_value before after))
    → changes_upto (index + 1) (row_in meta.fields old) (row_in meta.fields new) ≡ changes_upto index (row_in meta.fields old) (row_in meta.fields new)
one_more meta old new index of_old of_new within differ =
    let s = stands meta old index of_old within in
    let t = stands meta new index of_new within in
    let in_old : index < length (row_in meta.fields old) = omega (arith, length_row meta.quality meta.fields (row_in meta.fields old) of_old.row) in
    let in_new : index < length (row_in meta.fields new) = omega (arith, length_row meta.quality meta.fields (row_in meta.fields new) of_new.row) in
    sym (upto_more (row_in meta.fields old) (row_in meta.fields new) index s.x t.x false in_old in_new s.read t.read
    (tested false (row_in meta.fields old) (row_in meta.fields new) index s t differ) refl)

upto_is : (old new : List DataValue) (m n : ℕ) → m ≡ n → changes_upto m old new ≡ changes_upto n old new
upto_is old new m n e = ap (λ (k : ℕ). changes_upto k old new) e

-- fields whose words are the same don't differ
passes : (meta : MetaData) (old new : List ℕ) (from more words : ℕ) → IsMeta meta.fields → Belongs meta old → Belongs meta new → from + more ≤ length meta.fields
    → ((index : ℕ) → from ≤ index → index < from + more → IsOneStatus meta old new index)
    → start_of meta.fields (from + more) ≤ start_of meta.fields from + words
    → take words (drop (start_of meta.fields from) old) ≡ take words (drop (start_of meta.fields from) new)
    → changes_upto (from + more) (row_in meta.fields old) (row_in meta.fields new) ≡ changes_upto from (row_in meta.fields old) (row_in meta.fields new)
passes meta old new from zero words is of_old of_new within statuses ends same = upto_is (row_in meta.fields old) (row_in meta.fields new) (from + 0) from (omega arith)
passes meta old new from (suc more) words is of_old of_new within statuses ends same =
    let index = from + more in
    let there = field_at meta.fields index (omega arith) in
    let begins = start_of meta.fields from in
    let first = starts_rise meta.fields from more in
    let wide = sum_by_more width_of meta.fields index there.field (omega arith) in
    let at = there.here there.field in
    let next : start_of meta.fields (index + 1) ≡ start_of meta.fields index + width_of there.field = wide ∙ ap (λ (f : Field). start_of meta.fields index + width_of f) at in
    let behind : from + suc more ≡ index + 1 = omega arith in
    let last : start_of meta.fields (index + 1) ≤ begins + words = rw behind at ends in
    let split : begins + (start_of meta.fields index - begins) ≡ start_of meta.fields index = omega (arith, first) in
    let part = part_same old new begins (start_of meta.fields index - begins) (width_of there.field) words (omega (arith, first, next, last)) same in
    upto_is (row_in meta.fields old) (row_in meta.fields new) (from + suc more) (index + 1) (omega arith)
    ∙ one_more meta old new index of_old of_new (omega arith)
    (kept meta old new index there.field is of_old of_new (statuses index (omega arith) (omega arith)) (omega arith) (sym at) (rw split at part))
    ∙ passes meta old new from more words is of_old of_new (omega arith) (λ k after before. statuses k after (omega arith)) (omega (arith, next, last)) same

-- the same up to a field at most as far as the values are the same
passes_to : (meta : MetaData) (old new : List ℕ) (from to values : ℕ) → IsMeta meta.fields → Belongs meta old → Belongs meta new → from ≤ to → to ≤ values → values ≤ length meta.fields
    → ((index : ℕ) → from ≤ index → index < to → IsOneStatus meta old new index) → HaveSameValues meta.fields from values old new
    → changes_upto to (row_in meta.fields old) (row_in meta.fields new) ≡ changes_upto from (row_in meta.fields old) (row_in meta.fields new)
passes_to meta old new from to values is of_old of_new ahead before within statuses same =
    let split : from + (to - from) ≡ to = omega (arith, ahead) in
    let rest : to + (values - to) ≡ values = omega (arith, before) in
    let later : start_of meta.fields to ≤ start_of meta.fields values =
    subst (λ (n : ℕ). start_of meta.fields to ≤ start_of meta.fields n) rest (starts_rise meta.fields to (values - to)) in
    let ends : start_of meta.fields (from + (to - from)) ≤ start_of meta.fields from + (start_of meta.fields values - start_of meta.fields from) = rw split (omega (arith, later)) in
    upto_is (row_in meta.fields old) (row_in meta.fields new) to (from + (to - from)) (sym split)
    ∙ passes meta old new from (to - from) (start_of meta.fields values - start_of meta.fields from) is of_old of_new (omega (arith, ahead, before, within))
    (λ index after less. statuses index after (omega (arith, less, ahead))) ends same

-- without quality the values are all
pub values_pass : (meta : MetaData) (old new : List ℕ) (from to : ℕ) → IsMeta meta.fields → Belongs meta old → Belongs meta new → meta.quality ≡ false → from ≤ to → to ≤ length meta.fields
    → HaveSameValues meta.fields from to old new
    → changes_upto to (row_in meta.fields old) (row_in meta.fields new) ≡ changes_upto from (row_in meta.fields old) (row_in meta.fields new)
values_pass meta old new from to is of_old of_new none ahead within same =
    passes_to meta old new from to to is of_old of_new ahead (omega arith) within (λ index after before. good_status meta old new index of_old of_new (omega (arith, before, within)) none) same

pub both_pass : (meta : MetaData) (old new : List ℕ) (from to values : ℕ) → IsMeta meta.fields → Belongs meta old → Belongs meta new → from ≤ to → to ≤ values → values ≤ length meta.fields
    → HaveSameStatuses meta.fields from to old new → HaveSameValues meta.fields from values old new
    → changes_upto to (row_in meta.fields old) (row_in meta.fields new) ≡ changes_upto from (row_in meta.fields old) (row_in meta.fields new)
both_pass meta old new from to values is of_old of_new ahead before within statuses same =
    passes_to meta old new from to values is of_old of_new ahead before within
    (λ index after less. word_status meta old new index of_old of_new (omega (arith, less, before, within)) (statuses index after less)) same

cut_same : (xs ys : List ℕ) (begin count words : ℕ) → words ≤ length (take count (drop begin xs)) → take words (take count (drop begin xs)) ≡ take words (take count (drop begin ys))
    → take words (drop begin xs) ≡ take words (drop begin ys)
cut_same xs ys begin count words within same =
    let few : words ≤ count = omega (arith, within, length-take count (drop begin xs)) in
    sym (take-take words count (drop begin xs) few) ∙ same ∙ take-take words count (drop begin ys) few

-- the values up to a field are the same where a slice of their words is
pub values_same : (fields : List Field) (old new : List ℕ) (from to begin count words : ℕ) → begin ≡ start_of fields from → start_of fields to ≤ begin + words
    → words ≤ length (take count (drop begin old)) → take words (take count (drop begin old)) ≡ take words (take count (drop begin new))
    → HaveSameValues fields from to old new
values_same fields old new from to begin count words begins ends few same =
    let less : start_of fields to - start_of fields from ≤ words = omega (arith, begins, ends) in
    let here : take words (drop (start_of fields from) old) ≡ take words (drop (start_of fields from) new) =
    subst (λ (n : ℕ). take words (drop n old) ≡ take words (drop n new)) begins (cut_same old new begin count words few same) in
    sym (take-take (start_of fields to - start_of fields from) words (drop (start_of fields from) old) less)
    ∙ ap (take (start_of fields to - start_of fields from)) here
    ∙ take-take (start_of fields to - start_of fields from) words (drop (start_of fields from) new) less

-- none are the same
pub no_values : (fields : List Field) (old new : List ℕ) (from : ℕ) → HaveSameValues fields from from old new
no_values fields old new from = let none : start_of fields from - start_of fields from ≡ 0 = omega arith in rw none refl

-- behind the last field the words of the values end
pub start_last : (fields : List Field) → start_of fields (length fields) ≡ value_words fields
start_last fields = ap (sum_by width_of) (take_all (length fields) fields (omega arith))

-- a word in a slice
word_same : (xs ys : List ℕ) (begin same at : ℕ) → at < same → take same (drop begin xs) ≡ take same (drop begin ys) → get_or xs (begin + at) 0 ≡ get_or ys (begin + at) 0
word_same xs ys begin same at within is = sym (word xs) ∙ ap (λ (ws : List ℕ). get_or ws at 0) is ∙ word ys
  where
    word : (zs : List ℕ) → get_or (take same (drop begin zs)) at 0 ≡ get_or zs (begin + at) 0
    word zs = get_or-take same (drop begin zs) at 0 within ∙ get_or-drop begin zs at 0

-- the statuses up to a field are the same where a slice of their words is
pub statuses_same : (fields : List Field) (old new : List ℕ) (from to begin count words : ℕ) → begin ≡ value_words fields + from / 2 → to ≤ 2 * (from / 2 + words)
    → words ≤ length (take count (drop begin old)) → take words (take count (drop begin old)) ≡ take words (take count (drop begin new))
    → HaveSameStatuses fields from to old new
statuses_same fields old new from to begin count words begins ends few same = λ index after before.
    let at : ℕ = index / 2 - from / 2 in
    let split : begin + at ≡ value_words fields + index / 2 = omega (arith, begins, after) in
    subst (λ (n : ℕ). get_or old n 0 ≡ get_or new n 0) split (word_same old new begin words at (omega (arith, after, before, ends)) (cut_same old new begin count words few same))

pub no_statuses : (fields : List Field) (old new : List ℕ) (from : ℕ) → HaveSameStatuses fields from from old new
no_statuses fields old new from = λ index after before. absurd (omega (arith, after, before))
