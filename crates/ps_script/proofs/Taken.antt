-- The fields of a line's words so far, as an array of marks.
use Rattle.std.proofs.Common.{◌≡◌, inl, inr, ℕ, ◌<◌, eqb, Bool, true, false, ◌||◌, List, [], ◌∷◌, length, get_or, Option, Some, None, unwrap_or, sym, ap, ◌∙◌, subst, arith}
use Rattle.std.specs.Prelude.{replicate}
use Rattle.std.proofs.Math.ListN.{set, length-set, length-replicate}
use Rattle.std.specs.List.{list_any}
use Rattle.std.proofs.lemmas.List.{get_or-replicate, get_or-set_same, get_or-set_other}
use Rattle.std.proofs.lemmas.Bool.Decides.{eqb_tells}
use Rattle.dataset_meta.specs.declared.field.Field.{Field}
use Rattle.ps_script.specs.Fields.{has_bad_field, is_bad_index, field_named, field_name}

-- the marked fields are these
pub record AreMarked (taken : List ℕ) (marks : List Bool) : Type 0 where
  pub room : length marks ≡ 64
  pub marked : (index : ℕ) → index < 64 → get_or marks index false ≡ list_any (λ other. eqb other index) taken

-- what the words that are left decide, the whole line's words do
pub record Leaves (fields : List Field) (marks : List Bool) (rest words : List (List ℕ)) : Type 0 where
  pub taken : List ℕ
  pub are_marked : AreMarked taken marks
  pub decided : has_bad_field fields taken rest ≡ has_bad_field fields [] words

-- before the first word no field is marked
pub leaves_first : (fields : List Field) (marks : List Bool) (rest words : List (List ℕ)) → marks ≡ replicate 64 false → rest ≡ words → Leaves fields marks rest words
leaves_first fields marks rest words none same = record {
  taken = [];
  are_marked = record {
    room = ap length none ∙ length-replicate 64 false;
    marked = λ index lt. ap (λ (ms : List Bool). get_or ms index false) none ∙ get_or-replicate 64 index false false lt;
  };
  decided = ap (has_bad_field fields []) same;
}

one_more : (marks : List Bool) (taken : List ℕ) (index k : ℕ) → AreMarked taken marks → index < 64 → k < 64 → get_or (set marks index true) k false ≡ (eqb index k || list_any (λ other. eqb other k) taken)
one_more marks taken index k m lt below =
    elim (eqb_tells index k) [
      | inl same ↦
          let here : get_or (set marks index true) index false ≡ true = get_or-set_same marks index true false (omega (arith, m.room)) in
          subst (λ (j : ℕ). get_or (set marks index true) j false ≡ true) same.1 here ∙ ap (λ v. v || list_any (λ other. eqb other k) taken) (sym same.0)
      | inr other ↦
          get_or-set_other marks index k true false (λ e. other.1 (sym e)) ∙ m.marked k below ∙ ap (λ v. v || list_any (λ o. eqb o k) taken) (sym other.0)
    ]

next_decided : (fields : List Field) (taken : List ℕ) (word : List ℕ) (rest : List (List ℕ)) (found : Option ℕ) (index : ℕ) → found ≡ Some index → list_any (λ other. eqb other index) taken ≡ false → has_bad_field fields (index ∷ taken) rest ≡ (is_bad_index taken found || has_bad_field fields (unwrap_or found 0 ∷ taken) rest)
next_decided fields taken word rest found index is free =
    sym (ap (λ (o : Option ℕ). is_bad_index taken o || has_bad_field fields (unwrap_or o 0 ∷ taken) rest) is
    ∙ ap (λ v. v || has_bad_field fields (index ∷ taken) rest) free)

-- behind a word whose field wasn't marked, it is
pub leaves_next : (fields : List Field) (marks : List Bool) (left words rest : List (List ℕ)) (word : List ℕ) (index : ℕ) → Leaves fields marks left words → left ≡ word ∷ rest → field_named fields (field_name word) ≡ Some index → index < 64 → get_or marks index false ≡ false → Leaves fields (set marks index true) rest words
leaves_next fields marks left words rest word index l is named lt free = record {
  taken = index ∷ l.taken;
  are_marked = record {
    room = length-set marks index true ∙ l.are_marked.room;
    marked = λ k below. one_more marks l.taken index k l.are_marked lt below;
  };
  decided =
      next_decided fields l.taken word rest (field_named fields (field_name word)) index named (sym (l.are_marked.marked index lt) ∙ free)
      ∙ sym (ap (has_bad_field fields l.taken) is) ∙ l.decided;
}

bad_next : (fields : List Field) (taken : List ℕ) (rest : List (List ℕ)) (found : Option ℕ) → is_bad_index taken found ≡ true → (is_bad_index taken found || has_bad_field fields (unwrap_or found 0 ∷ taken) rest) ≡ true
bad_next fields taken rest found bad = ap (λ v. v || has_bad_field fields (unwrap_or found 0 ∷ taken) rest) bad

-- a word whose field isn't there
pub none_named : (fields : List Field) (marks : List Bool) (left words rest : List (List ℕ)) (word : List ℕ) → Leaves fields marks left words → left ≡ word ∷ rest → field_named fields (field_name word) ≡ None → has_bad_field fields [] words ≡ true
none_named fields marks left words rest word l is named =
    sym l.decided ∙ ap (has_bad_field fields l.taken) is
    ∙ bad_next fields l.taken rest (field_named fields (field_name word)) (ap (is_bad_index l.taken) named)

-- a word whose field an earlier one has
pub one_taken : (fields : List Field) (marks : List Bool) (left words rest : List (List ℕ)) (word : List ℕ) (index : ℕ) → Leaves fields marks left words → left ≡ word ∷ rest → field_named fields (field_name word) ≡ Some index → index < 64 → get_or marks index false ≡ true → has_bad_field fields [] words ≡ true
one_taken fields marks left words rest word index l is named lt taken =
    sym l.decided ∙ ap (has_bad_field fields l.taken) is
    ∙ bad_next fields l.taken rest (field_named fields (field_name word))
    (ap (is_bad_index l.taken) named ∙ sym (l.are_marked.marked index lt) ∙ taken)

-- no word is left
pub leaves_none : (fields : List Field) (marks : List Bool) (left words : List (List ℕ)) → Leaves fields marks left words → left ≡ [] → has_bad_field fields [] words ≡ false
leaves_none fields marks left words l is = sym l.decided ∙ ap (has_bad_field fields l.taken) is
