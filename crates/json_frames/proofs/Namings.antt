-- What a payload names, one field after another.
use Rattle.std.proofs.Common.{◌≡◌, ℕ, zero, suc, ◌+◌, ◌<◌, ◌≤◌, List, [], ◌∷◌, ◌++◌, length, get_or, cond, Bool, true, Some, None, inl, inr, refl, sym, ap, ◌∙◌, subst, arith}
use Rattle.std.specs.Prelude.{◌==◌, nat_lt}
use Rattle.std.proofs.lemmas.Bool.Decides.{nat_tests}
use Rattle.std.proofs.lemmas.Option.{same_Some}
use Rattle.serde_json.specs.Data.{Data}
use Rattle.serde_json.specs.Find.{get}
use Rattle.dataset_meta.specs.declared.field.Field.{Field}
use Rattle.dataset_meta.specs.DataValues.{DataValue}
use Rattle.dataset_meta.specs.Rows.{put_in}
use Rattle.json_values.specs.Reading.{ReadsField}
use Rattle.json_values.proofs.OneValue.{read_once}
use Rattle.json_frames.specs.Reading.{Names}

-- a value is put behind those of the fields before
pub put_at_end : (q : Bool) (p : Data) (k : ℕ) (fields : List Field) (changes : List (ℕ × DataValue)) (i : ℕ) (x : DataValue) → Names q p k fields changes → k + length fields ≤ i
    → put_in changes i x ≡ changes ++ (i, x) ∷ []
put_at_end q p k [] changes i x h le =
    ap (λ (l : List (ℕ × DataValue)). put_in l i x) h ∙ sym (ap (λ (l : List (ℕ × DataValue)). l ++ (i, x) ∷ []) h)
put_at_end q p k (f ∷ fields) changes i x h le = elim h [
  | inl n ↦ put_at_end q p (k + 1) fields changes i x n.1 (omega arith)
  | inr n ↦
      let before : nat_lt k i ≡ true = grind (arith, nat_tests) in
      ap (λ (l : List (ℕ × DataValue)). put_in l i x) n.4
      ∙ ap (λ (b : Bool). cond b ((k, n.1) ∷ put_in n.2 i x) (cond (k == i) ((i, x) ∷ n.2) ((i, x) ∷ (k, n.1) ∷ n.2))) before
      ∙ ap (λ (l : List (ℕ × DataValue)). (k, n.1) ∷ l) (put_at_end q p (k + 1) fields n.2 i x n.6 (omega arith))
      ∙ sym (ap (λ (l : List (ℕ × DataValue)). l ++ (i, x) ∷ []) n.4)
]

-- one field more, which isn't named
pub names_less : (q : Bool) (p : Data) (k : ℕ) (fields : List Field) (changes : List (ℕ × DataValue)) (f : Field) → Names q p k fields changes → get f.name p ≡ None
    → Names q p k (fields ++ f ∷ []) changes
names_less q p k [] changes f h none = inl (none, h)
names_less q p k (g ∷ fields) changes f h none = elim h [
  | inl n ↦ inl (n.0, names_less q p (k + 1) fields changes f n.1 none)
  | inr n ↦ inr (n.0, n.1, n.2, n.3, n.4, n.5, names_less q p (k + 1) fields n.2 f n.6 none)
]

-- one field more, which is named
pub names_more : (q : Bool) (p : Data) (k : ℕ) (fields : List Field) (changes : List (ℕ × DataValue)) (f : Field) (i : ℕ) (d : Data) (x : DataValue) → Names q p k fields changes
    → get f.name p ≡ Some d → ReadsField q f d x → i ≡ k + length fields → Names q p k (fields ++ f ∷ []) (changes ++ (i, x) ∷ [])
names_more q p k [] changes f i d x h at reads is =
    let here : i ≡ k = omega arith in
    inr (d, x, [], at, ap (λ (l : List (ℕ × DataValue)). l ++ (i, x) ∷ []) h ∙ ap (λ (n : ℕ). (n, x) ∷ []) here, reads, refl)
names_more q p k (g ∷ fields) changes f i d x h at reads is = elim h [
  | inl n ↦ inl (n.0, names_more q p (k + 1) fields changes f i d x n.1 at reads (omega arith))
  | inr n ↦
      inr (
        n.0,
        n.1,
        n.2 ++ (i, x) ∷ [],
        n.3,
        ap (λ (l : List (ℕ × DataValue)). l ++ (i, x) ∷ []) n.4,
        n.5,
        names_more q p (k + 1) fields n.2 f i d x n.6 at reads (omega arith),
      )
]

pub names_length : (q : Bool) (p : Data) (k : ℕ) (fields : List Field) (changes : List (ℕ × DataValue)) → Names q p k fields changes → length changes ≤ length fields
names_length q p k [] changes h = let e : length changes ≡ 0 = ap length h in omega arith
names_length q p k (f ∷ fields) changes h = elim h [
  | inl n ↦ let l : length changes ≤ length fields = names_length q p (k + 1) fields changes n.1 in omega arith
  | inr n ↦
      let l : length n.2 ≤ length fields = names_length q p (k + 1) fields n.2 n.6 in
      let e : length changes ≡ suc (length n.2) = ap length n.4 in
      omega arith
]

-- a field that is named has a value
pub names_at : (q : Bool) (p : Data) (k : ℕ) (fields : List Field) (changes : List (ℕ × DataValue)) (j : ℕ) (f : Field) (d : Data) → Names q p k fields changes → j < length fields
    → f ≡ get_or fields j f → get f.name p ≡ Some d → (x : DataValue) × ReadsField q f d x
names_at q p k [] changes j f d h inside is at = absurd (omega arith)
names_at q p k (g ∷ fields) changes zero f d h inside is at = elim h [
  | inl n ↦
      let none : None ≡ Some d = sym n.0 ∙ ap (λ (y : Field). get y.name p) (sym is) ∙ at in
      absurd cc
  | inr n ↦
      let same : Some n.0 ≡ Some d = sym n.3 ∙ ap (λ (y : Field). get y.name p) (sym is) ∙ at in
      let e : n.0 ≡ d = cc in
      (n.1, subst (λ (y : Field). ReadsField q y d n.1) (sym is) (subst (λ (y : Data). ReadsField q g y n.1) e n.5))
]
names_at q p k (g ∷ fields) changes (suc j) f d h inside is at = elim h [
  | inl n ↦ names_at q p (k + 1) fields changes j f d n.1 (omega arith) is at
  | inr n ↦ names_at q p (k + 1) fields n.2 j f d n.6 (omega arith) is at
]

absurd_same : (q : Bool) (p : Data) (name : List ℕ) (d : Data) → get name p ≡ None → get name p ≡ Some d → ⊥
absurd_same q p name d none some = let e : None ≡ Some d = sym none ∙ some in cc

-- a payload names one list of values
pub names_once : (q : Bool) (p : Data) (k : ℕ) (fields : List Field) (a b : List (ℕ × DataValue)) → Names q p k fields a → Names q p k fields b → a ≡ b
names_once q p k [] a b one other = one ∙ sym other
names_once q p k (f ∷ fields) a b one other = elim one [
  | inl m ↦ elim other [
    | inl n ↦ names_once q p (k + 1) fields a b m.1 n.1
    | inr n ↦ absurd (absurd_same q p f.name n.0 m.0 n.3)
  ]
  | inr m ↦ elim other [
    | inl n ↦ absurd (absurd_same q p f.name m.0 n.0 m.3)
    | inr n ↦
        let d : n.0 ≡ m.0 = same_Some n.0 m.0 (sym n.3 ∙ m.3) in
        let x : m.1 ≡ n.1 = read_once q f m.0 m.1 n.1 m.5 (subst (λ (e : Data). ReadsField q f e n.1) d n.5) in
        let rest : m.2 ≡ n.2 = names_once q p (k + 1) fields m.2 n.2 m.6 n.6 in
        m.4 ∙ ap (λ (y : DataValue). (k, y) ∷ m.2) x ∙ ap (λ (l : List (ℕ × DataValue)). (k, n.1) ∷ l) rest ∙ sym n.4
  ]
]
