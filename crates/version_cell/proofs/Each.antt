-- A loop that joins the pass of one cell after another.
use Rattle.std.proofs.Common.{◌≡◌, ◌≢◌, ℕ, zero, suc, ◌+◌, ◌<◌, ◌≤◌, List, [], ◌∷◌, ◌++◌, length, map, take, get_or, set, drop, refl, sym, ap, ◌∙◌, subst, arith, get_or-set_same, get_or-set_other, zero-le}
use Rattle.std.specs.Prelude.{Option}
use Rattle.std.proofs.lemmas.List.{length-set, get_or_default, length-map, get_or-map, map-append, take_more}
use Rattle.std.proofs.lemmas.List.Elements.{All-nil}
use native.Mathlib.Decide.{ℕ_discrete}
use Rattle.version_cell.specs.Known.{Known, nothing}
use Rattle.version_cell.specs.Cells.{CellData, terms_of}
use Rattle.version_cell.specs.Terms.{IsEntry}
use Rattle.version_cell.specs.Passes.{IsPassOf, SeesLawful, new_pass, shared_by}
use Rattle.version_cell.specs.Sets.{ArePassesOf, cell_at, new_passes, no_cell, pass_at}

module _ (now : List Known) (k : ℕ) (y : Known) (room : k < length now) where
  at_set_here : (s : ℕ) → s ≡ k → pass_at (set now k y) s ≡ y
  at_set_here s e = ap (pass_at (set now k y)) e ∙ get_or-set_same now k y nothing room

  at_set_else : (s : ℕ) → s ≢ k → pass_at (set now k y) s ≡ pass_at now s
  at_set_else s n = get_or-set_other now k s y nothing n

  pub own_step : (cells : List CellData) → ArePassesOf cells now → y.cell ≡ (pass_at now k).cell → y.terms ≡ (pass_at now k).terms → ArePassesOf cells (set now k y)
  own_step cells h ec et = record { count = length-set now k y ∙ h.count; each = λ s l. go s l (ℕ_discrete s k) }
    where
      go : (s : ℕ) → s < length cells → Dec (s ≡ k) → IsPassOf (cell_at cells s) (pass_at (set now k y) s)
      go s l (yes e) =
          let o = h.each s l in
          let here = at_set_here s e in
          let was = ap (pass_at now) e in
          record {
            name = ap (λ (p : Known). p.cell) here ∙ ec ∙ ap (λ (p : Known). p.cell) (sym was) ∙ o.name;
            terms = ap (λ (p : Known). p.terms) here ∙ et ∙ ap (λ (p : Known). p.terms) (sym was) ∙ o.terms;
          }
      go s l (no n) = subst (λ (p : Known). IsPassOf (cell_at cells s) p) (sym (at_set_else s n)) (h.each s l)

  -- what each pass below the next has become of what it was and of another
  pub related_step : (R : Known → Known → Known → Type 0) (first others : List Known) → ((s : ℕ) → s < k → R (pass_at first s) (pass_at others s) (pass_at now s)) → pass_at now k ≡ pass_at first k
      → R (pass_at now k) (pass_at others k) y → (s : ℕ) → s < k + 1 → R (pass_at first s) (pass_at others s) (pass_at (set now k y) s)
  related_step R first others below same here s l = go (ℕ_discrete s k)
    where
      go : Dec (s ≡ k) → R (pass_at first s) (pass_at others s) (pass_at (set now k y) s)
      go (yes e) = subst (λ (p : Known). R (pass_at first s) (pass_at others s) p) (sym (at_set_here s e))
          (subst (λ (j : ℕ). R (pass_at first j) (pass_at others j) y) (sym e) (subst (λ (p : Known). R p (pass_at others k) y) same here))
      go (no n) = subst (λ (p : Known). R (pass_at first s) (pass_at others s) p) (sym (at_set_else s n)) (below s (omega arith))

  pub rest_step : (first : List Known) → ((s : ℕ) → k ≤ s → pass_at now s ≡ pass_at first s) → (s : ℕ) → k + 1 ≤ s → pass_at (set now k y) s ≡ pass_at first s
  rest_step first h s l = let n : s ≢ k = omega arith in at_set_else s n ∙ h s (omega arith)

-- the next of what is left stands at its place
pub next_left : {A : Type 0} (others left : List A) (k : ℕ) (x : A) → drop k others ≡ x ∷ left → (k < length others) × ((d : A) → get_or others k d ≡ x) × (drop (k + 1) others ≡ left)
next_left [] left zero x e = absurd (cc)
next_left [] left (suc k) x e = absurd (cc)
next_left (y ∷ ys) left zero x e = let a : y ≡ x = cc in let b : ys ≡ left = cc in (omega arith, λ d. a, b)
next_left {A} (y ∷ ys) left (suc k) x e = let t = next_left ys left k x e in (let a = t.0 in omega arith, t.1, (let n : suc k + 1 ≡ suc (k + 1) = omega arith in ap {A = ℕ} {B = List A} (λ j. drop j (y ∷ ys)) n ∙ t.2))

pub found : (now : List Known) (k : ℕ) (m : Known) → k < length now → m ≡ get_or now k m → pass_at now k ≡ m
found now k m h e = get_or_default now k nothing m h ∙ sym e

-- passes that are split from those of cells are of these cells
pub shared_own : (cells : List CellData) (passes : List Known) → ArePassesOf cells passes → ArePassesOf cells (map shared_by passes)
shared_own cells passes h = record {
  count = length-map passes shared_by ∙ h.count;
  each = λ s l.
      let o = h.each s l in
      let within : s < length passes = (let n = h.count in omega arith) in
      let is = get_or-map shared_by passes s nothing nothing within in
      record { name = ap (λ (p : Known). p.cell) is ∙ o.name; terms = ap (λ (p : Known). p.terms) is ∙ o.terms };
}

-- new passes are of their cells
pub new_at : (cells : List CellData) (author : Option ℕ) (k : ℕ) → k < length cells → pass_at (new_passes cells author) k ≡ new_pass (cell_at cells k) author
new_at cells author k lt = get_or-map (λ (cell : CellData). new_pass cell author) cells k no_cell nothing lt

pub new_own : (cells : List CellData) (author : Option ℕ) → ArePassesOf cells (new_passes cells author)
new_own cells author = record {
  count = length-map cells (λ (cell : CellData). new_pass cell author);
  each = λ k lt. subst (IsPassOf (cell_at cells k)) (sym (new_at cells author k lt)) (record { name = refl; terms = refl });
}

pub new_lawful : (cell : CellData) (author : Option ℕ) → SeesLawful (new_pass cell author)
new_lawful cell author = record { entries = All-nil (IsEntry 8 (terms_of cell.quotas cell.meta)); within = λ t h. zero-le }

-- one more cell of a list that is being made
pub new_passes-push : (cells more : List CellData) (cell : CellData) (author : Option ℕ) (old new : List Known) (p : Known) → more ≡ cells ++ cell ∷ [] → new ≡ old ++ p ∷ []
    → old ≡ new_passes cells author → p ≡ new_pass cell author → new ≡ new_passes more author
new_passes-push cells more cell author old new p e e' h here =
    let f : CellData → Known = λ c. new_pass c author in
    e' ∙ (λ i. h i ++ here i ∷ []) ∙ sym (ap (map f) e ∙ map-append f cells (cell ∷ []))

pub map_more_of : {A B : Type 0} (f : A → B) (xs ys : List A) (x : A) (zs : List B) (k : ℕ) (z : B) → ys ≡ xs ++ x ∷ [] → map f xs ≡ take k zs → f x ≡ get_or zs k z → k < length zs → map f ys ≡ take (k + 1) zs
map_more_of f xs ys x zs k z e h here lt = ap (map f) e ∙ map-append f xs (x ∷ []) ∙ (λ i. h i ++ here i ∷ []) ∙ sym (take_more zs k z lt)
