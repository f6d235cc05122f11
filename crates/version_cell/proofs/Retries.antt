-- What a pass has made and may still make, after it sees more.
use Rattle.std.proofs.Common.{◌≡◌, ℕ, List, [], ◌∷◌, ◌++◌, length, refl, sym, ap, ◌∙◌, subst, arith}
use Rattle.std.specs.Prelude.{Option, Some, None, IsSome}
use Rattle.version_cell.specs.Terms.{quota}
use Rattle.version_cell.specs.Known.{Known}
use Rattle.row_words.specs.declared.patch.Patch.{Patch}
use Rattle.version_cell.specs.declared.rule.Entry.{Entry}
use Rattle.version_cell.specs.Histories.{entry, own}
use Rattle.version_cell.specs.Cells.{CellData}
use Rattle.version_cell.specs.Passes.{Adds, AddsLater, HasLeft, IsFull, SeesMore, row_with}
use Rattle.version_cell.proofs.Logs.{own-push, starts_itself, starts_trans}

pub sees_itself : (p : Known) → SeesMore p p
sees_itself p = record { cell = refl; terms = refl; author = refl; seen = starts_itself p.seen; own_same = λ t e. refl }

pub sees_on : (a b c : Known) → SeesMore a b → SeesMore b c → SeesMore a c
sees_on a b c p q = record {
  cell = q.cell ∙ p.cell;
  terms = q.terms ∙ p.terms;
  author = q.author ∙ p.author;
  seen = starts_trans c.seen b.seen a.seen q.seen p.seen;
  own_same = λ t e. q.own_same t (p.author ∙ e) ∙ p.own_same t e;
}

some_of : (o : Option ℕ) → IsSome o → (x : ℕ) × (o ≡ Some x)
some_of (Some x) h = (x, refl)
some_of None h = absurd (cc)

pub left_later : (old new : Known) → SeesMore old new → HasLeft old → HasLeft new
left_later old new more left t is =
    let is_old : old.author ≡ Some t = sym more.author ∙ is in
    let a = left t is_old in
    let b = ap length (more.own_same t is_old) in
    let c = ap (quota t) more.terms in
    omega (arith, a, b, c)

pub not_full : (p : Known) (q : ℕ) → IsSome p.author → HasLeft p → IsFull p q → ⊥
not_full p q numbered left full =
    let s = some_of p.author numbered in
    let f = full s.0 s.1 in
    let a = left s.0 s.1 in
    omega (arith, a, f.0, f.1)

pub still_left : (old new : Known) (q : ℕ) → IsSome old.author → HasLeft old → SeesMore old new
    → IsFull new q → ⊥
still_left old new q numbered left more full = not_full new q (subst IsSome (sym more.author) numbered) (left_later old new more left) full

some_same : (x y : ℕ) → Some x ≡ Some y → x ≡ y
some_same x y e = cc

-- an entry that it makes is one more of its number
pub made_one : (old new : Known) (row : List ℕ) (author : ℕ) → Adds old new row → old.author ≡ Some author → own author new.seen ≡ own author old.seen ++ entry author row ∷ []
made_one old new row author adds is =
    let by_is : adds.by ≡ author = some_same adds.by author (sym adds.is_by ∙ is) in
    ap (own author) (adds.seen ∙ ap (λ (t : ℕ). old.seen ++ entry t row ∷ []) by_is) ∙ own-push author old.seen row

pub made_later : (cell : CellData) (patch : Patch) (old new : Known) (author : ℕ) (made : AddsLater cell patch old new) → old.author ≡ Some author
    → own author new.seen ≡ own author old.seen ++ entry author (row_with cell patch made.before) ∷ []
made_later cell patch old new author made is =
    made_one made.before new (row_with cell patch made.before) author made.adds (made.more.author ∙ is)
    ∙ ap (λ (l : List Entry). l ++ entry author (row_with cell patch made.before) ∷ []) (made.more.own_same author is)
