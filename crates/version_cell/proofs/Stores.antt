-- A store: the only author has seen all entries, so its row goes behind them with nothing compared.
use Rattle.std.proofs.Common.{◌≡◌, ℕ, ◌+◌, ◌<◌, ◌≤◌, Bool, List, [], ◌∷◌, ◌++◌, length, set, refl, sym, ap, ◌∙◌, subst, arith}
use Rattle.std.specs.Prelude.{◌↔◌, Some, if◌then◌else◌, slice_index}
use Rattle.std.proofs.lemmas.List.Elements.{All-weaker}
use mathlib.Core.Option.{some}
use lib.ListN.{get_elem?}
use lib.Pointwise.{bytes_decides}
use Rattle.crossbeam_utils.specs.Register.{Turns}
use Rattle.crossbeam_utils.specs.Seq.{cell_view, IsSamePass}
use Rattle.dataset_meta.specs.Metas.{MetaData, IsMeta}
use Rattle.row_words.specs.Belonging.{Belongs}
use Rattle.row_words.specs.Shapes.{BelongsTo, shape_of}
use Rattle.version_cell.specs.declared.cell.Cell.TheInside.{Inside as CellInside}
use Rattle.version_cell.specs.declared.pass.Pass.TheInside.{Inside}
use Rattle.version_cell.specs.declared.rule.View.{View}
use Rattle.version_cell.specs.Histories.{entry, own, row_after}
use Rattle.version_cell.specs.Terms.{IsEntry, IsSole, quota, shape_in}
use Rattle.version_cell.specs.Views.{view}
use Rattle.version_cell.specs.Rule.{Kept, spell}
use Rattle.version_cell.specs.Steps.{MayStore, Tries, Writes}
use Rattle.version_cell.specs.Widths.{StandsIn}
use Rattle.version_cell.specs.Strips.{table_of}
use Rattle.version_cell.specs.Known.{Known}
use Rattle.version_cell.specs.Front.{IsFront, known_by, terms_in}
use Rattle.version_cell.specs.Cells.{CellData}
use Rattle.version_cell.specs.CellFields.{HasTerms, cell_by}
use Rattle.version_cell.specs.Passes.{Adds, IsPassOf, SeesLawful}
use Rattle.version_cell.proofs.Logs.{whole}
use Rattle.version_cell.proofs.Sole.{own_fits, sole_author}
use Rattle.version_cell.proofs.Keeps.{tries}
use Rattle.version_cell.proofs.Fronts.{adds, front_after_write, has_terms, is_lawful, wrote}
use Rattle.version_cell.proofs.Calls.{same_terms}
use Rattle.version_cell.proofs.Widths.{row_stands}

-- the words before a write are not those after it
raised : (version count : ℕ) (old row terms : List ℕ) → spell (version + 1) count row terms ≡ spell version count old terms → ⊥
raised version count old row terms e = let k : version + 1 ≡ version = ap (λ l. slice_index l 0) e in omega arith

-- wherever the rule holds, the words are those that the only author has seen
words_seen : (pass : ℕ) (v : View) (q row x : List ℕ) (views : List View) → MayStore v q row → Kept x views → get_elem? views pass ≡ some v → x ≡ spell (length v.seen) v.count (row_after v.seen) q
words_seen pass v q row x views may h at =
    let mine = h.each pass v at in
    let terms_is : q ≡ h.terms = mine.same_terms q may.write.knows in
    let entries = All-weaker (IsEntry h.count h.terms) (IsEntry 8 h.terms) (λ e k. let f = h.few in let a = k.author in record { author = omega arith; row = k.row }) h.log h.entries in
    let all : own 0 h.log ≡ h.log = sole_author h.terms h.log (record { entries = entries; within = h.within }) (subst IsSole terms_is may.sole) in
    let own_is : own 0 h.log ≡ own 0 v.seen = (mine.numbered 0 may.write.numbered).seen in
    let same : h.log ≡ v.seen = whole h.log v.seen mine.seen (let a = ap length all in let b = ap length own_is in let c = own_fits 0 v.seen in omega arith) in
    let count_is : h.count ≡ v.count = (let a = mine.count_reached in let b = h.few in let c = may.all_given in omega arith) in
    h.spelled ∙ (λ i. spell (length (same i)) (count_is i) (row_after (same i)) (sym terms_is i))

pub stores : (pass : ℕ) (v : View) (q row new : List ℕ) → MayStore v q row → new ≡ spell (length v.seen + 1) v.count row q → Turns Kept pass v (λ _. new) Writes
stores pass v q row new may is x views h at =
    let write = may.write in
    let was = words_seen pass v q row x views may h at in
    let Told : List ℕ → Type 0 = λ y. (w : View) × Kept y (set views pass w) × Tries v x y w in
    let told = tries pass v 0 q row x new write.numbered write.settled write.knows write.belongs write.left was is x views h at in
    let won : Told new = subst (λ (b : Bool). Told (if b then new else x)) ((bytes_decides x x).1 refl) told in
    (won.0, won.1, won.2.1 (λ e. raised (length v.seen) v.count (row_after v.seen) row q (sym is ∙ e ∙ was)))

-- a pass of the cell that is the only author, and a row of the cell's meta
module _ (c : CellInside) (h : HasTerms c) (cell : CellData) (cell_is : cell_by c ≡ cell) (p : Inside) (f : IsFront p) (old : Known) (old_is : known_by p ≡ old) (own_pass : IsPassOf cell old)
    (by_shape : (meta : MetaData) (words : List ℕ) → IsMeta meta.fields → BelongsTo (shape_of meta) words ↔ Belongs meta words)
    (author : old.author ≡ Some 0) (sole : IsSole old.terms) (left : length old.seen < quota 0 old.terms) (row next : List ℕ) (row_is : Belongs cell.meta row) (is_next : next ≡ spell (p.version + 1) 8 row c.terms) where
  known : terms_in (cell_view p.place).terms ≡ c.terms
  known = same_terms c h cell cell_is p f old old_is own_pass

  numbered : (cell_view p.place).author ≡ Some 0
  numbered = ap (λ (k : Known). k.author) old_is ∙ author

  named : p.author ≡ Some 0
  named = f.author ∙ numbered

  fits : BelongsTo (shape_in c.terms) row
  fits = subst (λ (s : List ℕ). BelongsTo s row) (sym h.shape) ((by_shape c.meta row h.meta).1 (subst (λ (d : CellData). Belongs d.meta row) (sym cell_is) row_is))

  seen_below : length (cell_view p.place).seen < quota 0 c.terms
  seen_below = subst (λ (l : List ℕ). length (cell_view p.place).seen < quota 0 l) known (subst (λ (k : Known). length k.seen < quota 0 k.terms) (sym old_is) left)

  pub made_fits : p.made ≤ p.version
  made_fits = let a = f.made 0 named in let b = f.version in let c = own_fits 0 (cell_view p.place).seen in omega arith

  made_below : p.made < quota 0 c.terms
  made_below = let a = made_fits in let b = f.version in let c = seen_below in omega arith

  may : MayStore (cell_view p.place) c.terms row
  may = record {
    write = record {
      numbered = numbered;
      settled = f.olds;
      knows = has_terms p c.terms f known;
      belongs = fits;
      left = let a = own_fits 0 (cell_view p.place).seen in let b = seen_below in omega arith;
    };
    sole = subst IsSole (sym (ap (λ (k : Known). k.terms) old_is) ∙ known) sole;
    all_given = f.count;
  }

  pub may_store : (place : ℕ) → Turns Kept place (cell_view p.place) (λ _. next) Writes
  may_store place = stores place (cell_view p.place) c.terms row next may (is_next ∙ (λ i. spell (f.version i + 1) (sym f.count i) row c.terms))

  pub next_stands : StandsIn (table_of c.words) next
  next_stands = row_stands c h (p.version + 1) row next (subst (λ (d : CellData). Belongs d.meta row) (sym cell_is) row_is) is_next

  -- the pass after the store
  module _ (p' : Inside) (x : List ℕ) (told : Writes (cell_view p.place) x next (cell_view p'.place)) where
    front : List ℕ
    front = spell p.version 8 p.row.words c.terms

    tried : Tries (cell_view p.place) front next (cell_view p'.place)
    unfolding front
    tried = (
      λ e. absurd (raised p.version 8 p.row.words row c.terms (sym is_next ∙ e)),
      λ _. record { by = told.by; row = told.row; terms = told.terms; author = told.author; after = told.after; spelled = told.spelled; belongs = told.belongs },
    )

    after : cell_view p'.place ≡ view ((cell_view p.place).seen ++ entry 0 row ∷ []) (cell_view p.place).author (cell_view p.place).count (cell_view p.place).terms (cell_view p.place).olds
    unfolding front
    after = wrote p c.terms f known 0 row front next named fits made_below refl is_next front (cell_view p'.place) ((bytes_decides front front).1 refl) tried

    pub front_stored : p'.version ≡ p.version + 1 → p'.row.words ≡ row → p'.author ≡ p.author → p'.made ≡ p.made + 1 → IsFront p'
    unfolding front
    front_stored = front_after_write p c.terms f known 0 row front next named fits made_below refl is_next p' after

    pub stored_by : IsSamePass p.place p'.place → Adds old (known_by p') row
    unfolding front
    stored_by kept = subst (λ (k : Known). Adds k (known_by p') row) old_is (adds p c.terms f known 0 row front next named fits made_below refl is_next p' after kept)

    pub lawful_stored : p'.version ≡ p.version + 1 → p'.row.words ≡ row → p'.author ≡ p.author → p'.made ≡ p.made + 1 → SeesLawful (known_by p')
    lawful_stored ev er ea em = is_lawful p' (front_stored ev er ea em)
