-- One more answer Nothing after the last entry.
use Rattle.std.proofs.Common.{◌≡◌, ℕ, zero, suc, ◌+◌, ◌-◌, ◌^◌, ◌<◌, List, [], ◌∷◌, ◌++◌, length, get_or, set, replicate, sym, ap, ◌∙◌, append_assoc, arith}
use Rattle.std.specs.List.{flat_map}
use Rattle.std.proofs.lemmas.List.{append-nil, replicate_more}
use Rattle.mem_edge.specs.declared.mark.Mark.{Mark}
use Rattle.mem_edge.specs.declared.mark.Source.{Source}
use Rattle.ua_base.specs.Journal.{Entry, Empty}
use Rattle.mem_edge.specs.Marks.{entry_of, marked, entries, EndsInNothings}

abbrev more_nothing : Mark → Mark
more_nothing mark = record { answer = mark.answer; nothings = mark.nothings + 1 }

last_counted : (shown : Source → List ℕ) (marks : List Mark) (i : ℕ) (d : Mark) → suc i ≡ length marks → flat_map (marked shown) (set marks i (more_nothing (get_or marks i d))) ≡ flat_map (marked shown) marks ++ Empty ∷ []
last_counted shown [] i d e = absurd (omega arith)
last_counted shown (m ∷ []) zero d e =
    ap (λ (l : List Entry). entry_of shown m.answer ∷ l) (append-nil (replicate (m.nothings + 1) Empty) ∙ sym (replicate_more m.nothings Empty) ∙ ap (λ (l : List Entry). l ++ Empty ∷ []) (sym (append-nil (replicate m.nothings Empty))))
last_counted shown (m ∷ []) (suc i) d e = absurd (omega arith)
last_counted shown (m ∷ x ∷ more) zero d e = absurd (omega arith)
last_counted shown (m ∷ x ∷ more) (suc i) d e =
    ap (λ (l : List Entry). marked shown m ++ l) (last_counted shown (x ∷ more) i d (omega arith)) ∙ sym (append_assoc (marked shown m) (flat_map (marked shown) (x ∷ more)) (Empty ∷ []))

pub entries_counted : (shown : Source → List ℕ) (first : ℕ) (marks : List Mark) (d : Mark) → 0 < length marks
    → entries shown first (set marks (length marks - 1) (more_nothing (get_or marks (length marks - 1) d))) ≡ entries shown first marks ++ Empty ∷ []
entries_counted shown first marks d some =
    ap (λ (l : List Entry). replicate first Empty ++ l) (last_counted shown marks (length marks - 1) d (omega arith)) ∙ sym (append_assoc (replicate first Empty) (flat_map (marked shown) marks) (Empty ∷ []))

-- the entries end in what the last mark counts
last_nothings : (shown : Source → List ℕ) (marks : List Mark) (i : ℕ) (d : Mark) → suc i ≡ length marks
    → (front : List Entry) × (flat_map (marked shown) marks ≡ front ++ replicate (get_or marks i d).nothings Empty)
last_nothings shown [] i d e = absurd (omega arith)
last_nothings shown (m ∷ []) zero d e = (entry_of shown m.answer ∷ [], append-nil _)
last_nothings shown (m ∷ []) (suc i) d e = absurd (omega arith)
last_nothings shown (m ∷ x ∷ more) zero d e = absurd (omega arith)
last_nothings shown (m ∷ x ∷ more) (suc i) d e =
    let h = last_nothings shown (x ∷ more) i d (omega arith) in
    (marked shown m ++ h.0, ap (λ (l : List Entry). marked shown m ++ l) h.1 ∙ sym (append_assoc (marked shown m) h.0 _))

-- a count of Nothing at the end that is full
pub ends_full : (shown : Source → List ℕ) (first : ℕ) (marks : List Mark) (d : Mark) → 0 < length marks → (get_or marks (length marks - 1) d).nothings ≡ 2 ^ 64 - 1
    → EndsInNothings (entries shown first marks)
ends_full shown first marks d some full =
    let h = last_nothings shown marks (length marks - 1) d (omega arith) in
    let last : Mark = get_or marks (length marks - 1) d in (
      last.nothings,
      replicate first Empty ++ h.0,
      full,
      ap (λ (l : List Entry). replicate first Empty ++ l) h.1 ∙ sym (append_assoc (replicate first Empty) h.0 (replicate last.nothings Empty)),
    )

pub starts_full : (shown : Source → List ℕ) (first : ℕ) (marks : List Mark) → length marks ≡ 0 → first ≡ 2 ^ 64 - 1 → EndsInNothings (entries shown first marks)
starts_full shown first [] none full = (first, [], full, append-nil _)
starts_full shown first (m ∷ marks) none full = absurd (omega arith)
