use Rattle.std.proofs.Common.{rules, ◌<◌, ℕ, List, Some, None, subst, sym, ap, ◌∙◌}
use Rattle.version_cell.specs.declared.cell.Cell.TheInside.{Inside as CellInside}
use Rattle.version_cell.specs.Strips.{table_of}
use Rattle.version_cell.specs.Making.{new_known}
use Rattle.version_cell.proofs.CellLaws.{has_terms, is_cell, quotas_here, room_of, terms_here}
use Rattle.version_cell.proofs.cell.Cell.new.Goals as goal

pub invariant_of-cell : goal.invariant_of-cell
invariant_of-cell g c = has_terms _ c.args.quotas.now c.args.meta.now c.terms_for-terms.ensures c.in_ok-meta.ensures.same (search rules) (search rules) c.requires.quotas c.in_ok-meta.ensures.meta (room_of _ _ _ c.words_of_rows-row.ensures.words c.in_ok-words.ensures.room)

pub returns-clause-cell : goal.returns-clause-cell
returns-clause-cell g c =
    let cell : CellInside = record { words = c.in_ok-words.words; meta = c.in_ok-meta.meta; terms = c.terms_for-terms.result; newest = c.new-newest.result } in
    is_cell cell (has_terms cell c.args.quotas.now c.args.meta.now c.terms_for-terms.ensures c.in_ok-meta.ensures.same (search rules) (search rules) c.requires.quotas c.in_ok-meta.ensures.meta (room_of _ _ _ c.words_of_rows-row.ensures.words c.in_ok-words.ensures.room))

pub returns-clause-quotas : goal.returns-clause-quotas
returns-clause-quotas g c = quotas_here _ c.args.quotas.now _ c.terms_for-terms.ensures (search rules)

pub returns-clause-first : goal.returns-clause-first
returns-clause-first g c =
    let cell : CellInside = record { words = c.in_ok-words.words; meta = c.in_ok-meta.meta; terms = c.terms_for-terms.result; newest = c.new-newest.result } in
    let terms = terms_here cell (has_terms cell c.args.quotas.now c.args.meta.now c.terms_for-terms.ensures c.in_ok-meta.ensures.same (search rules) (search rules) c.requires.quotas c.in_ok-meta.ensures.meta (room_of _ _ _ c.words_of_rows-row.ensures.words c.in_ok-words.ensures.room)) in
    c.in_ok-words.ensures.first ∙ ap (λ (l : List ℕ). new_known (table_of cell.words) l None) (sym terms)

pub returns-clause-numbered : goal.returns-clause-numbered
returns-clause-numbered g c =
    let cell : CellInside = record { words = c.in_ok-words.words; meta = c.in_ok-meta.meta; terms = c.terms_for-terms.result; newest = c.new-newest.result } in
    let terms = terms_here cell (has_terms cell c.args.quotas.now c.args.meta.now c.terms_for-terms.ensures c.in_ok-meta.ensures.same (search rules) (search rules) c.requires.quotas c.in_ok-meta.ensures.meta (room_of _ _ _ c.words_of_rows-row.ensures.words c.in_ok-words.ensures.room)) in
    record {
      eight = c.in_ok-words.ensures.count;
      each = λ t none lt.
          c.in_ok-words.ensures.numbered t none (subst (λ (n : ℕ). t < n) (sym c.in_ok-words.ensures.count) lt)
          ∙ ap (λ (l : List ℕ). new_known (table_of cell.words) l (Some t)) (sym terms);
    }
