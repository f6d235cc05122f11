use Rattle.std.proofs.Common.{sym, ap, subst, ◌∙◌}
use Rattle.row_words.specs.Belonging.{Belongs, row_in}
use Rattle.version_cell.proofs.CellLaws.{opening_is}
use Rattle.app_threads.proofs.Legal.{PatchLaws, closed_legal, closed_history}
use Rattle.app_threads.proofs.laws.closed_histories_are_legal.Goals as goal

pub returns : goal.returns
returns c =
    let laws : PatchLaws = record { belongs = c.patched_words_belong.ensures.belongs; row = c.patched_words_belong.ensures.row } in
    let zeros = opening_is _ c.opening-zeros.ensures.zeros in
    record {
      legal = closed_legal;
      history = λ cell p lists closed.
          closed_history cell p lists closed laws (subst (Belongs cell.meta) zeros (c.opening-zeros.ensures.belongs cell.meta closed.is_cell.meta))
          (ap (row_in cell.meta.fields) (sym zeros) ∙ c.opening-zeros.ensures.row cell.meta.fields closed.is_cell.meta);
    }
