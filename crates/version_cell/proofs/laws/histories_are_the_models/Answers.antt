use Rattle.std.proofs.Common.{sym, ap, ◌∙◌, subst}
use Rattle.row_words.specs.Belonging.{Belongs, row_in}
use Rattle.version_cell.proofs.CellLaws.{RowLaws, opening_is}
use Rattle.version_cell.proofs.Models.{IsHistory-seen, row_of-seen, row_of-version, row_seen_belongs}
use Rattle.version_cell.proofs.laws.histories_are_the_models.Goals as goal

pub returns : goal.returns
returns c =
    let laws : RowLaws = record { by_shape = c.words_belong_by_shape.ensures.shape; zeros = c.words_belong_by_shape.ensures.zeros; laid = c.patched_words_belong.ensures.shape } in
    let zeros = opening_is _ c.opening-zeros.ensures.zeros in
    record {
      history = λ cell p is own lawful. IsHistory-seen cell p is own laws lawful;
      belongs = λ cell p is own lawful. row_seen_belongs cell p is own laws lawful;
      row = λ fields log is. row_of-seen fields log (ap (row_in fields) (sym zeros) ∙ c.opening-zeros.ensures.row fields is);
      rows = λ fields log version is le. row_of-version fields log version (ap (row_in fields) (sym zeros) ∙ c.opening-zeros.ensures.row fields is) le;
      opening = λ fields is. ap (row_in fields) (sym zeros) ∙ c.opening-zeros.ensures.row fields is;
      opening_belongs = λ meta is. subst (Belongs meta) zeros (c.opening-zeros.ensures.belongs meta is);
      patched = λ cell p patch is own lawful of. c.patched_words_belong.ensures.row cell.meta patch _ is.meta of (row_seen_belongs cell p is own laws lawful);
    }
