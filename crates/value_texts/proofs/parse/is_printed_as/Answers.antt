use Rattle.std.proofs.Common.{sym, ◌∙◌}
use Rattle.std.proofs.lemmas.Bool.Decides.{Decides-eqb}
use Rattle.std.proofs.lemmas.Slice.Eq.{slice_eq-Decides}
use Rattle.value_texts.proofs.parse.is_printed_as.Goals as goal

pub returns-clause-printed : goal.returns-clause-printed
returns-clause-printed c =
    let text = c.as_slice.ensures.value ∙ c.print.ensures.text in
    let d = slice_eq-Decides Decides-eqb _ _ _ c.eq.ensures in
    (λ yes. sym (sym text ∙ d.0 yes), λ same. d.1 (text ∙ sym same))
