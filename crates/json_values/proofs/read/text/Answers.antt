use Rattle.std.proofs.Common.{◌≡◌, ap, ◌∙◌}
use Rattle.ua_values.specs.Texts.{text_of}
use Rattle.std.proofs.lemmas.Option.{same_Some}
use Rattle.value_texts.proofs.Spellings.{accepted}
use Rattle.json_values.proofs.Results.{err_ok}
use Rattle.json_values.proofs.read.text.Goals as goal

pub returns-in-Err-clause-every : goal.returns-in-Err-clause-every
returns-in-Err-clause-every c = λ text valid at.
    let w : c.in_ok-text.text.now ≡ text = same_Some _ text (c.in_ok-text.ensures ∙ at) in
    absurd (err_ok c.from_bytes.result text _ c.in-Err.is (c.from_bytes.ensures ∙ ap text_of (c.as_bytes.ensures.value ∙ w) ∙ accepted text valid))
