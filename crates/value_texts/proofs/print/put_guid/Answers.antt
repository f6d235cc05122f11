use Rattle.std.proofs.Common.{◌<◌, ◌++◌, List, ℕ, ap, ◌∙◌, rules}
use Rattle.std.proofs.lemmas.List.Elements.{All-from_get_or}
use Rattle.uuid.specs.Text.{hyphenated_text, lower}
use Rattle.value_texts.proofs.print.put_guid.Goals as goal

pub returns-clause-text : goal.returns-clause-text
returns-clause-text c =
    c.put.ensures ∙ ap (λ (l : List ℕ). l ++ c.as_bytes.result.now) c.requires ∙ c.as_bytes.ensures.value ∙ c.encode_lower.ensures.text
    ∙ ap (hyphenated_text lower) (c.hyphenated.ensures ∙ c.from_bytes_le.ensures)

pub returns-clause-guid : goal.returns-clause-guid
returns-clause-guid c =
    (search rules, All-from_get_or (λ byte. byte < 256) c.args.bytes.now 0 (λ i inside. c.fits-bytes i))
