use Rattle.std.proofs.Common.{IfOk, ap, ◌∙◌, subst, List, ℕ, ◌≡◌}
use Rattle.serde_json.specs.Data.{string}
use Rattle.serde_json.specs.View.{view}
use Rattle.uuid.specs.Text.{hyphenated_text, lower}
use Rattle.json_values.proofs.write.guid_json.Goals as goal

pub returns : goal.returns
returns c =
    subst (λ (t : List ℕ). IfOk c.try_from_str.result (λ found. view found ≡ string t))
    (c.encode_lower.ensures.text ∙ ap (hyphenated_text lower) (c.hyphenated.ensures ∙ c.from_bytes_le.ensures)) c.try_from_str.ensures
