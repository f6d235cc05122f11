use Rattle.std.proofs.Common.{Some, ap, sym, ◌∙◌}
use Rattle.serde_json.specs.View.{view}
use Rattle.json_values.proofs.Spelled.{spelled_answer, spelled_every}
use Rattle.json_values.proofs.read.spelled.Goals as goal

pub returns-clause-found : goal.returns-clause-found
returns-clause-found c =
    spelled_answer c.parse_value.result (view c.args.json.now) c.as_bytes.result.now c.args.kind c.args.cap c.requires
    (sym c.in_ok-word.ensures ∙ ap Some (sym c.as_bytes.ensures.value)) c.parse_value.ensures.found c.parse_value.ensures.fits

pub returns-clause-every : goal.returns-clause-every
returns-clause-every c = λ value valid fits stands.
    c.parse_value.ensures.every value valid fits
    (spelled_every (view c.args.json.now) c.as_bytes.result.now c.args.kind value c.requires fits.same_kind
    (sym c.in_ok-word.ensures ∙ ap Some (sym c.as_bytes.ensures.value)) stands)
