use Rattle.std.proofs.Common.{◌≡◌, List, ap, refl, subst, ◌∙◌, true, false}
use Rattle.std.specs.Prelude.{Option, is_some}
use Rattle.dataset_meta.specs.DataValues.{DataValue}
use Rattle.uapubsub_c.specs.Numbers.{why_number}
use Rattle.uapubsub_c.specs.Reading.{IsWaiting}
use Rattle.uapubsub_c.proofs.Telling.{keeps-so}
use Rattle.uapubsub_c.proofs.subscribing.waiting_of.Goals as goal

pub returns-in-Some-row : goal.returns-in-Some-row
returns-in-Some-row c =
    keeps-so c.args.group c.args.reader c.args.subscriber.now c.in-Some.holder.now (IsWaiting (true, c.why_number-why.result)) c.in-Some.ensures.reader
    (λ meta. record {
      holds = subst (λ (row : Option (List DataValue)). true ≡ is_some row) (c.in-Some-row.ensures.row meta.fields) refl;
      why = c.why_number-why.ensures ∙ ap why_number (c.why.ensures meta.fields);
    })

pub returns-in-None-row : goal.returns-in-None-row
returns-in-None-row c =
    keeps-so c.args.group c.args.reader c.args.subscriber.now c.in-Some.holder.now (IsWaiting (false, c.why_number-why.result)) c.in-Some.ensures.reader
    (λ meta. record {
      holds = subst (λ (row : Option (List DataValue)). false ≡ is_some row) (c.in-None-row.ensures.row meta.fields) refl;
      why = c.why_number-why.ensures ∙ ap why_number (c.why.ensures meta.fields);
    })
