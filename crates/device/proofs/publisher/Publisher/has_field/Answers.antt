use Rattle.std.proofs.Common.{◌<◌, ◌≤◌, List, length, ap, arith}
use Rattle.std.proofs.lemmas.Bool.{OnFalse_at, OnFalse_from, OnTrue_at, OnTrue_from}
use Rattle.dataset_meta.specs.Metas.{MetaData}
use Rattle.device.specs.Sides.{HasField, HasNoField}
use Rattle.device.proofs.Places.{holds-at}
use Rattle.device.proofs.publisher.Publisher.has_field.Goals as goal

pub returns-clause-there : goal.returns-clause-there
returns-clause-there c =
    let dataset = c.args.self.now.config.dataset in
    let metas = c.as_slice-metas.result.now in
    let meta = c.index-metas-index.result in
    let low : c.from-index.result < length metas = omega (arith, c.if-index-metas.false) in
    OnTrue_from c.has_field_at.result (HasField dataset c.args.set c.args.field) (λ yes. record {
      within = omega (arith, low, c.from-index.ensures, ap (λ (l : List MetaData). length l) c.as_slice-metas.ensures);
      has = holds-at (λ (m : MetaData). c.args.field < length m.fields) metas dataset c.from-index.result c.args.set meta c.as_slice-metas.ensures c.from-index.ensures low c.index-metas-index.is
          (OnTrue_at yes c.has_field_at.ensures.there);
    })

pub returns-clause-not : goal.returns-clause-not
returns-clause-not c =
    let dataset = c.args.self.now.config.dataset in
    let metas = c.as_slice-metas.result.now in
    let meta = c.index-metas-index.result in
    let low : c.from-index.result < length metas = omega (arith, c.if-index-metas.false) in
    OnFalse_from c.has_field_at.result (HasNoField dataset c.args.set c.args.field) (λ no within.
    holds-at (λ (m : MetaData). length m.fields ≤ c.args.field) metas dataset c.from-index.result c.args.set meta c.as_slice-metas.ensures c.from-index.ensures low c.index-metas-index.is
    (OnFalse_at no c.has_field_at.ensures.not))
