use Rattle.std.proofs.Common.{◌<◌, List, length, sym, subst, arith}
use Rattle.dataset_meta.specs.declared.field.Field.{Field}
use Rattle.row_words.specs.Belonging.{row_in}
use Rattle.device.specs.Readings.{HasFieldStatus, HasFieldValue, HoldsNone}
use Rattle.device.proofs.Telling.{reader-keeps}
use Rattle.device.proofs.subscriber.field_in.Goals as goal

pub returns-clause-value : goal.returns-clause-value
returns-clause-value c =
    let meta = c.meta_of-meta.result.now in
    reader-keeps c.args.config.now c.args.listening.now c.args.reader (HasFieldValue c.args.field c.field-value.result) c.reader-holder.result.now meta
    (omega (arith, c.count.ensures, c.if-reader-count.false)) c.reader-holder.ensures.kept c.meta_of-meta.ensures
    (record {
      within = subst (λ (fields : List Field). c.args.field < length fields) c.fields.ensures.fields (omega (arith, c.from.ensures, c.if-from-fields.false));
      row = row_in meta.fields c.in-Some.row.now.words;
      held = sym (c.in-Some.ensures.row meta.fields);
      value_is = c.field-value.ensures;
    })

pub returns-clause-status : goal.returns-clause-status
returns-clause-status c =
    let meta = c.meta_of-meta.result.now in
    reader-keeps c.args.config.now c.args.listening.now c.args.reader (HasFieldStatus c.args.field c.status-status.result) c.reader-holder.result.now meta
    (omega (arith, c.count.ensures, c.if-reader-count.false)) c.reader-holder.ensures.kept c.meta_of-meta.ensures
    (record {
      within = subst (λ (fields : List Field). c.args.field < length fields) c.fields.ensures.fields (omega (arith, c.from.ensures, c.if-from-fields.false));
      row = row_in meta.fields c.in-Some.row.now.words;
      held = sym (c.in-Some.ensures.row meta.fields);
      status_is = c.status-status.ensures;
    })

pub returns-in_default-clause-none : goal.returns-in_default-clause-none
returns-in_default-clause-none c =
    let meta = c.meta_of-meta.result.now in
    reader-keeps c.args.config.now c.args.listening.now c.args.reader HoldsNone c.reader-holder.result.now meta
    (omega (arith, c.count.ensures, c.if-reader-count.false)) c.reader-holder.ensures.kept c.meta_of-meta.ensures
    (sym (c.in_default.ensures.row meta.fields))
