use Rattle.std.proofs.Common.{◌<◌, [], List, length, sym, subst, arith}
use Rattle.ua_values.specs.declared.kind.Kind.{Kind}
use Rattle.ua_values.specs.declared.kind.Kind.TheVariants.{Boolean}
use Rattle.dataset_meta.specs.declared.field.Field.{Field}
use Rattle.row_words.specs.Belonging.{row_in}
use Rattle.row_words.specs.Setting.{HasValue}
use Rattle.row_words.specs.Words.{scalar_in}
use Rattle.device.specs.Readings.{HasFieldValue, HoldsNone, IsOfKind, IsOfOtherKind}
use Rattle.device.proofs.Telling.{reader-keeps}
use Rattle.device.proofs.subscriber.word_in.Goals as goal

pub returns-clause-word : goal.returns-clause-word
returns-clause-word c =
    let meta = c.meta_of-meta.result.now in
    let none : Field = record { name = []; kind = Boolean; cap = 0 } in
    reader-keeps c.args.config.now c.args.listening.now c.args.reader (HasFieldValue c.args.field (scalar_in c.args.kind c.word.result)) c.reader-holder.result.now meta
    (omega (arith, c.count.ensures, c.if-reader-count.false)) c.reader-holder.ensures.kept c.meta_of-meta.ensures
    (record {
      within = subst (λ (fields : List Field). c.args.field < length fields) c.fields.ensures.fields (omega (arith, c.from.ensures, c.if-from-fields.false));
      row = row_in meta.fields c.in-Some.row.now.words;
      held = sym (c.in-Some.ensures.row meta.fields);
      value_is = subst (λ (kind : Kind). HasValue (row_in meta.fields c.in-Some.row.now.words) c.args.field (scalar_in kind c.word.result))
          (c.if-not-is_scalar_at.ensures.there.kind_is none) (c.word.ensures.value none);
    })

pub returns-clause-kind : goal.returns-clause-kind
returns-clause-kind c =
    let meta = c.meta_of-meta.result.now in
    reader-keeps c.args.config.now c.args.listening.now c.args.reader (IsOfKind c.args.field c.args.kind) c.reader-holder.result.now meta
    (omega (arith, c.count.ensures, c.if-reader-count.false)) c.reader-holder.ensures.kept c.meta_of-meta.ensures
    c.if-not-is_scalar_at.ensures.there

pub returns-in_default-clause-none : goal.returns-in_default-clause-none
returns-in_default-clause-none c =
    let meta = c.meta_of-meta.result.now in
    reader-keeps c.args.config.now c.args.listening.now c.args.reader HoldsNone c.reader-holder.result.now meta
    (omega (arith, c.count.ensures, c.if-reader-count.false)) c.reader-holder.ensures.kept c.meta_of-meta.ensures
    (sym (c.in_default.ensures.row meta.fields))

pub returns-then-not-is_scalar_at-clause-none : goal.returns-then-not-is_scalar_at-clause-none
returns-then-not-is_scalar_at-clause-none c =
    let meta = c.meta_of-meta.result.now in
    reader-keeps c.args.config.now c.args.listening.now c.args.reader (IsOfOtherKind c.args.field c.args.kind) c.reader-holder.result.now meta
    (omega (arith, c.count.ensures, c.if-reader-count.false)) c.reader-holder.ensures.kept c.meta_of-meta.ensures
    (record {
      within = subst (λ (fields : List Field). c.args.field < length fields) c.fields.ensures.fields (omega (arith, c.from.ensures, c.if-from-fields.false));
      other = c.if-not-is_scalar_at.ensures.not;
    })
