use Rattle.std.proofs.Common.{◌≡◌, get_or, ap, ◌∙◌, arith, rules}
use Rattle.ua_values.specs.declared.kind.Kind.{Kind}
use Rattle.dataset_meta.specs.declared.field.Field.{Field}
use Rattle.row_words.specs.Belonging.{row_in}
use Rattle.row_words.specs.Words.{is_scalar}
use Rattle.fixed_layout.specs.Spelling.{raw_width, raw_width_of}
use Rattle.fixed_layout.proofs.Laying.{value-at, puts-value}
use Rattle.fixed_layout.proofs.Sizes.{length-raw_value}
use Rattle.fixed_layout.proofs.writing.put_long_at.Goals as goal

pub put_long_value-requires-clause-long : goal.put_long_value-requires-clause-long
put_long_value-requires-clause-long c =
    let fields = c.args.meta.now.fields in
    let field = c.index-fields-from.result in
    let at : field ≡ get_or fields c.args.index field = rw (c.fields.ensures.fields, c.from.ensures) at c.index-fields-from.is in
    let fits = value-at c.args.meta.now.quality fields (row_in fields c.args.row.now.words) c.args.index field c.field.result c.requires.belongs.row c.requires.index at c.field.ensures in
    ap is_scalar fits.1.same_kind ∙ ap (λ (f : Field). is_scalar f.kind) at ∙ c.requires.long field

pub put_long_value-requires-clause-room : goal.put_long_value-requires-clause-room
put_long_value-requires-clause-room c =
    let fields = c.args.meta.now.fields in
    let field = c.index-fields-from.result in
    let at : field ≡ get_or fields c.args.index field = rw (c.fields.ensures.fields, c.from.ensures) at c.index-fields-from.is in
    let fits = value-at c.args.meta.now.quality fields (row_in fields c.args.row.now.words) c.args.index field c.field.result c.requires.belongs.row c.requires.index at c.field.ensures in
    omega (
      arith,
      length-raw_value field.cap c.field.result fits.0 fits.1.within,
      ap (λ (kind : Kind). raw_width kind field.cap) fits.1.same_kind,
      c.requires.room field,
      ap raw_width_of at,
    )

pub returns-clause-written : goal.returns-clause-written
returns-clause-written c =
    let fields = c.args.meta.now.fields in
    let row = row_in fields c.args.row.now.words in
    let field = c.index-fields-from.result in
    let at : field ≡ get_or fields c.args.index field = rw (c.fields.ensures.fields, c.from.ensures) at c.index-fields-from.is in
    let puts = puts-value fields row c.args.index field c.field.result _ _ c.requires.index at c.field.ensures c.put_long_value.ensures in
    λ d e. let put = puts d e in let written = put.written in (search (rules, written), put.moved)
