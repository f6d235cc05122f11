use Rattle.std.proofs.Common.{sym, ◌∙◌, rules}
use Rattle.row_words.proofs.FieldLaws.{field_read}
use Rattle.row_words.proofs.row.Row.field.Goals as goal

pub value_at-requires : goal.value_at-requires
value_at-requires c =
    (field_read c.args.meta.now c.args.self.now.words c.args.index c.index-fields-from.result _ _ c.fields.ensures.meta c.requires.belongs c.requires.index
    (rw (c.fields.ensures.fields, c.from.ensures) at c.index-fields-from.is) (search rules) (search rules)).spells

pub returns : goal.returns
returns c = λ d.
    (field_read c.args.meta.now c.args.self.now.words c.args.index c.index-fields-from.result _ _ c.fields.ensures.meta c.requires.belongs c.requires.index
    (rw (c.fields.ensures.fields, c.from.ensures) at c.index-fields-from.is) (search rules) (search rules)).value d ∙ sym c.value_at.ensures
