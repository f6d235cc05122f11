use Rattle.std.proofs.Common.{◌+◌, ◌-◌, sym, subst, rules}
use borrow.Rule.Slice.PartMut.{put_mid}
use Rattle.ua_values.specs.Values.{Fits}
use Rattle.dataset_meta.specs.declared.field.Field.{Field}
use Rattle.row_words.proofs.FieldLaws.{field_written, Wrote}
use Rattle.row_words.proofs.row.Row.set.Goals as goal
use Rattle.row_words.proofs.row.Row.set.Goals.{After-write_value}

wrote : (c : After-write_value) → Wrote c.args.meta.now c.args.self.now.words c.args.index c.args.value.now (put_mid c.from-start.result ((c.from-start.result + c.words.result) - c.from-start.result) c.args.self.now.words c.write_value.new.words)
wrote c =
    let at = rw (c.fields.ensures.fields, c.from.ensures) at c.index-fields-from.is in
    field_written c.args.meta.now c.args.self.now.words c.args.index c.index-fields-from.result c.args.value.now _ _ c.write_value.new.words c.fields.ensures.meta c.requires.belongs c.requires.index
    at (record { is_value = c.write_value.ensures.value; fits = subst (λ (f : Field). Fits c.args.value.now f.kind f.cap) (sym at) (c.requires.fits c.index-fields-from.result) })
    (search rules) (search rules) c.write_value.ensures.words

pub returns-clause-belongs : goal.returns-clause-belongs
returns-clause-belongs c = (wrote c).belongs

pub returns-clause-set : goal.returns-clause-set
returns-clause-set c = (wrote c).set
