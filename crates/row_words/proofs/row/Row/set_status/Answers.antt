use Rattle.row_words.proofs.FieldLaws.{status_written}
use Rattle.row_words.proofs.row.Row.set_status.Goals as goal

pub returns-clause-belongs : goal.returns-clause-belongs
returns-clause-belongs c =
    (status_written c.args.meta.now c.args.self.now.words c.args.index c.status_place-place.result c.args.status c.with_status.result c.fields.ensures.meta c.requires.belongs c.requires.index
    c.status_place-place.ensures.place c.requires.status c.with_status.ensures).belongs

pub returns-clause-set : goal.returns-clause-set
returns-clause-set c =
    (status_written c.args.meta.now c.args.self.now.words c.args.index c.status_place-place.result c.args.status c.with_status.result c.fields.ensures.meta c.requires.belongs c.requires.index
    c.status_place-place.ensures.place c.requires.status c.with_status.ensures).set
