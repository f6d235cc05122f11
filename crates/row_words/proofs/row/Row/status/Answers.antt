use Rattle.row_words.proofs.FieldLaws.{status_read}
use Rattle.row_words.proofs.row.Row.status.Goals as goal

pub returns : goal.returns
returns c =
    status_read c.args.meta.now c.args.self.now.words c.args.index c.status_place.result c.status_in.result c.requires.belongs c.requires.index c.status_place.ensures.place c.status_in.ensures
