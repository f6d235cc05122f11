use Rattle.std.proofs.Common.{◌≡◌, get_or}
use Rattle.dataset_meta.specs.DataValues.{DataValue}
use Rattle.row_words.specs.Belonging.{row_in}
use Rattle.row_words.specs.Words.{scalar_in}
use Rattle.frame_codec.proofs.Laid.{word_room}
use Rattle.frame_codec.proofs.writing.put_any.Goals as goal

pub put_scalar-requires-clause-room : goal.put_scalar-requires-clause-room
put_scalar-requires-clause-room c =
    let fields = c.args.meta.now.fields in
    let field = c.index-fields-from.result in
    let at : field ≡ get_or fields c.args.index field = rw (c.fields.ensures.fields, c.from.ensures) at c.index-fields-from.is in
    let d : DataValue = record { value = scalar_in field.kind c.word.result; status = 0 } in
    word_room fields (row_in fields c.args.row.now.words) c.args.index c.word.result field c.args.pen.now d at c.word.ensures.value c.requires.room
