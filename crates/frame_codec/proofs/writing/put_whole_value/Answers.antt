use Rattle.row_words.specs.Belonging.{row_in}
use Rattle.frame_codec.proofs.Laid.{value_room}
use Rattle.frame_codec.proofs.writing.put_whole_value.Goals as goal

pub put_variant-requires : goal.put_variant-requires
put_variant-requires c = value_room (row_in c.args.meta.now.fields c.args.row.now.words) c.args.index c.field.result c.args.pen.now c.field.ensures c.requires.room
