use Rattle.row_words.specs.Belonging.{row_in}
use Rattle.frame_codec.proofs.Laid.{data_room, room_behind, alone_puts, with_puts}
use Rattle.frame_codec.proofs.writing.put_data_value.Goals as goal

pub put_u8-requires : goal.put_u8-requires
put_u8-requires c = data_room (row_in c.args.meta.now.fields c.args.row.now.words) c.args.index c.args.pen.now c.requires.room

pub put_u8-requires-else-status-eq0 : goal.put_u8-requires-else-status-eq0
put_u8-requires-else-status-eq0 c = data_room (row_in c.args.meta.now.fields c.args.row.now.words) c.args.index c.args.pen.now c.requires.room

pub put_u32-requires : goal.put_u32-requires
put_u32-requires c =
    room_behind (row_in c.args.meta.now.fields c.args.row.now.words) c.args.index c.status-status.result c.args.pen.now c.put_u8-else-status-eq0.new.self c.put_field-else-status-eq0.new.pen c.if-status-eq0.false c.status-status.ensures c.requires.room
    c.put_u8-else-status-eq0.ensures c.put_field-else-status-eq0.ensures

pub returns-then-status-eq0 : goal.returns-then-status-eq0
returns-then-status-eq0 c =
    alone_puts (row_in c.args.meta.now.fields c.args.row.now.words) c.args.index c.status-status.result c.args.pen.now c.put_u8.new.self c.put_field.new.pen c.if-status-eq0.true c.status-status.ensures c.put_u8.ensures c.put_field.ensures

pub returns-else-status-eq0 : goal.returns-else-status-eq0
returns-else-status-eq0 c =
    with_puts (row_in c.args.meta.now.fields c.args.row.now.words) c.args.index c.status-status.result c.args.pen.now c.put_u8-else-status-eq0.new.self c.put_field-else-status-eq0.new.pen c.put_u32.new.self c.if-status-eq0.false c.status-status.ensures
    c.put_u8-else-status-eq0.ensures c.put_field-else-status-eq0.ensures c.put_u32.ensures
