use Rattle.std.proofs.Common.{arith}
use Rattle.ua_binary.specs.Writing.{Puts, Refuses}
use Rattle.row_words.specs.Belonging.{row_in}
use Rattle.fixed_layout.specs.Spelling.{raw_row}
use Rattle.fixed_layout.proofs.Sizes.{length-raw_row, small_size}
use Rattle.writer_group.proofs.spelled.put_raw_row.Goals as goal

pub unreachable-requires : goal.unreachable-requires
unreachable-requires c =
    let meta = c.args.meta.now in
    let row = row_in meta.fields c.args.row.now.words in
    let refused : Refuses c.args.pen.now c.write_raw.new.pen (raw_row meta.fields row) = c.in-Err.ensures in
    omega (arith, refused.no_room, length-raw_row meta.quality meta.fields row c.requires.row.row, small_size meta.fields c.fields.ensures.meta, c.requires.room)

pub returns-clause-short : goal.returns-clause-short
returns-clause-short c =
    let meta = c.args.meta.now in
    let row = row_in meta.fields c.args.row.now.words in
    let puts : Puts c.args.pen.now c.write_raw.new.pen (raw_row meta.fields row) = c.in-Ok.ensures in
    omega (arith, puts.moved, length-raw_row meta.quality meta.fields row c.requires.row.row, small_size meta.fields c.fields.ensures.meta)
