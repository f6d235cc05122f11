use Rattle.std.proofs.Common.{◌<◌, ◌≤◌, length, arith}
use Rattle.dataset_meta.proofs.RowLaws.{length_row}
use Rattle.row_words.specs.Belonging.{row_in}
use Rattle.fixed_layout.specs.Spelling.{raw_row}
use Rattle.fixed_layout.proofs.Laying.{room-left, value-laid, all-laid}
use Rattle.fixed_layout.proofs.writing.put_values.Goals as goal

pub put_value-requires-clause-room : goal.put_value-requires-clause-room
put_value-requires-clause-room c =
    let fields = c.args.meta.now.fields in
    let row = row_in fields c.args.row.now.words in
    let within : c.loop-index.index < length fields = rw c.fields-index-end.ensures.fields at c.loop-index-test.true in
    room-left c.args.meta.now.quality fields row c.loop-index.index c.args.pen.now c.loop-index.pen (raw_row fields row) c.requires.belongs.row within c.loop-index.invariant c.requires.room

pub loop-index-preserved : goal.loop-index-preserved
loop-index-preserved c =
    let fields = c.args.meta.now.fields in
    let row = row_in fields c.args.row.now.words in
    let within : c.loop-index.index < length fields = rw c.fields-index-end.ensures.fields at c.loop-index-test.true in
    value-laid fields row c.loop-index.index c.args.pen.now c.loop-index.pen c.put_value.new.pen (raw_row fields row) within
    (omega (arith, length_row c.args.meta.now.quality fields row c.requires.belongs.row, within)) c.loop-index.invariant c.put_value.ensures

pub returns : goal.returns
returns c =
    let fields = c.args.meta.now.fields in
    let row = row_in fields c.args.row.now.words in
    let all : length fields ≤ c.loop-index.index = rw c.fields-index-end.ensures.fields at c.loop-index-test.false in
    all-laid fields row c.loop-index.index c.args.pen.now c.loop-index.pen (raw_row fields row) all c.loop-index.invariant
