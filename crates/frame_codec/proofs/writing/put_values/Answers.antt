use Rattle.std.proofs.Common.{◌<◌, ◌≤◌, length, arith}
use Rattle.std.proofs.lemmas.List.{take_all}
use Rattle.row_words.specs.Belonging.{row_in}
use Rattle.row_words.proofs.FieldLaws.{stands_at}
use Rattle.ua_binary.specs.Writing.{Puts}
use Rattle.ua_binary.proofs.Laying.{Puts-then}
use Rattle.frame_codec.specs.Spelling.{value_bytes}
use Rattle.frame_codec.proofs.Laid.{length-row_in, values-more, values-within, at_stands}
use Rattle.frame_codec.proofs.writing.put_values.Goals as goal

pub put_value-requires-clause-room : goal.put_value-requires-clause-room
put_value-requires-clause-room c = λ d.
    let fields = c.args.meta.now.fields in
    let row = row_in fields c.args.row.now.words in
    let within : c.loop-index.index < length row = omega (arith, length-row_in fields c.args.row.now.words, rw c.field_count-index-end.ensures at c.loop-index-test.true) in
    omega (arith, values-within c.args.meta.now.quality row c.loop-index.index d within, c.requires.room, c.loop-index.invariant.moved, c.loop-index.invariant.same_length)

pub loop-index-preserved : goal.loop-index-preserved
loop-index-preserved c =
    let fields = c.args.meta.now.fields in
    let row = row_in fields c.args.row.now.words in
    let within : c.loop-index.index < length row = omega (arith, length-row_in fields c.args.row.now.words, rw c.field_count-index-end.ensures at c.loop-index-test.true) in
    let s = stands_at row c.loop-index.index within in
    rw (values-more c.args.meta.now.quality row c.loop-index.index within s)
    (Puts-then c.args.pen.now c.loop-index.pen c.put_value.new.pen _ _ c.loop-index.invariant (at_stands (λ x. Puts c.loop-index.pen c.put_value.new.pen (value_bytes c.args.meta.now.quality x)) row c.loop-index.index s c.put_value.ensures))

pub returns : goal.returns
returns c =
    let fields = c.args.meta.now.fields in
    let row = row_in fields c.args.row.now.words in
    let all : length row ≤ c.loop-index.index = omega (arith, length-row_in fields c.args.row.now.words, rw c.field_count-index-end.ensures at c.loop-index-test.false) in
    rw (take_all c.loop-index.index row all) at c.loop-index.invariant
