use Rattle.std.proofs.Common.{◌≡◌, ◌<◌, ◌≤◌, ap, length, take, arith, length-append}
use Rattle.std.proofs.lemmas.List.{take_all}
use Rattle.row_words.specs.Belonging.{row_in}
use Rattle.row_words.proofs.FieldLaws.{stands_at}
use Rattle.frame_codec.specs.Spelling.{value_bytes, values_bytes}
use Rattle.frame_codec.proofs.Laid.{length-row_in, values-more, at_stands}
use Rattle.frame_codec.proofs.length.row_len.Goals as goal

pub loop-index-preserved : goal.loop-index-preserved
loop-index-preserved c =
    let fields = c.args.meta.now.fields in
    let quality = c.args.meta.now.quality in
    let row = row_in fields c.args.row.now.words in
    let within : c.loop-index.index < length row = omega (arith, length-row_in fields c.args.row.now.words, rw c.fields-index-end.ensures.fields at c.loop-index-test.true) in
    let s = stands_at row c.loop-index.index within in
    let here : c.value_len-len.result ≡ length (value_bytes quality s.x) = at_stands (λ x. c.value_len-len.result ≡ length (value_bytes quality x)) row c.loop-index.index s c.value_len-len.ensures.len in
    record {
      so_far = omega (
        arith,
        ap length (values-more quality row c.loop-index.index within s),
        length-append (values_bytes quality (take c.loop-index.index row)) (value_bytes quality s.x),
        here,
        c.loop-index.invariant.so_far,
      );
      small = omega (arith, c.value_len-len.ensures.small, c.loop-index.invariant.small);
    }

pub returns-clause-len : goal.returns-clause-len
returns-clause-len c =
    let fields = c.args.meta.now.fields in
    let row = row_in fields c.args.row.now.words in
    let all : length row ≤ c.loop-index.index = omega (arith, length-row_in fields c.args.row.now.words, rw c.fields-index-end.ensures.fields at c.loop-index-test.false) in
    rw (take_all c.loop-index.index row all) at c.loop-index.invariant.so_far
