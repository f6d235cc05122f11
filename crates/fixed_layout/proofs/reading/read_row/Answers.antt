use Rattle.std.proofs.Common.{◌<◌, length, ◌∙◌, arith}
use Rattle.std.proofs.lemmas.Result.{err_from_is_err_and}
use Rattle.dataset_meta.proofs.RowLaws.{length_row}
use Rattle.ua_binary.specs.Reading.{rest_of}
use Rattle.row_words.specs.Belonging.{row_in}
use Rattle.fixed_layout.proofs.Laying.{stands}
use Rattle.fixed_layout.proofs.RowReading.{behind-set, behind-refused, behind-all}
use Rattle.fixed_layout.proofs.reading.read_row.Goals as goal

pub returns-in_err-read_into-clause-answer : goal.returns-in_err-read_into-clause-answer
returns-in_err-read_into-clause-answer c =
    let fields = c.args.meta.now.fields in
    let within : c.loop-index.index < length fields = rw c.fields-index-end.ensures.fields at c.loop-index-test.true in
    let p = err_from_is_err_and c.from_residual.result c.from_residual.ensures.1 in
    rw (p.1, p.2)
    (c.loop-index.invariant.read ∙ behind-refused c.loop-index.index fields (row_in fields c.loop-index.row.words) (rest_of c.loop-index.cursor) c.in_err-read_into.field-0.0 within c.in_err-read_into.ensures.answer)

pub loop-index-preserved : goal.loop-index-preserved
loop-index-preserved c =
    let fields = c.args.meta.now.fields in
    let row = row_in fields c.loop-index.row.words in
    let within : c.loop-index.index < length fields = rw c.fields-index-end.ensures.fields at c.loop-index-test.true in
    let long = length_row c.args.meta.now.quality fields row c.loop-index.invariant.belongs.row in
    let set = c.in_ok-read_into.ensures.answer in
    record {
      belongs = c.read_into.ensures.belongs;
      same = (set (stands fields c.loop-index.index within).x).same_bytes ∙ c.loop-index.invariant.same;
      read = c.loop-index.invariant.read
          ∙ behind-set c.loop-index.index fields row (row_in fields c.read_into.new.row.words) (rest_of c.loop-index.cursor) (rest_of c.read_into.new.cursor) within (omega (arith, long, within)) (λ d. (set d).answer);
    }

pub returns-clause-answer : goal.returns-clause-answer
returns-clause-answer c =
    let fields = c.args.meta.now.fields in
    let row = row_in fields c.loop-index.row.words in
    let all = rw c.fields-index-end.ensures.fields at c.loop-index-test.false in
    let long = length_row c.args.meta.now.quality fields row c.loop-index.invariant.belongs.row in
    record {
      answer = c.loop-index.invariant.read ∙ behind-all c.loop-index.index fields row _ all (omega (arith, long, all));
      same_bytes = c.loop-index.invariant.same;
    }
