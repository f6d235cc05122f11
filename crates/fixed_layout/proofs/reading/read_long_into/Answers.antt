use Rattle.std.proofs.Common.{◌≡◌, get_or}
use Rattle.std.proofs.lemmas.Result.{err_from_is_err_and}
use Rattle.ua_binary.specs.Reading.{rest_of}
use Rattle.row_words.specs.Belonging.{row_in}
use Rattle.fixed_layout.proofs.Setting.{read-set, read-refused}
use Rattle.fixed_layout.proofs.reading.read_long_into.Goals as goal

pub returns-in_err-value-clause-answer : goal.returns-in_err-value-clause-answer
returns-in_err-value-clause-answer c =
    let fields = c.args.meta.now.fields in
    let field = c.index-fields-from.result in
    let at : field ≡ get_or fields c.args.index field = rw (c.fields.ensures.fields, c.from.ensures) at c.index-fields-from.is in
    let p = err_from_is_err_and c.from_residual.result c.from_residual.ensures.1 in
    rw (p.1, p.2)
    (read-refused fields c.args.index field (row_in fields c.args.row.now.words) (rest_of c.args.cursor.now) c.in_err-value.field-0.0 c.requires.index at c.in_err-value.ensures.answer)

pub returns-clause-answer : goal.returns-clause-answer
returns-clause-answer c =
    let fields = c.args.meta.now.fields in
    let field = c.index-fields-from.result in
    let at : field ≡ get_or fields c.args.index field = rw (c.fields.ensures.fields, c.from.ensures) at c.index-fields-from.is in
    read-set fields c.args.index field (row_in fields c.args.row.now.words) (row_in fields c.set_with_status.new.self.words) c.in_ok-value.value c.args.cursor.now c.read_long.new.cursor c.requires.index at c.in_ok-value.ensures.answer
    c.set_with_status.ensures.set
