use Rattle.std.proofs.Common.{◌≡◌, get_or, ap, sym, ◌∙◌}
use Rattle.std.proofs.lemmas.Result.{err_from_is_err_and}
use Rattle.std.specs.Prelude.{slice_set}
use Rattle.ua_binary.specs.Reading.{rest_of}
use Rattle.dataset_meta.specs.declared.field.Field.{Field}
use Rattle.row_words.specs.Belonging.{row_in}
use Rattle.row_words.specs.Words.{scalar_in}
use Rattle.fixed_layout.specs.Spelling.{good}
use Rattle.fixed_layout.proofs.Setting.{read-set, read-refused}
use Rattle.fixed_layout.proofs.reading.read_scalar_into.Goals as goal

pub returns-in_err-word-clause-answer : goal.returns-in_err-word-clause-answer
returns-in_err-word-clause-answer c =
    let fields = c.args.meta.now.fields in
    let field = c.index-fields-from.result in
    let at : field ≡ get_or fields c.args.index field = rw (c.fields.ensures.fields, c.from.ensures) at c.index-fields-from.is in
    let p = err_from_is_err_and c.from_residual.result c.from_residual.ensures.1 in
    rw (p.1, p.2)
    (read-refused fields c.args.index field (row_in fields c.args.row.now.words) (rest_of c.args.cursor.now) c.in_err-word.field-0.0 c.requires.index at (c.in_err-word.ensures.answer field.cap))

pub returns-clause-answer : goal.returns-clause-answer
returns-clause-answer c =
    let fields = c.args.meta.now.fields in
    let field = c.index-fields-from.result in
    let at : field ≡ get_or fields c.args.index field = rw (c.fields.ensures.fields, c.from.ensures) at c.index-fields-from.is in
    let row = row_in fields c.args.row.now.words in
    let word = c.in_ok-word.word in
    read-set fields c.args.index field row (row_in fields c.set_good.new.row.words) (scalar_in field.kind word) c.args.cursor.now c.read_word.new.cursor c.requires.index at (c.in_ok-word.ensures.answer field.cap)
    (c.set_good.ensures.set field ∙ ap (λ (f : Field). slice_set row c.args.index (good (scalar_in f.kind word))) (sym at))
