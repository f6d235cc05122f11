use Rattle.std.proofs.Common.{◌≡◌, ℕ, List, get_or, sym, subst}
use Rattle.ua_binary.specs.Writing.{Puts}
use Rattle.dataset_meta.specs.declared.field.Field.{Field}
use Rattle.row_words.specs.Belonging.{row_in}
use Rattle.row_words.specs.Words.{IsWordOf, scalar_in}
use Rattle.fixed_layout.proofs.Laying.{puts-value, has-word, raw-scalar_in}
use Rattle.fixed_layout.proofs.writing.put_value.Goals as goal

pub returns-then-is_scalar : goal.returns-then-is_scalar
returns-then-is_scalar c =
    let fields = c.args.meta.now.fields in
    let field = c.index-fields-from.result in
    let at : field ≡ get_or fields c.args.index field = rw (c.fields.ensures.fields, c.from.ensures) at c.index-fields-from.is in
    let row = row_in fields c.args.row.now.words in
    let word = c.word.result in
    let is_word : IsWordOf field.kind word = subst (λ (f : Field). IsWordOf f.kind word) (sym at) (c.word.ensures.word field) in
    puts-value fields row c.args.index field (scalar_in field.kind word) c.args.pen.now c.put_word.new.pen c.requires.index at (has-word fields row c.args.index field word at c.word.ensures.value)
    (subst (λ (bytes : List ℕ). Puts c.args.pen.now c.put_word.new.pen bytes) (sym (raw-scalar_in field.cap field.kind word is_word)) c.put_word.ensures)
