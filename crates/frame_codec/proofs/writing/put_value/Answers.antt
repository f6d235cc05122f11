use Rattle.std.proofs.Common.{Bool, sym, ◌∙◌, subst, get_or}
use Rattle.ua_binary.specs.Writing.{Puts}
use Rattle.row_words.specs.Belonging.{row_in}
use Rattle.frame_codec.specs.Spelling.{value_bytes}
use Rattle.frame_codec.proofs.writing.put_value.Goals as goal

pub returns-then-quality : goal.returns-then-quality
returns-then-quality c = λ d.
    let x = get_or (row_in c.args.meta.now.fields c.args.row.now.words) c.args.index d in
    subst (λ (q : Bool). Puts c.args.pen.now c.put_data_value.new.pen (value_bytes q x)) (sym (sym c.requires.quality ∙ c.if-quality.true)) (c.put_data_value.ensures d)

pub returns-else-quality : goal.returns-else-quality
returns-else-quality c = λ d.
    let x = get_or (row_in c.args.meta.now.fields c.args.row.now.words) c.args.index d in
    subst (λ (q : Bool). Puts c.args.pen.now c.put_field.new.pen (value_bytes q x)) (sym (sym c.requires.quality ∙ c.if-quality.false)) (c.put_field.ensures d)
