use Rattle.std.proofs.Common.{ℕ, ◌-◌, ◌∷◌, List, length, ap, ◌∙◌, length-set}
use Rattle.row_words.specs.Words.{packed}
use Rattle.row_words.proofs.Loops.{behind_length, length_behind}
use Rattle.row_words.proofs.ValueLaws.{length-packed}
use Rattle.row_words.proofs.writing.write_bytes.Goals as goal

pub returns : goal.returns
returns c =
    let words = c.args.words.now in
    let size = length c.args.bytes.now in
    let count = length_behind words size in
    let new = c.pack.ensures ∙ ap (λ (n : ℕ). packed n c.args.bytes.now) (count ∙ ap (λ (n : ℕ). n - 1) (length-set words 0 size)) in
    behind_length words c.pack.new.words size c.requires (ap length new ∙ length-packed (length words - 1) c.args.bytes.now)
    ∙ ap (λ (back : List ℕ). size ∷ back) new
