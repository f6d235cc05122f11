use Rattle.std.proofs.Common.{arith, ℕ, ◌<◌, ◌^◌, List, get_or}
use Rattle.std.proofs.lemmas.List.Elements.{All-from_get_or}
use Rattle.row_words.proofs.StatusLaws.{cut_copied, cut_lowered, AreWords}
use Rattle.row_words.proofs.statuses.cut_statuses.Goals as goal

words_of : (ws : List ℕ) → ((k : ℕ) → get_or ws k 0 < 2 ^ 64) → AreWords ws
words_of ws small = All-from_get_or (λ (w : ℕ). w < 2 ^ 64) ws 0 (λ k within. small k)

pub returns-then-count-eq1 : goal.returns-then-count-eq1
returns-then-count-eq1 c =
    let copied = c.copy_from_slice.ensures.after in
    rw copied (cut_lowered c.args.count c.args.from.now c.args.to.now (words_of c.args.from.now (λ i. omega (arith, c.type_inv.from i))) c.requires.from (omega (arith, c.if-count-eq1.true)))

pub returns-else-count-eq1 : goal.returns-else-count-eq1
returns-else-count-eq1 c =
    let copied = c.copy_from_slice.ensures.after in
    rw copied (cut_copied c.args.count c.args.from.now c.args.to.now (words_of c.args.from.now (λ i. omega (arith, c.type_inv.from i))) c.requires.from (omega (arith, c.if-count-eq1.false)))
