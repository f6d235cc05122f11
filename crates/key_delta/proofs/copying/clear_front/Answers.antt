use Rattle.std.proofs.Common.{◌≤◌, ℕ, length, replicate, ap, ◌∙◌, arith, length-take-le}
use Rattle.row_words.proofs.PatchLaws.{patch_in-none}
use Rattle.key_delta.proofs.ClearLaws.{all_zeros, empty_patch}
use Rattle.key_delta.proofs.copying.clear_front.Goals as goal

pub returns-clause-of : goal.returns-clause-of
returns-clause-of c = λ meta is.
    let words = c.args.patch.now.row.words in
    let count = c.args.count in
    let few : count ≤ length words = omega (arith, c.requires.zeros.whole) in
    let cleared = c.fill.ensures.after (λ y h. h) ∙ ap (λ (n : ℕ). replicate n 0) (length-take-le count words few) in
    empty_patch meta _ (record { belongs = c.zeros_are_a_row.ensures.belongs; row = c.zeros_are_a_row.ensures.row }) is
    (all_zeros count c.fill.new.self words c.requires.count cleared c.requires.zeros.zeros)

pub returns-clause-empty : goal.returns-clause-empty
returns-clause-empty c = λ fields. patch_in-none fields _
