use Rattle.std.proofs.Common.{ℕ, ap, ◌∙◌}
use Rattle.row_words.specs.Belonging.{row_in}
use Rattle.row_words.specs.Patches.{marked_from, patch_in}
use Rattle.row_words.proofs.PatchLaws.{none_marked}
use Rattle.frame_codec.proofs.content.clear_changes.Goals as goal

pub returns-clause-empty : goal.returns-clause-empty
unfolding patch_in
returns-clause-empty c =
    let row = row_in c.args.meta.now.fields c.loop-patch.patch.row.words in
    ap (λ (mask : ℕ). marked_from 0 mask row) c.loop-patch-test.false ∙ none_marked row 0
