use Rattle.std.proofs.Common.{sym}
use Rattle.row_words.specs.Patches.{patch_in, spelled_patch}
use Rattle.ps_script.proofs.laws.a_patch_is_the_words_of_what_it_stands_for.Goals as goal

pub returns : goal.returns
returns c = λ meta patch is_meta of.
    let is = c.patched_words_belong.ensures.patch meta patch of in
    let words = c.patches_have_words.ensures.of meta (patch_in meta.fields patch) is_meta is in
    let same = c.patches_have_words.ensures.patch meta (patch_in meta.fields patch) is_meta is in
    (c.equal_patches_have_one_meaning.ensures meta patch (spelled_patch meta.fields (patch_in meta.fields patch)) of words).1 (sym same)
