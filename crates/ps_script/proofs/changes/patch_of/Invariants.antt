use Rattle.std.proofs.Common.{◌≡◌, length, []}
use Rattle.row_words.specs.Patches.{IsPatchOf, patch_in}
use Rattle.ps_script.specs.Texts.{words_of}
use Rattle.ps_script.specs.Values.{ValueReader}
use Rattle.ps_script.specs.Fields.{patch_with}
use Rattle.ps_script.specs.Faults.{field_words}
use Rattle.ps_script.proofs.changes.patch_of.Given as goal

-- the patch so far, and what the words that are left give
abbrev pub invariant-words : goal.invariant-words
invariant-words l = record {
  of : IsPatchOf l.meta l.patch;
  words : (reader : ValueReader) → patch_with reader l.meta.quality l.meta.fields (patch_in l.meta.fields l.patch) (words_of l.rest)
      ≡ patch_with reader l.meta.quality l.meta.fields [] (field_words l.line);
}

abbrev pub decreases-words : goal.decreases-words
decreases-words l = length l.rest
