use Rattle.std.proofs.Common.{◌≡◌, length, [], is_none}
use Rattle.std.specs.List.{list_any, list_all}
use Rattle.row_words.specs.Patches.{IsPatchOf, patch_in}
use Rattle.ps_script.specs.Texts.{words_of}
use Rattle.ps_script.specs.Values.{ValueReader}
use Rattle.ps_script.specs.Fields.{is_field_word, change_of, patch_with}
use Rattle.ps_script.proofs.Taken.{Leaves}
use Rattle.ps_script.proofs.writes.fill.Given as goal

-- no word so far is amiss, the patch has what they give, and the marks are of their fields
abbrev pub invariant-words : goal.invariant-words
invariant-words l = record {
  shaped : list_all is_field_word (words_of l.rest) ≡ list_all is_field_word (words_of l.fields);
  leaves : Leaves l.meta.fields l.taken (words_of l.rest) (words_of l.fields);
  valued : (reader : ValueReader) → list_any (λ word. is_none (change_of reader l.meta.quality l.meta.fields word)) (words_of l.rest)
      ≡ list_any (λ word. is_none (change_of reader l.meta.quality l.meta.fields word)) (words_of l.fields);
  of : IsPatchOf l.meta l.patch;
  gives : (reader : ValueReader) → patch_with reader l.meta.quality l.meta.fields (patch_in l.meta.fields l.patch) (words_of l.rest)
      ≡ patch_with reader l.meta.quality l.meta.fields [] (words_of l.fields);
}

abbrev pub decreases-words : goal.decreases-words
decreases-words l = length l.rest
