use Rattle.std.proofs.Common.{◌≡◌, ◌≤◌, ◌-◌, length}
use Rattle.row_words.specs.Belonging.{row_in}
use Rattle.row_words.specs.Patches.{IsPatchOf, patch_in}
use Rattle.key_delta.specs.Changes.{changes_upto}
use Rattle.key_delta.proofs.changes.mark_changes.Given as goal

abbrev pub invariant-loop-index : goal.invariant-loop-index
invariant-loop-index l = record {
  of : IsPatchOf l.meta l.patch;
  marked : patch_in l.meta.fields l.patch ≡ changes_upto l.index (row_in l.meta.fields l.old.words) (row_in l.meta.fields l.new.words);
  within : l.index ≤ length l.meta.fields;
}

abbrev pub decreases-loop-index : goal.decreases-loop-index
decreases-loop-index l = length l.meta.fields - l.index
