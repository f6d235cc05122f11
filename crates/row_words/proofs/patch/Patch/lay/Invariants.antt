use Rattle.std.proofs.Common.{◌≡◌, ◌<◌, ◌^◌, length}
use Rattle.dataset_meta.specs.Rows.{patched}
use Rattle.row_words.specs.Belonging.{Belongs, row_in}
use Rattle.row_words.specs.Patches.{marked_from}
use Rattle.row_words.proofs.patch.Patch.lay.Given as goal

-- what is left laid into the row gives what the whole patch laid into the first row gives
abbrev pub invariant-loop-left : goal.invariant-loop-left
invariant-loop-left l = record {
  marks : l.left < 2 ^ length l.meta.fields;
  belongs : Belongs l.meta l.row.words;
  laid : patched (row_in l.meta.fields l.row.words) (marked_from 0 l.left (row_in l.meta.fields l.self.row.words)) ≡ patched (row_in l.meta.fields l.initial.row.words) (marked_from 0 l.self.mask (row_in l.meta.fields l.self.row.words));
}

abbrev pub decreases-loop-left : goal.decreases-loop-left
decreases-loop-left l = l.left
