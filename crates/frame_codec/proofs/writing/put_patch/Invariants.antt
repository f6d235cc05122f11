use Rattle.std.proofs.Common.{◌<◌, ◌^◌, length}
use Rattle.row_words.specs.Belonging.{row_in}
use Rattle.row_words.specs.Patches.{marked_from}
use Rattle.frame_codec.specs.Spelling.{changes_bytes}
use Rattle.frame_codec.proofs.Marks.{IsLaid}
use Rattle.frame_codec.proofs.writing.put_patch.Given as goal

-- what is left to be written stands behind the changes so far
abbrev pub invariant-loop-left : goal.invariant-loop-left
invariant-loop-left l =
    let row = row_in l.meta.fields l.patch.row.words in
    record {
      marks : l.left < 2 ^ length row;
      laid : IsLaid l.fn.pen l.pen (changes_bytes l.meta.quality (marked_from 0 l.left row)) (changes_bytes l.meta.quality (marked_from 0 l.patch.mask row));
    }

abbrev pub decreases-loop-left : goal.decreases-loop-left
decreases-loop-left l = l.left
