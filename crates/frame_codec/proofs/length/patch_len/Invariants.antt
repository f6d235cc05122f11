use Rattle.std.proofs.Common.{◌≡◌, ◌*◌, ◌≤◌, length, take}
use Rattle.row_words.specs.Belonging.{row_in}
use Rattle.row_words.specs.Patches.{marked_from}
use Rattle.frame_codec.specs.Spelling.{changes_bytes}
use Rattle.frame_codec.proofs.length.patch_len.Given as goal

abbrev pub invariant-loop-index : goal.invariant-loop-index
invariant-loop-index l = record {
  so_far : l.len ≡ length (changes_bytes l.meta.quality (marked_from 0 l.patch.mask (take l.index (row_in l.meta.fields l.patch.row.words))));
  small : l.len ≤ 268 * l.index;
}
