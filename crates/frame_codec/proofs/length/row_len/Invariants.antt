use Rattle.std.proofs.Common.{◌≡◌, ◌*◌, ◌≤◌, length, take}
use Rattle.row_words.specs.Belonging.{row_in}
use Rattle.frame_codec.specs.Spelling.{values_bytes}
use Rattle.frame_codec.proofs.length.row_len.Given as goal

abbrev pub invariant-loop-index : goal.invariant-loop-index
invariant-loop-index l = record {
  so_far : l.len ≡ length (values_bytes l.meta.quality (take l.index (row_in l.meta.fields l.row.words)));
  small : l.len ≤ 266 * l.index;
}
