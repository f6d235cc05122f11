use Rattle.std.proofs.Common.{◌≡◌, ◌-◌}
use Rattle.ua_binary.specs.Reading.{rest_of}
use Rattle.row_words.specs.Patches.{IsPatchOf, patch_in}
use Rattle.frame_codec.specs.Contents.{changes_at}
use Rattle.frame_codec.proofs.content.read_changes.Given as goal

-- what is left to be read is what all changes are
abbrev pub invariant-loop : goal.invariant-loop
invariant-loop l = record {
  of : IsPatchOf l.meta l.patch;
  same : l.cursor.bytes ≡ l.fn.cursor.bytes;
  read : changes_at l.meta l.newer l.encoding l.count (patch_in l.meta.fields l.fn.patch) (rest_of l.fn.cursor)
      ≡ changes_at l.meta l.newer l.encoding (l.count - l.counter) (patch_in l.meta.fields l.patch) (rest_of l.cursor);
}
