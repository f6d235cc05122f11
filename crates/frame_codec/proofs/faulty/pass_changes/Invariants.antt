use Rattle.std.proofs.Common.{◌≡◌, ◌-◌}
use Rattle.ua_binary.specs.Reading.{rest_of}
use Rattle.frame_codec.specs.FieldFaults.{changes_past}
use Rattle.frame_codec.proofs.faulty.pass_changes.Given as goal

-- what is left to be read is what all changes are
abbrev pub invariant-loop : goal.invariant-loop
invariant-loop l = record {
  same : l.cursor.bytes ≡ l.fn.cursor.bytes;
  read : changes_past l.meta l.newer l.encoding l.count (rest_of l.fn.cursor)
      ≡ changes_past l.meta l.newer l.encoding (l.count - l.counter) (rest_of l.cursor);
}
