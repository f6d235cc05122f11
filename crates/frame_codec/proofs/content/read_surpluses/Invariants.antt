use Rattle.std.proofs.Common.{◌≡◌, ◌-◌}
use Rattle.ua_binary.specs.Reading.{rest_of}
use Rattle.frame_codec.specs.Contents.{surpluses_at}
use Rattle.frame_codec.proofs.content.read_surpluses.Given as goal

-- what is left to be read is what all values are
abbrev pub invariant-loop : goal.invariant-loop
invariant-loop l = record {
  same : l.cursor.bytes ≡ l.fn.cursor.bytes;
  read : surpluses_at l.encoding l.count (rest_of l.fn.cursor) ≡ surpluses_at l.encoding (l.count - l.counter) (rest_of l.cursor);
}
