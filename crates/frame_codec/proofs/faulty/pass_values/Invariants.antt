use Rattle.std.proofs.Common.{◌≡◌, drop}
use Rattle.ua_binary.specs.Reading.{rest_of}
use Rattle.frame_codec.specs.FieldFaults.{values_past}
use Rattle.frame_codec.proofs.faulty.pass_values.Given as goal

-- what is left to be read is what all values are
abbrev pub invariant-loop-index : goal.invariant-loop-index
invariant-loop-index l = record {
  same : l.cursor.bytes ≡ l.fn.cursor.bytes;
  read : values_past l.meta.quality l.encoding 0 l.meta.fields (rest_of l.fn.cursor)
      ≡ values_past l.meta.quality l.encoding l.index (drop l.index l.meta.fields) (rest_of l.cursor);
}
