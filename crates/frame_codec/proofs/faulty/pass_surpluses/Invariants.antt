use Rattle.std.proofs.Common.{◌≡◌, ◌≤◌, ◌-◌, length}
use Rattle.ua_binary.specs.Reading.{rest_of}
use Rattle.frame_codec.specs.FieldFaults.{surpluses_past}
use Rattle.frame_codec.proofs.faulty.pass_surpluses.Given as goal

-- what is left to be read is what all surplus values are
abbrev pub invariant-loop-index : goal.invariant-loop-index
invariant-loop-index l =
    let fields = length l.meta.fields in
    record {
      past : fields ≤ l.index;
      same : l.cursor.bytes ≡ l.fn.cursor.bytes;
      read : surpluses_past l.meta.quality l.encoding fields (l.count - fields) (rest_of l.fn.cursor)
          ≡ surpluses_past l.meta.quality l.encoding l.index (l.count - l.index) (rest_of l.cursor);
    }
