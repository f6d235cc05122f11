use Rattle.std.proofs.Common.{take}
use Rattle.ua_binary.specs.Writing.{Puts}
use Rattle.row_words.specs.Belonging.{row_in}
use Rattle.frame_codec.specs.Spelling.{values_bytes}
use Rattle.frame_codec.proofs.writing.put_values.Given as goal

-- the values so far stand behind one another
abbrev pub invariant-loop-index : goal.invariant-loop-index
invariant-loop-index l = Puts l.fn.pen l.pen (values_bytes l.meta.quality (take l.index (row_in l.meta.fields l.row.words)))
