use Rattle.std.proofs.Common.{◌≡◌, drop}
use Rattle.ua_binary.specs.Reading.{rest_of}
use Rattle.row_words.specs.Belonging.{Belongs, row_in}
use Rattle.fixed_layout.specs.Reading.{raw_row_at}
use Rattle.fixed_layout.proofs.RowReading.{behind}
use Rattle.fixed_layout.proofs.reading.read_row.Given as goal

-- what was read so far stands in front of what is still to be read
abbrev pub invariant-loop-index : goal.invariant-loop-index
invariant-loop-index l =
    let fields = l.meta.fields in
    let row = row_in fields l.row.words in
    record {
      belongs : Belongs l.meta l.row.words;
      same : l.cursor.bytes ≡ l.fn.cursor.bytes;
      read : raw_row_at fields (rest_of l.fn.cursor) ≡ behind l.index row (raw_row_at (drop l.index fields) (rest_of l.cursor));
    }
