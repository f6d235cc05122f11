use Rattle.std.proofs.Common.{◌≡◌, drop}
use Rattle.ua_binary.specs.Reading.{rest_of}
use Rattle.row_words.specs.Belonging.{Belongs, row_in}
use Rattle.frame_codec.specs.Contents.{row_at}
use Rattle.frame_codec.proofs.RowReading.{behind}
use Rattle.frame_codec.proofs.content.read_values.Given as goal

-- what was read so far stands in front of what is still to be read
abbrev pub invariant-loop-index : goal.invariant-loop-index
invariant-loop-index l =
    let fields = l.meta.fields in
    let quality = l.meta.quality in
    record {
      belongs : Belongs l.meta l.row.words;
      same : l.cursor.bytes ≡ l.fn.cursor.bytes;
      read : row_at quality l.encoding fields (rest_of l.fn.cursor) ≡ behind l.index (row_in fields l.row.words) (row_at quality l.encoding (drop l.index fields) (rest_of l.cursor));
    }
