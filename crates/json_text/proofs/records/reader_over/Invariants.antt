use Rattle.std.proofs.Common.{◌≡◌, take}
use Rattle.dataset_reader.specs.Reader.{IsReaderOf, kept_by, numbering_of as numbering_by}
use Rattle.json_frames.specs.Parts.{meta_at, parts_in}
use Rattle.reader_group.specs.Members.{numbering_of}
use Rattle.json_text.specs.Readers.{kept_for}
use Rattle.json_text.proofs.records.reader_over.Given as goal

abbrev pub invariant-loop-read : goal.invariant-loop-read
invariant-loop-read l =
    (kept_by (meta_at l.config.dataset l.part.dataset).fields l.reader
    ≡ kept_for l.config (parts_in l.config.dataset (take l.read-index l.parts)) l.part)
    × IsReaderOf (meta_at l.config.dataset l.part.dataset) l.reader
    × (numbering_by l.reader ≡ numbering_of l.part.numbering)
