use Rattle.std.proofs.Common.{◌≡◌, drop}
use Rattle.std.specs.List.{list_any}
use Rattle.json_text.specs.Matching.{reads_writer}
use Rattle.json_text.proofs.matching.reads_any.Given as goal

-- none so far
abbrev pub invariant-loop-writer : goal.invariant-loop-writer
invariant-loop-writer l = list_any (reads_writer l.reader) (drop l.writer-index l.writers) ≡ list_any (reads_writer l.reader) l.writers
