use Rattle.std.proofs.Common.{◌≡◌, slice_get}
use Rattle.ps_report.specs.Told.{grouped_readers}
use Rattle.pubsub_engine.proofs.Named.{rest_readers}
use Rattle.pubsub_engine.proofs.logs.reader_part.Given as goal

abbrev pub invariant-loop-group : goal.invariant-loop-group
invariant-loop-group l = record {
  items : l.group-items ≡ l.config.readgroup;
  rest : slice_get (rest_readers l.config l.group-index) l.left ≡ slice_get (grouped_readers l.config.readgroup) l.reader;
}
