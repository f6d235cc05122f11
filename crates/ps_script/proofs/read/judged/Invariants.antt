use Rattle.std.proofs.Common.{◌≡◌, ◌≤◌, ◌++◌, length}
use Rattle.ps_script.specs.Texts.{lines_of}
use Rattle.ps_script.specs.Values.{ValueReader}
use Rattle.ps_script.specs.Past.{done_by}
use Rattle.ps_script.specs.Acts.{acts_from}
use Rattle.ps_script.specs.Scripts.{judged, judged_from}
use Rattle.ps_script.proofs.read.judged.Given as goal

-- no line so far has a fault; where none appended, the lines so far and those of the bytes that are left are all
abbrev pub invariant-lines : goal.invariant-lines
invariant-lines l = record {
  few : length l.reading.past.metas.items ≤ 8;
  judged : (reader : ValueReader) → judged_from reader l.given.config.now l.given.takes_fates (done_by l.reading.past) l.number (lines_of l.rest)
      ≡ judged reader l.given.config.now l.given.takes_fates l.bytes;
  same : (reader : ValueReader) → l.reading.past.appends ≡ 0 → l.reading.past.metas.items ≡ l.given.config.now.dataset;
  read : (reader : ValueReader) → l.reading.past.appends ≡ 0
      → l.reading.lines.items ++ acts_from reader l.given.config.now l.given.config.now.dataset l.number (lines_of l.rest)
      ≡ acts_from reader l.given.config.now l.given.config.now.dataset 1 (lines_of l.bytes);
}

abbrev pub decreases-lines : goal.decreases-lines
decreases-lines l = length l.rest
