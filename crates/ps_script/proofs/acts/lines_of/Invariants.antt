use Rattle.std.proofs.Common.{◌≡◌, ◌++◌, length}
use Rattle.ps_script.specs.Texts.{lines_of}
use Rattle.ps_script.specs.Values.{ValueReader}
use Rattle.ps_script.specs.Acts.{acts_from}
use Rattle.ps_script.proofs.acts.lines_of.Given as goal

-- the lines so far, and those of the bytes that are left
abbrev pub invariant-lines : goal.invariant-lines
invariant-lines l =
    (reader : ValueReader) → l.lines.items ++ acts_from reader l.given.config.now l.metas l.number (lines_of l.rest)
    ≡ acts_from reader l.given.config.now l.metas 1 (lines_of l.bytes)

abbrev pub decreases-lines : goal.decreases-lines
decreases-lines l = length l.rest
