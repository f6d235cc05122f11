use Rattle.std.proofs.Common.{◌++◌, List, ℕ, ap, ◌∙◌, arith}
use Rattle.ps_config.specs.declared.parts.WriterPart.{WriterPart}
use Rattle.ps_report.specs.declared.closed.WriterEnd.{WriterEnd}
use Rattle.ps_report.specs.Lines.{writer_line}
use Rattle.ps_report.proofs.Pairs.{written_more, pairs_all}
use Rattle.ps_report.proofs.printing.put_writers.Goals as goal

abbrev line : WriterPart × WriterEnd → List ℕ
line at = writer_line at.0.name at.1

pub loop-i-preserved : goal.loop-i-preserved
loop-i-preserved c =
    written_more line c.args.parts.now c.args.ends.now c.loop-i.i c.index-parts-i.result c.index-ends-i.result
    c.args.out.now.items c.loop-i.out.items _ (omega arith) (omega arith) c.index-parts-i.is c.index-ends-i.is
    c.loop-i.invariant c.in_ok-put_writer.ensures

pub returns : goal.returns
returns c = c.loop-i.invariant ∙ ap (λ (l : List ℕ). c.args.out.now.items ++ l) (pairs_all line c.args.parts.now c.args.ends.now c.loop-i.i (omega arith) c.requires)
