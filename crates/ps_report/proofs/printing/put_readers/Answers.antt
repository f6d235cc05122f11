use Rattle.std.proofs.Common.{◌++◌, List, ℕ, ap, ◌∙◌, arith, append_assoc}
use Rattle.ps_config.specs.declared.parts.ReaderPart.{ReaderPart}
use Rattle.ps_report.specs.declared.closed.ReaderEnd.{ReaderEnd}
use Rattle.ps_report.specs.Conditions.{HoldsRow}
use Rattle.ps_report.specs.Lines.{gaps_line}
use Rattle.ps_report.specs.Reports.{reader_line}
use Rattle.ps_report.proofs.Pairs.{written_more, zip_length, zip_at}
use Rattle.ps_report.proofs.printing.put_readers.Goals as goal

pub prove-unreachable-requires : goal.prove-unreachable-requires
prove-unreachable-requires c = c.if-prove.true (zip_length (HoldsRow c.args.sets.now) c.args.parts.now c.args.ends.now c.requires)

pub put_reader-requires : goal.put_reader-requires
put_reader-requires c =
    zip_at (HoldsRow c.args.sets.now) c.args.parts.now c.args.ends.now c.loop-i.i c.index-parts-i.result c.index-ends-i.result c.requires
    (omega arith) c.index-parts-i.is c.index-ends-i.is

pub loop-i-preserved : goal.loop-i-preserved
loop-i-preserved c =
    let sets = c.args.sets.now in
    let part = c.index-parts-i.result in
    let end = c.index-ends-i.result in
    let line = reader_line sets part end in
    let gaps = gaps_line part.name end.breaks end.recent.items in
    written_more (λ (at : ReaderPart × ReaderEnd). reader_line c.args.sets.now at.0 at.1 ++ gaps_line at.0.name at.1.breaks at.1.recent.items)
    c.args.parts.now c.args.ends.now c.loop-i.i part end c.args.out.now.items c.loop-i.out.items _
    (omega arith) (omega arith) c.index-parts-i.is c.index-ends-i.is c.loop-i.invariant
    ((rw c.as_slice.ensures.value at c.in_ok-put_gaps.ensures) ∙ ap (λ (l : List ℕ). l ++ gaps) c.in_ok-put_reader.ensures ∙ append_assoc c.loop-i.out.items line gaps)
