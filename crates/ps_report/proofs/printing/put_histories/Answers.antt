use Rattle.std.proofs.Common.{◌++◌, List, ℕ, ap, ◌∙◌, arith}
use Rattle.dataset_meta.specs.Metas.{MetaData}
use Rattle.ps_report.specs.declared.closed.History.{History}
use Rattle.ps_report.specs.Lines.{history_line}
use Rattle.ps_report.proofs.Pairs.{written_more, pairs_all}
use Rattle.ps_report.proofs.printing.put_histories.Goals as goal

abbrev line : MetaData × History → List ℕ
line at = history_line at.0.name at.1.threads

pub loop-i-preserved : goal.loop-i-preserved
loop-i-preserved c =
    written_more line c.args.sets.now c.args.histories.now c.loop-i.i c.index-sets-i.result c.index-histories-i.result
    c.args.out.now.items c.loop-i.out.items _ (omega arith) (omega arith) c.index-sets-i.is c.index-histories-i.is
    c.loop-i.invariant (rw (c.name.ensures, c.as_slice.ensures) at c.in_ok-put_history.ensures)

pub returns : goal.returns
returns c = c.loop-i.invariant ∙ ap (λ (l : List ℕ). c.args.out.now.items ++ l) (pairs_all line c.args.sets.now c.args.histories.now c.loop-i.i (omega arith) c.requires)
