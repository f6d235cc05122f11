use Rattle.std.proofs.Common.{take, sym, subst, arith}
use Rattle.ps_config.specs.declared.parts.ReadGroupPart.{ReadGroupPart}
use Rattle.ps_report.specs.Conditions.{HoldRows, readers_of}
use Rattle.ps_report.proofs.Pairs.{lists_place_more}
use Rattle.cases_text.proofs.reports.closing.readers.Goals as goal

pub loop-group-preserved : goal.loop-group-preserved
loop-group-preserved c =
    let groups = c.args.groups.now in
    let i = c.loop-group.group-index in
    let more = lists_place_more (λ (group : ReadGroupPart). group.reader) groups i c.group-item.result (omega arith) c.group-item.is in
    let pushed = rw c.as_slice.ensures at (c.in_ok-push_readers.ensures (readers_of (take i groups)) c.loop-group.invariant) in
    subst (λ l. HoldRows c.args.sets.now l c.push_readers.new.ends.items) (sym more) pushed
