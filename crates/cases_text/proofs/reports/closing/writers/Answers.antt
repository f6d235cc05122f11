use Rattle.std.proofs.Common.{◌≡◌, ◌+◌, length, take, ap, ◌∙◌, arith}
use Rattle.std.proofs.lemmas.List.{length-append}
use Rattle.ps_config.specs.declared.parts.GroupPart.{GroupPart}
use Rattle.ps_report.specs.Conditions.{writers_of}
use Rattle.ps_report.proofs.Pairs.{lists_place_more}
use Rattle.cases_text.proofs.reports.closing.writers.Goals as goal

pub loop-group-preserved : goal.loop-group-preserved
loop-group-preserved c =
    let groups = c.args.groups.now in
    let i = c.loop-group.group-index in
    let own = c.group-item.result.writer in
    let more : length (writers_of (take (i + 1) groups)) ≡ length (writers_of (take i groups)) + length own =
    ap length (lists_place_more (λ (group : GroupPart). group.writer) groups i c.group-item.result (omega arith) c.group-item.is)
    ∙ length-append (writers_of (take i groups)) own in
    let pushed = rw c.as_slice-count.ensures at c.in_ok-push_ends.ensures in
    omega arith
