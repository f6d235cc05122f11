use Rattle.std.proofs.Common.{List, subst}
use Rattle.std.specs.List.{All}
use Rattle.std.proofs.lemmas.List.{take_all}
use Rattle.ps_config.specs.declared.parts.ReadGroupPart.{ReadGroupPart}
use Rattle.ps_config.specs.declared.parts.ReaderPart.{ReaderPart}
use Rattle.ps_report.specs.Conditions.{readers_of}
use Rattle.report_laws.specs.ReaderNames.{HasName}
use Rattle.report_laws.proofs.Naming.{one_group_more}
use Rattle.report_laws.proofs.names.see_groups.Goals as goal

pub loop-group-preserved : goal.loop-group-preserved
loop-group-preserved c =
    one_group_more c.args.groups.now c.loop-group.group-index c.group-item.result c.loop-group-test.true c.group-item.is c.loop-group.invariant
    (subst (λ (parts : List ReaderPart). All HasName parts) c.as_slice.ensures c.see_parts.ensures)

pub returns : goal.returns
returns c =
    subst (λ (groups : List ReadGroupPart). All HasName (readers_of groups)) (take_all c.loop-group.group-index c.args.groups.now c.loop-group-test.false) c.loop-group.invariant
