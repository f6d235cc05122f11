use Rattle.std.proofs.Common.{List, subst}
use Rattle.std.specs.List.{All}
use Rattle.ps_config.specs.declared.parts.ReadGroupPart.{ReadGroupPart}
use Rattle.ps_report.specs.Conditions.{readers_of}
use Rattle.report_laws.specs.ReaderNames.{HasName}
use Rattle.report_laws.proofs.Naming.{named}
use Rattle.report_laws.proofs.names.readers_are_told_by_their_names.Goals as goal

pub returns : goal.returns
returns c =
    named c.args.config.now c.requires (subst (λ (groups : List ReadGroupPart). All HasName (readers_of groups)) c.as_slice.ensures c.see_groups.ensures)
