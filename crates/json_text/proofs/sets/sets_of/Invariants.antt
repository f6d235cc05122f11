use Rattle.std.proofs.Common.{◌≡◌, take}
use Rattle.std.specs.Prelude.{flat_map, map}
use Rattle.ps_config.specs.declared.parts.GroupPart.{GroupPart}
use Rattle.ps_config.specs.declared.parts.WriterPart.{WriterPart}
use Rattle.json_text.proofs.sets.sets_of.Given as goal

abbrev pub invariant-loop-group : goal.invariant-loop-group
invariant-loop-group l = l.sets.items ≡ map (λ (writer : WriterPart). (writer.id, writer.dataset))
    (flat_map (λ (group : GroupPart). group.writer) (take l.group-index l.config.group))
