use Rattle.std.proofs.Common.{◌<◌, length, ap, arith}
use Rattle.std.proofs.lemmas.List.{get_or_read}
use Rattle.ps_config.specs.declared.parts.GroupPart.{GroupPart}
use Rattle.writer_group.specs.Parts.{no_group}
use Rattle.device.proofs.side.Side.keygroup.Goals as goal

pub returns : goal.returns
returns c =
    let config = c.args.config.now in
    let side = c.args.self.now in
    let low : side.index < length config.group = omega (arith, c.requires.index, c.requires.keeps_to.index) in
    ap (λ (p : GroupPart). p.keygroup) (get_or_read config.group side.index c.part_of.result.now low c.part_of.ensures no_group)
