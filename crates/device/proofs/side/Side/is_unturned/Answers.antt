use Rattle.std.proofs.Common.{◌<◌, length, ap, arith, ◌∙◌}
use Rattle.std.proofs.lemmas.List.{get_or_read}
use Rattle.ps_config.specs.declared.parts.GroupPart.{GroupPart}
use Rattle.writer_group.specs.Parts.{no_group}
use Rattle.writer_group.specs.Standing.{TellsDueFrom}
use Rattle.device.specs.Restarts.{interval_of}
use Rattle.device.proofs.Begins.{due-at}
use Rattle.device.proofs.side.Side.is_unturned.Goals as goal

pub returns-in-Some-clause-unturned : goal.returns-in-Some-clause-unturned
returns-in-Some-clause-unturned c =
    let config = c.args.config.now in
    let side = c.args.self.now in
    let low : side.index < length config.group = omega (arith, c.requires.index, c.requires.keeps_to.index) in
    due-at (TellsDueFrom side.group) c.in-Some.moment c.from-interval.result (interval_of config side)
    (c.from-interval.ensures ∙ ap (λ (p : GroupPart). p.interval) (get_or_read config.group side.index c.part_of.result.now low c.part_of.ensures no_group)) c.in-Some.ensures.from
