use Rattle.std.proofs.Common.{◌≡◌, List, length, ap, ◌∙◌, arith}
use Rattle.std.proofs.lemmas.List.{get_or_read}
use Rattle.ps_config.specs.declared.parts.GroupPart.{GroupPart}
use Rattle.ps_config.specs.declared.parts.WriterPart.{WriterPart}
use Rattle.writer_group.specs.Parts.{group_at, no_group}
use Rattle.device.proofs.side.writer_count_of.Goals as goal

pub returns : goal.returns
returns c =
    let config = c.args.config.now in
    let part = c.part_of.result.now in
    let same : length c.as_slice.result.now ≡ length (group_at config c.args.index).writer =
    ap (λ (l : List WriterPart). length l) c.as_slice.ensures ∙ ap (λ (p : GroupPart). length p.writer) (get_or_read config.group c.args.index part c.requires c.part_of.ensures no_group) in
    omega (arith, same, c.min.ensures)
