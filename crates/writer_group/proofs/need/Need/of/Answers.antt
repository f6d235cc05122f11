use Rattle.std.proofs.Common.{◌≡◌, List, get_or, length, ap, ◌∙◌, arith}
use Rattle.ps_config.specs.declared.parts.GroupPart.{GroupPart}
use Rattle.writer_group.proofs.SetupLaws.{few-writers}
use Rattle.writer_group.proofs.need.Need.of.Goals as goal

pub need_of_group-requires-clause-few : goal.need_of_group-requires-clause-few
need_of_group-requires-clause-few c =
    let part = c.group-item.result in
    let is : part ≡ get_or c.args.config.now.group c.loop-group.group-index part =
    c.group-item.is ∙ ap (λ (l : List GroupPart). get_or l c.loop-group.group-index part) c.as_slice-groups.ensures in
    few-writers c.args.config.now c.loop-group.group-index part c.requires.good.sound (omega (arith, ap (λ (l : List GroupPart). length l) c.as_slice-groups.ensures)) is
