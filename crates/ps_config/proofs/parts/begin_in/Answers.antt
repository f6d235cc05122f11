use Rattle.std.proofs.Common.{List, ◌∙◌, ap, sym, subst, length, set, ◌<◌}
use Rattle.ps_config.specs.declared.parts.GroupPart.{GroupPart}
use Rattle.ps_config.specs.declared.parts.WriterPart.{WriterPart}
use Rattle.ps_config.specs.Beginning.{changed_at, group_beginning}
use Rattle.ps_config.proofs.Beginning.{changed-set}
use Rattle.ps_config.proofs.parts.begin_in.Goals as goal

pub returns : goal.returns
returns c =
    let change = group_beginning c.args.writer c.args.first_number in
    let part = c.index_mut.result.now in
    ap (λ (ws : List WriterPart). set c.groups.inside.parts.items c.args.group (record part { writer = ws })) c.begin_writer.ensures
    ∙ changed-set c.args.group change c.groups.inside.parts.items part (subst (λ (l : List GroupPart). c.args.group < length l) (sym c.groups.view_is) c.requires.group) c.index_mut.ensures.value
    ∙ ap (λ (l : List GroupPart). changed_at c.args.group change l) c.groups.view_is
