use Rattle.std.proofs.Common.{List, ◌∙◌, ap, sym, subst, length, ◌<◌}
use Rattle.ps_config.specs.declared.parts.WriterPart.{WriterPart}
use Rattle.ps_config.specs.Beginning.{changed_at, writer_beginning}
use Rattle.ps_config.proofs.Beginning.{changed-set}
use Rattle.ps_config.proofs.parts.begin_writer.Goals as goal

pub returns : goal.returns
returns c =
    let change = writer_beginning c.args.first_number in
    changed-set c.args.writer change c.writers.inside.parts.items c.index_mut.result.now (subst (λ (l : List WriterPart). c.args.writer < length l) (sym c.writers.view_is) c.requires) c.index_mut.ensures.value
    ∙ ap (λ (l : List WriterPart). changed_at c.args.writer change l) c.writers.view_is
