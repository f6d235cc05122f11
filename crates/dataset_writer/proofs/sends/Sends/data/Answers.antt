use Rattle.std.proofs.Common.{ap, ◌∙◌}
use Rattle.dataset_writer.specs.declared.sends.Sends.{Sends}
use Rattle.dataset_writer.proofs.Zeros.{data_ends}
use Rattle.dataset_writer.proofs.sends.Sends.data.Goals as goal

pub returns-clause-zeros : goal.returns-clause-zeros
returns-clause-zeros c =
    data_ends c.args.self.now _ c.args.row.now c.requires.zeros c.requires.row (ap (λ (s : Sends). s.used) c.head.ensures)
    (ap (λ (s : Sends). s.row) c.head.ensures ∙ c.copy_front.ensures) (ap (λ (s : Sends). s.frame.kind) c.head.ensures)
