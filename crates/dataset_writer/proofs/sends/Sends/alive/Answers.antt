use Rattle.std.proofs.Common.{ap}
use Rattle.dataset_writer.specs.declared.sends.Sends.{Sends}
use Rattle.dataset_writer.proofs.Zeros.{alive_ends}
use Rattle.dataset_writer.proofs.sends.Sends.alive.Goals as goal

pub returns-clause-zeros : goal.returns-clause-zeros
returns-clause-zeros c =
    alive_ends c.args.self.now _ c.requires.zeros (ap (λ (s : Sends). s.used) c.head.ensures) (ap (λ (s : Sends). s.row) c.head.ensures)
    (ap (λ (s : Sends). s.frame.kind) c.head.ensures)
