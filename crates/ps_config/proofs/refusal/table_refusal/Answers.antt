use Rattle.std.proofs.Common.{arith}
use Rattle.ps_config.proofs.Tables.{not_the_last}
use Rattle.ps_config.proofs.refusal.table_refusal.Goals as goal

pub first_at-requires : goal.first_at-requires
first_at-requires c = not_the_last _ _ _ c.faults-fault-items.ensures (omega arith)
