use Rattle.std.proofs.Common.{ℕ, Option, subst}
use Rattle.std.specs.Prelude.{IfSome}
use Rattle.report_laws.specs.Numbers.{IsNumber}
use Rattle.cmd_relay.proofs.Seen.{row-fits}
use Rattle.cmd_relay.proofs.numbers.see_reader.Goals as goal

pub returns-clause-number : goal.returns-clause-number
returns-clause-number c = λ fields. subst (λ (o : Option ℕ). IfSome o IsNumber) (c.number.ensures fields) c.see_number.ensures

pub returns-clause-row : goal.returns-clause-row
returns-clause-row c = λ meta is. row-fits meta (λ row. row.now.words) c.row-row.result _ (c.row-row.ensures.row meta.fields) (c.row-row.ensures.belongs meta is)
