use Rattle.report_laws.proofs.Printing.{report_of}
use Rattle.report_laws.proofs.laws.a_report_is_of_what_it_tells.Goals as goal

pub returns : goal.returns
returns c = report_of
