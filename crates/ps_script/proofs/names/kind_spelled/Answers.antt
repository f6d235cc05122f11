use Rattle.ps_script.proofs.KindTexts.{names_no_kind}
use Rattle.ps_script.proofs.names.kind_spelled.Goals as goal

pub returns-in-Err : goal.returns-in-Err
returns-in-Err c = names_no_kind c.args.word.now c.in-Err.ensures.cases.0
