use Rattle.std.proofs.Common.{ℕ, List, Result, Ok, ap, ◌∙◌}
use Rattle.uadp_header.specs.declared.fault.HeaderFault.{HeaderFault}
use Rattle.uadp_header.proofs.Texts.{utf8_text, bad_text}
use Rattle.uadp_header.proofs.reading.as_text.Goals as goal

pub returns-in-Ok : goal.returns-in-Ok
returns-in-Ok c =
    let same : Path (Result (List ℕ) HeaderFault) (Ok c.in-Ok.text.now) (Ok c.args.bytes.now) = ap Ok c.in-Ok.ensures.cases.0 in
    same ∙ utf8_text c.args.bytes.now c.in-Ok.ensures.cases.1

pub returns-in-Err : goal.returns-in-Err
returns-in-Err c = bad_text c.args.bytes.now c.in-Err.ensures.cases.0
