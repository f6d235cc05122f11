use Rattle.std.proofs.Common.{◌≡◌, List, ℕ, Err, subst}
use Rattle.ps_script.specs.Scripts.{script}
use Rattle.cmd_base.proofs.script.script_in.Goals as goal

pub returns-in-Err-Refused-clause-ends : goal.returns-in-Err-Refused-clause-ends
returns-in-Err-Refused-clause-ends g c =
    let refused = rw c.in-Err-Refused.field-0-is at c.in-Err-Refused.ensures.refused in
    record {
      bytes = c.in-Ok.bytes.items;
      read = c.in-Ok.ensures.bytes;
      judged = λ reader. subst (λ (l : List ℕ). script reader c.args.config.now l c.args.fates ≡ Err (c.in-Err-Refused.line, c.in-Err-Refused.fault)) c.deref.ensures.value (refused reader);
    }
