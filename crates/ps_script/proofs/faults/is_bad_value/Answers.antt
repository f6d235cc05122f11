use Rattle.std.proofs.Common.{◌≡◌, Some, sym, ap, ◌∙◌, subst}
use Rattle.ps_script.specs.declared.verbs.Verb.{Verb}
use Rattle.ps_script.specs.declared.verbs.Verb.TheVariants as verb
use Rattle.ps_script.specs.Past.{done_by}
use Rattle.ps_script.specs.Faults.{is_bad_value}
use Rattle.ps_script.proofs.faults.is_bad_value.Goals as goal

pub returns-in-Some-Write : goal.returns-in-Some-Write
returns-in-Some-Write c = λ reader.
    let write = rw c.in-Some-Write.is at c.in-Some-Write.field-0-is in
    let is : c.args.verb ≡ Some verb.Write = subst (λ (v : Verb). c.args.verb ≡ Some v) write c.in-Some-Write.is in
    c.has_bad_write.ensures reader ∙ sym (ap (is_bad_value reader (done_by c.args.past.now) c.args.line.now) is)
