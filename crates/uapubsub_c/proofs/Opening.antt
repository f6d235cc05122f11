-- A handle that was opened, or wasn't for want of memory.
use Rattle.std.proofs.Common.{◌≡◌, ℕ, List, Result, Ok, Err, IfErr, IfOk, subst, sym}
use Rattle.uapubsub_c.specs.Opening.{IsUnopened, Opens}
use Rattle.uapubsub_c.specs.declared.handle.Handle.{Handle}
use Rattle.uapubsub_c.specs.declared.status.Status.{Status}
use Rattle.uapubsub_c.specs.declared.status.Status.TheVariants.{Memory}

pub opens-kept : (holds : Handle → Type 0) (text : List ℕ) (old new : Handle) (answer : Result Unit Status) → old.is_open ≡ 0
    → IfOk answer (λ value. holds new) → IfErr answer (λ status. new ≡ old) → IfErr answer (λ status. status ≡ Memory) → Opens holds text old new answer
opens-kept holds text old new (Ok value) shut held same memory = (shut, held)
opens-kept holds text old new (Err status) shut held same memory = (same, subst (IsUnopened text old) (sym memory) tt)
