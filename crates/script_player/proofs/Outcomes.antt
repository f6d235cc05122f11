-- What is known where a call went well.
use Rattle.std.specs.Prelude.{OnOk, Result, Ok, Err}

-- two facts, also where the call's answer is handed on
pub both-ok : {T E : Type 0} (P Q : Type 0) (r : Result T E) → OnOk r P → OnOk r Q → OnOk r (P × Q)
both-ok P Q (Ok x) p q = (p, q)
both-ok P Q (Err e) p q = tt
