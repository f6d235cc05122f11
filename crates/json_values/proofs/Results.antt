-- A call has one answer.
use Rattle.std.proofs.Common.{◌≡◌, Result, Ok, Err, sym, ◌∙◌}

pub err_ok : {X E : Type 0} (r : Result X E) (x : X) (e : E) → r ≡ Err e → r ≡ Ok x → ⊥
err_ok r x e err ok = let same : Err e ≡ Ok x = sym err ∙ ok in cc

pub same_ok : {X E : Type 0} (r : Result X E) (x y : X) → r ≡ Ok x → r ≡ Ok y → x ≡ y
same_ok r x y is so = let e : Ok x ≡ Ok y = sym is ∙ so in cc
