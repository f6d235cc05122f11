-- Texts that are put one behind another.
use Rattle.std.proofs.Common.{◌≡◌, ℕ, List, subst}
use Rattle.ua_binary.specs.declared.pen.Pen.{Pen}
use Rattle.ua_binary.specs.Writing.{Puts}

pub Puts-same : (a b : Pen) (x y : List ℕ) → Puts a b x → x ≡ y → Puts a b y
Puts-same a b x y put same = subst (λ (text : List ℕ). Puts a b text) same put
