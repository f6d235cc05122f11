use Rattle.std.proofs.Common.{Bool, true, false, sym, ◌∙◌}
use Rattle.std.specs.Bool.{OnTrue}
use Rattle.cases_link.proofs.fates.+are_fates.Goals as goal

on_true : (b : Bool) (P Q : Type 0) → (P → Q) → OnTrue b P → OnTrue b Q
on_true true P Q then p = then p
on_true false P Q then p = tt

pub returns-else-names : goal.returns-else-names
returns-else-names t c =
    rw c.in-Some.ensures.cases.0 (on_true c.are_fates.result _ _ (λ rest. (c.if-not-is_fate.ensures, sym c.names.ensures ∙ c.if-names.false, rest)) c.are_fates.ensures)
