use Rattle.std.proofs.Common.{◌≡◌, ◌++◌, List, ℕ, take}
use Rattle.std.specs.List.{flat_map, zip}
use Rattle.ps_report.specs.Lines.{cause_text}
use Rattle.ps_report.specs.Words.{cause_words}
use Rattle.ps_report.proofs.causes.put_causes.Given as goal

abbrev pub invariant-loop-i : goal.invariant-loop-i
invariant-loop-i l =
    l.out.items
    ≡ l.fn.out.items ++ flat_map (λ (cause : List ℕ × ℕ). cause_text cause.0 cause.1) (zip (take l.i cause_words) (take l.i l.counts))
