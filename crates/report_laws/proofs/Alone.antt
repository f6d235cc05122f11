-- What follows for sessions that a report tells.
use Rattle.std.proofs.Common.{◌≡◌, ℕ, List, ◌++◌, sym, ap, ◌∙◌}
use Rattle.std.specs.Prelude.{Some}
use Rattle.std.proofs.lemmas.List.{append_cancel_left}
use Rattle.std.proofs.lemmas.Option.{same_Some}
use Rattle.ua_base.specs.Output.{appended}
use Rattle.ps_config.specs.declared.parts.Config.{Config}
use Rattle.ps_report.specs.declared.closed.Closed.{Closed}
use Rattle.ps_report.specs.Reports.{end_line, report_text}
use Rattle.report_laws.specs.Alike.{AreToldAlike}
use Rattle.report_laws.specs.Reported.{IsReported}
use Rattle.report_laws.proofs.Telling.{begins_so, begun_tells, report_tells}

pub reported_tells : (config : Config) (one other : Closed) → IsReported config one → IsReported config other
    → report_text config one ≡ report_text config other → AreToldAlike one other
reported_tells config one other is its = report_tells config one other is.names is.numbers its.numbers is.closed_of its.closed_of

pub written_tells : (config : Config) (one other : Closed) (before : List ℕ) → IsReported config one → IsReported config other
    → appended (Some before) (report_text config one) ≡ appended (Some before) (report_text config other) → AreToldAlike one other
written_tells config one other before is its same =
    reported_tells config one other is its
    (append_cancel_left before (report_text config one) (report_text config other) (same_Some (before ++ report_text config one) (before ++ report_text config other) same))

pub begins_tell : (config : Config) (one other : Closed) (front back s t : List ℕ) → IsReported config one → IsReported config other
    → front ++ end_line ≡ report_text config one → back ++ end_line ≡ report_text config other → front ++ s ≡ back ++ t → AreToldAlike one other × (s ≡ t)
begins_tell config one other front back s t is its front_is back_is same =
    begun_tells config one other s t is.names is.numbers its.numbers is.closed_of its.closed_of
    (ap (λ (l : List ℕ). l ++ s) (sym (begins_so config one front front_is)) ∙ same ∙ ap (λ (l : List ℕ). l ++ t) (begins_so config other back back_is))
