-- The text of a relay tells one first session.
use Rattle.std.proofs.Common.{◌≡◌, ℕ, List, ◌++◌, sym, ◌∙◌, append_assoc}
use Rattle.ps_config.specs.declared.parts.Config.{Config}
use Rattle.ps_report.specs.declared.closed.Closed.{Closed}
use Rattle.ps_report.specs.Reports.{end_line}
use Rattle.report_laws.specs.Alike.{AreToldAlike}
use Rattle.report_laws.specs.Reported.{IsReported}
use Rattle.report_laws.proofs.Alone.{begins_tell}
use Rattle.session_model.specs.Sends.{journal}
use Rattle.session_model.specs.Steps.{Step}
use Rattle.gateway_core.specs.declared.collected.StoreVersion.{StoreVersion}
use Rattle.gateway_core.specs.Lived.{plan_again}
use Rattle.cmd_relay.specs.Texts.{IsTextOf, link_text}

five : (a b c d e : List ℕ) → a ++ b ++ c ++ d ++ e ≡ a ++ (b ++ (c ++ (d ++ e)))
five a b c d e = simp append_assoc

pub session-told : (first second : Config) (one other : Closed) (steps others : List Step) (kept stores : ℕ → List StoreVersion) (text : List ℕ)
    → IsReported first one → IsReported first other → IsTextOf first one second steps kept text → IsTextOf first other second others stores text → AreToldAlike one other
session-told first second one other steps others kept stores text in_one in_other is its =
    let back = link_text (journal (plan_again second) steps) in
    let again = link_text (journal (plan_again second) others) in
    (begins_tell first one other is.report its.report (is.writers ++ (is.readers ++ (back ++ end_line))) (its.writers ++ (its.readers ++ (again ++ end_line))) in_one in_other is.report_is its.report_is
    (sym (five is.report is.writers is.readers back end_line) ∙ sym is.text_is ∙ its.text_is ∙ five its.report its.writers its.readers again end_line)).0
