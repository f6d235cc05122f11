use Rattle.std.proofs.Common.{◌≡◌, ℕ, List, All, subst}
use Rattle.report_laws.specs.Numbers.{LogHasNumbers}
use Rattle.session_model.specs.Deeds.{log_at}
use Rattle.gateway_core.specs.Lived.{plan_again, session_steps}
use Rattle.gateway_core.specs.Holding.{logged_of, sources_of}
use Rattle.cmd_relay.specs.Texts.{kept_by_index}
use Rattle.cmd_relay.proofs.Lining.{whole-log}
use Rattle.cmd_relay.specs.Seen.{HasVersion}
use Rattle.cmd_relay.proofs.numbers.see_writer.Goals as goal

pub returns : goal.returns
returns c = λ second lived stands.
    let from = sources_of c.args.gateway.now in
    let whole = log_at (plan_again second) c.args.g c.args.w (session_steps from lived) in
    let log : c.log-log.result.now ≡ whole =
    whole-log _ (logged_of c.args.gateway.now) c.log-log.result.now whole (c.log-log.ensures.first _ _ _ (c.writer.ensures.lived second lived stands)) c.writer.ensures.logged
    (c.writer.ensures.all c.requires.keeps second lived stands) in
    record {
      log = subst (λ (l : List (ℕ × ℕ)). LogHasNumbers l) log c.logs_have_numbers.ensures;
      versions = subst (λ (l : List (ℕ × ℕ)). All (HasVersion (kept_by_index from lived c.args.set)) l) log (c.see_versions.ensures second lived stands);
    }
