use Rattle.std.proofs.Common.{arith, ◌∙◌}
use Rattle.std.proofs.lemmas.Result.{IfOk-weaker}
use Rattle.session_model.specs.Lives.{account_in, account_of, steps_in}
use Rattle.pubsub_engine.specs.Holding.{plan_of}
use Rattle.pubsub_engine.specs.Told.{TellsParts}
use Rattle.pubsub_engine.proofs.Lives.{as-stands}
use Rattle.pubsub_engine.proofs.Watched.{same-watches}
use Rattle.pubsub_engine.proofs.Whole.{are-told, closed-by, is-closed, is-closed-of, is-whole, is-whole-lived, numbers-in, passes-count}
use Rattle.pubsub_engine.proofs.session.Session.close.Goals as goal

pub returns : goal.returns
returns c =
    let s = c.args.self in
    let dones = c.args.dones.now in
    let is = c.requires.session in
    let law = c.each_held_row_has_its_number.ensures in
    record {
      closed = λ p steps stands order. IfOk-weaker c.closed_of.result (TellsParts s dones) _ (λ closed tells. is-closed law.plain p steps s dones closed tells is stands order) c.closed_of.ensures;
      whole = λ keeps p steps stands order.
          IfOk-weaker c.closed_of.result (TellsParts s dones) _ (λ closed tells. is-whole p steps s closed keeps stands (is-closed law.plain p steps s dones closed tells is stands order)) c.closed_of.ensures;
      histories = λ few. IfOk-weaker c.closed_of.result (TellsParts s dones) _ (λ closed tells set threads low authored long. tells.histories.named few set threads (omega (arith, low, passes-count s is)) authored long) c.closed_of.ensures;
      watches = λ order. IfOk-weaker c.closed_of.result (TellsParts s dones) _ (λ closed tells. tells.watches ∙ same-watches dones order) c.closed_of.ensures;
      of = IfOk-weaker c.closed_of.result (TellsParts s dones) _ (λ closed tells steps stands looks. is-closed-of steps (account_of (plan_of s) steps) s dones closed tells is (as-stands (plan_of s) steps s stands) looks) c.closed_of.ensures;
      lives = λ p life stands. IfOk-weaker c.closed_of.result (TellsParts s dones) _ (λ closed tells. closed-by p (steps_in life) (account_in p life) s dones closed tells is stands.parts) c.closed_of.ensures;
      whole_lives = λ keeps p life stands.
          IfOk-weaker c.closed_of.result (TellsParts s dones) _ (λ closed tells. is-whole-lived p life s closed keeps stands (closed-by p (steps_in life) (account_in p life) s dones closed tells is stands.parts)) c.closed_of.ensures;
      ends = λ p life stands order.
          IfOk-weaker c.closed_of.result (TellsParts s dones) _ (λ closed tells. are-told p (steps_in life) (account_in p life) s dones closed (numbers-in law.opened law.stepped p life) tells is stands.parts order) c.closed_of.ensures;
      of_lives = IfOk-weaker c.closed_of.result (TellsParts s dones) _ (λ closed tells life stands looks. is-closed-of (steps_in life) (account_in (plan_of s) life) s dones closed tells is stands.parts looks) c.closed_of.ensures;
    }
