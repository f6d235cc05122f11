use Rattle.std.proofs.Common.{sym, subst, List}
use Rattle.std.proofs.lemmas.Result.{IfOk-weaker}
use Rattle.session_model.specs.Keeping.{IsPlan}
use Rattle.pubsub_engine.specs.declared.size.Append.{Append}
use Rattle.pubsub_engine.specs.Opened.{AreNewSets}
use Rattle.pubsub_engine.proofs.OpenParts.{fresh-session, fresh-stands}
use Rattle.pubsub_engine.proofs.OpenSets.{is-plan}
use Rattle.pubsub_engine.proofs.session.Session.open.Goals as goal

pub opening_with-requires-clause-writes : goal.opening_with-requires-clause-writes
opening_with-requires-clause-writes g c = record { count = c.requires.sets; small = c.requires.writes }

pub opening_with-requires-clause-sets : goal.opening_with-requires-clause-sets
opening_with-requires-clause-sets g c =
    let made = c.in_ok-sets.ensures in
    subst (λ (appends : List Append). AreNewSets c.args.config.now appends c.in_ok-sets.sets) c.as_slice.ensures.value
    (record { holds = made.holds; first = made.first; full = made.full; later = made.later; none = made.none })

pub returns-clause-plan : goal.returns-clause-plan
returns-clause-plan g c = IfOk-weaker c.opening_with.result _ _ (λ o is. is.session.plan) c.opening_with.ensures

pub returns-clause-is_plan : goal.returns-clause-is_plan
returns-clause-is_plan g c types =
    IfOk-weaker c.opening_with.result _ _
    (λ o is. subst IsPlan (sym is.session.plan) (is-plan c.args.config.now c.args.size.now.appends.items c.requires.good types c.requires.appends)) c.opening_with.ensures

pub returns-clause-session : goal.returns-clause-session
returns-clause-session g c = IfOk-weaker c.opening_with.result _ _ (λ o is. fresh-session _ _ _ o.session is.session.fresh) c.opening_with.ensures

pub returns-clause-stands : goal.returns-clause-stands
returns-clause-stands g c = IfOk-weaker c.opening_with.result _ _ (λ o is. fresh-stands _ _ _ o.session is.session.fresh) c.opening_with.ensures

pub returns-clause-left : goal.returns-clause-left
returns-clause-left g c = IfOk-weaker c.opening_with.result _ _ (λ o is. is.session.fresh.left) c.opening_with.ensures

pub returns-clause-appends : goal.returns-clause-appends
returns-clause-appends g c = IfOk-weaker c.opening_with.result _ _ (λ o is. is.session.appends) c.opening_with.ensures

pub returns-clause-bank : goal.returns-clause-bank
returns-clause-bank g c = IfOk-weaker c.opening_with.result _ _ (λ o is. is.bank) c.opening_with.ensures

pub returns-clause-cells : goal.returns-clause-cells
returns-clause-cells g c = IfOk-weaker c.opening_with.result _ _ (λ o is. is.bank.cells) c.opening_with.ensures

pub returns-clause-quotas : goal.returns-clause-quotas
returns-clause-quotas g c = IfOk-weaker c.opening_with.result _ _ (λ o is. is.quotas) c.opening_with.ensures

pub returns-clause-passes : goal.returns-clause-passes
returns-clause-passes g c = IfOk-weaker c.opening_with.result _ _ (λ o is. is.session.passes) c.opening_with.ensures

pub returns-clause-sampled : goal.returns-clause-sampled
returns-clause-sampled g c = IfOk-weaker c.opening_with.result _ _ (λ o is. is.session.sampled) c.opening_with.ensures

pub returns-clause-hands : goal.returns-clause-hands
returns-clause-hands g c = IfOk-weaker c.opening_with.result _ _ (λ o is. is.hands) c.opening_with.ensures

pub returns-clause-targets : goal.returns-clause-targets
returns-clause-targets g c = IfOk-weaker c.opening_with.result _ _ (λ o is. is.targets) c.opening_with.ensures

pub returns-clause-kept : goal.returns-clause-kept
returns-clause-kept g c = IfOk-weaker c.opening_with.result _ _ (λ o is. is.kept) c.opening_with.ensures

pub returns-clause-keeper : goal.returns-clause-keeper
returns-clause-keeper g c = IfOk-weaker c.opening_with.result _ _ (λ o is. is.session.keeper) c.opening_with.ensures

pub returns-clause-watches : goal.returns-clause-watches
returns-clause-watches g c = IfOk-weaker c.opening_with.result _ _ (λ o is. is.watches) c.opening_with.ensures

pub returns-clause-looks : goal.returns-clause-looks
returns-clause-looks g c = IfOk-weaker c.opening_with.result _ _ (λ o is. is.looks) c.opening_with.ensures
