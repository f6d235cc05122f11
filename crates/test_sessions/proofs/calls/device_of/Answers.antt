use Rattle.std.proofs.Common.{◌≡◌, ℕ, ◌^◌, ◌<◌, List, [], length, get_or, sym, ap, ◌∙◌, subst, arith, lit<}
use Rattle.std.specs.Prelude.{replicate, sum}
use Rattle.std.proofs.lemmas.List.Elements.{All-cons, All-nil}
use Rattle.dataset_meta.specs.Metas.{MetaData}
use Rattle.cell_bank.specs.Hands.{AreSmall}
use Rattle.session_model.specs.Steps.{Plan}
use Rattle.pubsub_engine.specs.declared.session.Left.{Left}
use Rattle.pubsub_engine.specs.Holding.{AreAppends, full_of}
use Rattle.test_sessions.specs.Devices.{IsSmall}
use Rattle.test_sessions.proofs.Opened.{all-hands, one-bank}
use Rattle.test_sessions.proofs.calls.device_of.Goals as goal

pub open-requires-clause-ticks : goal.open-requires-clause-ticks
open-requires-clause-ticks g c = omega (arith, c.room_of-size.ensures.ticks, c.requires.few)

pub open-requires-clause-sets : goal.open-requires-clause-sets
open-requires-clause-sets g c =
    let short : length c.as_slice.result.now ≡ 1 = omega arith in
    ap (λ (l : List (List ℕ)). length l) c.room_of-size.ensures.writes ∙ sym (ap (λ (l : List MetaData). length l) (sym c.as_slice.ensures) ∙ short)

pub open-requires-clause-writes : goal.open-requires-clause-writes
open-requires-clause-writes g c =
    subst AreSmall (sym c.room_of-size.ensures.writes)
    (All-cons (λ (quotas : List ℕ). sum quotas < 2 ^ 63) (replicate 8 1) [] (lit< tt) (All-nil (λ (quotas : List ℕ). sum quotas < 2 ^ 63)))

pub open-requires-clause-appends : goal.open-requires-clause-appends
open-requires-clause-appends g c =
    let config = c.args.config.now in
    subst (AreAppends config config.dataset) (sym c.room_of-size.ensures.appends) tt

pub returns : goal.returns
returns g c =
    let config = c.args.config.now in
    let o = c.in_ok-session.field-0 in
    let e = c.in_ok-session.ensures in
    let meta = c.meta-item.result in
    let short : length c.as_slice.result.now ≡ 1 = omega arith in
    let one : length config.dataset ≡ 1 = ap (λ (l : List MetaData). length l) (sym c.as_slice.ensures) ∙ short in
    let is : meta ≡ get_or config.dataset 0 meta = rw c.as_slice.ensures at c.meta-item.is in
    let are = e.bank.metas ∙ ap (λ (p : Plan). p.full) e.plan ∙ ap (full_of config.dataset) c.room_of-size.ensures.appends in
    let cell = one-bank o.bank config.dataset meta are one is in
    let ticks = ap (λ (l : Left). l.ticks) e.left in
    record {
      session_is = e.session;
      small = subst IsSmall (sym (ap (λ (p : Plan). p.config) e.plan)) c.in_ok-expect_small.ensures;
      bank_is = e.bank;
      targets_are = e.targets;
      running = ap (λ (l : Left). l.is_closed) e.left;
      left = omega (arith, ticks, c.room_of-size.ensures.ticks);
      cell_is = cell;
      hands_are = all-hands o.bank o.hands.items cell.one e.hands;
    }
