use Rattle.std.proofs.Common.{refl, arith}
use Rattle.app_threads.proofs.Working.{item_at, may_do, ran_item, ran_none, ran_all}
use Rattle.app_threads.proofs.hand.run_list.Goals as goal

pub run_item-at-requires-clause-may_do : goal.run_item-at-requires-clause-may_do
run_item-at-requires-clause-may_do g c =
    may_do _ _ _ _ c.requires.can_run c.loop-k.k c.loop-k.at c.loop-k.done c.loop-k.invariant c.loop-k-test.true _ (item_at c.args.list.now c.loop-k.k _ c.loop-k-test.true)

pub run_item-at-requires-clause-few : goal.run_item-at-requires-clause-few
run_item-at-requires-clause-few g c =
    let n = c.loop-k.invariant.count in let s = c.requires.fresh.short in let t = c.loop-k-test.true in omega (arith, n, s, t)

pub loop-k-init : goal.loop-k-init
loop-k-init g c = ran_none _ _ _ _ _ _ refl refl c.requires.can_run c.requires.fresh

pub loop-k-preserved : goal.loop-k-preserved
loop-k-preserved g c =
    ran_item _ _ _ _ c.requires.can_run c.loop-k.k c.loop-k.at c.loop-k.done c.loop-k.invariant c.loop-k-test.true _ _ _ (item_at c.args.list.now c.loop-k.k _ c.loop-k-test.true) c.run_item-at.ensures

pub returns : goal.returns
returns g c = ran_all _ _ _ _ c.loop-k.k c.loop-k.at c.loop-k.done c.loop-k.invariant c.loop-k-test.false
