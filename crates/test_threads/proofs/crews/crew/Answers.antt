use Rattle.std.proofs.Common.{sym, subst}
use Rattle.app_threads.specs.Crews.{AreReady}
use Rattle.test_threads.proofs.Within.{made_ready}
use Rattle.test_threads.proofs.crews.crew.Goals as goal

pub returns-clause-ready : goal.returns-clause-ready
returns-clause-ready c =
    let a = c.args in
    let r = c.requires in
    let lists = c.in_ok-lists in
    subst (AreReady a.bank.now a.targets.now.cells) (sym c.in_ok-crew.ensures.duties)
    (made_ready a.bank.now a.targets.now.cells a.hands.items a.looks.now lists.lists.items a.first.now a.second.now a.meta.now
    r.cells r.hands r.quotas r.meta r.first r.second r.looks r.reader lists.ensures.count lists.ensures.each)
