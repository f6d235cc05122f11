use Rattle.std.proofs.Common.{◌≡◌, List, Vec, length, sym, ap, subst, ◌∙◌}
use Rattle.std.specs.declared.alloc.Global.{Global}
use Rattle.app_threads.specs.declared.item.Item.{Item}
use Rattle.app_threads.specs.declared.done.Done.{Done}
use Rattle.app_threads.specs.Duties.{Duty}
use Rattle.app_threads.specs.Crews.{AreAtEnd, AreAtStart, AreDone, AreReady}
use Rattle.app_threads.proofs.Starting.{at_start, at_end, written_back}
use Rattle.app_threads.proofs.crew.Crew.run.Goals as goal

pub run_beside-out-requires-clause-start : goal.run_beside-out-requires-clause-start
run_beside-out-requires-clause-start g c _ _ =
    let bank = c.args.bank.now in
    let targets = c.args.targets.now.cells in
    subst (λ (x : List (Vec Item Global) × List Done). AreAtStart bank targets x.0 x.1) (λ i. (sym c.deref.ensures.value i, sym c.deref_mut.ensures.value i))
    (at_start bank targets c.self.inside.lists.items c.self.inside.dones.items c.self.invariant (subst (AreReady bank targets) (sym c.self.view_is) c.requires.ready))

pub returns-clause-done : goal.returns-clause-done
returns-clause-done g c =
    let bank = c.args.bank.now in
    let targets = c.args.targets.now.cells in
    let lists = c.self.inside.lists.items in
    let old = c.self.inside.dones in
    let new = c.run_beside-out.new.dones in
    let count : length new ≡ length old.items = c.run_beside-out.ensures.count ∙ ap (λ (l : List Done). length l) c.deref_mut.ensures.value in
    let done : AreAtEnd bank targets lists old.items new =
    subst (λ (x : List (Vec Item Global) × List Done). AreAtEnd bank targets x.0 x.1 new) (λ i. (c.deref.ensures.value i, c.deref_mut.ensures.value i)) c.run_beside-out.ensures.done in
    subst (AreDone bank targets c.args.self) (sym (written_back old.len new old.items count (sym old.ok.0)))
    (subst (λ (duties : List Duty). AreDone bank targets duties new) c.self.view_is (at_end bank targets lists old.items new c.self.invariant.count count done))
