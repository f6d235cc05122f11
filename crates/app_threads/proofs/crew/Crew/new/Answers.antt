use Rattle.std.proofs.Common.{◌≡◌, ℕ, ◌<◌, List, [], ◌∷◌, length, map, sym, ap, subst, ◌∙◌, arith, length-append}
use Rattle.std.specs.Prelude.{slice_index_or}
use Rattle.version_cell.specs.Passes.{shared_by}
use Rattle.version_cell.proofs.Each.{next_left}
use Rattle.app_threads.specs.declared.item.Item.{Item}
use Rattle.app_threads.specs.declared.done.Done.{Done}
use Rattle.app_threads.specs.Crews.{IsFresh, list_of}
use Rattle.app_threads.proofs.Starting.{all_left, list_at, push_each, same_duties}
use Rattle.app_threads.proofs.crew.Crew.new.Goals as goal

pub loop-passes-preserved : goal.loop-passes-preserved
loop-passes-preserved c =
    let i = c.loop-passes.invariant in
    let t = c.loop-passes.t in
    let here = next_left c.args.hands.items _ t c.in-Some.passes (i.left ∙ c.in-Some.ensures.steps.0) in
    let first = here.0 in
    let same = c.requires.count in
    let within : t < length c.args.lists.items = omega (arith, first, same) in
    let list = list_at c.args.lists.items t c.index-list.result.now within c.index-list.ensures in
    let done = c.in_ok-done.done in
    let pushed = c.in_ok-push.ensures.items in
    let watches = c.in_ok-done.ensures.watches ∙ c.in_ok-watches.ensures.given ∙ ap (map shared_by) i.looks in
    record {
      within = omega (arith, first);
      so_far = let s = i.so_far in omega (arith, s, length-append c.loop-passes.yielded (c.in-Some.passes ∷ []));
      left = here.2;
      count = let n = ap length pushed in let m = length-append c.loop-passes.dones.items (done ∷ []) in let k = i.count in omega (arith, n, m, k);
      looks = c.split.ensures.same ∙ i.looks;
      fresh = push_each (λ (s : ℕ) (d : Done). IsFresh s (list_of c.args.lists.items s) d) c.loop-passes.dones.items _ done t i.count pushed i.fresh
          (subst (λ (l : List Item). IsFresh t l done) (c.deref.ensures.value ∙ sym list) c.in_ok-done.ensures.fresh);
      handed = push_each (λ (s : ℕ) (d : Done). (d.passes ≡ slice_index_or c.args.hands.items s []) × (d.watches ≡ map shared_by c.args.looks.now)) c.loop-passes.dones.items _ done t i.count pushed i.handed
          (c.in_ok-done.ensures.passes ∙ sym (here.1 []), watches);
    }

pub invariant_of-result : goal.invariant_of-result
invariant_of-result c =
    let i = c.loop-passes.invariant in
    let rest = c.loop-passes.passes-iterator.rest in
    let none : length rest.items ≡ 0 = let n = c.in-None.ensures.steps.0 in let o = rest.ok.0 in omega (arith, n, o) in
    let all = all_left c.args.hands.items rest.items c.loop-passes.t i.left none in
    let same = c.requires.count in
    let w = i.within in
    let n = i.count in
    record {
      count = omega (arith, n, all, w, same);
      each = λ t none lt. i.fresh t none (omega (arith, lt, all, same));
    }

pub returns-clause-duties : goal.returns-clause-duties
returns-clause-duties c =
    let i = c.loop-passes.invariant in
    let rest = c.loop-passes.passes-iterator.rest in
    let none : length rest.items ≡ 0 = let n = c.in-None.ensures.steps.0 in let o = rest.ok.0 in omega (arith, n, o) in
    let all = all_left c.args.hands.items rest.items c.loop-passes.t i.left none in
    let same = c.requires.count in
    let w = i.within in
    let n = i.count in
    same_duties c.args.lists.items c.loop-passes.dones.items c.args.hands.items (map shared_by c.args.looks.now) (omega (arith, n, all, w, same)) same
    (λ t none lt. i.handed t none (omega (arith, lt, all, same)))
