use Rattle.std.proofs.Common.{◌≡◌, ◌<◌, [], ◌∷◌, length, drop, arith, sym, ap, ◌∙◌, subst, length-append}
use Rattle.std.proofs.lemmas.List.{length-drop}
use Rattle.version_cell.specs.Known.{Known, nothing}
use Rattle.version_cell.specs.Passes.{Joins, SeesLawful}
use Rattle.version_cell.proofs.Each.{own_step, related_step, rest_step, next_left, found}
use Rattle.version_cell.proofs.sets.join_each.Goals as goal

pub loop-other-preserved : goal.loop-other-preserved
loop-other-preserved g c =
    let i = c.loop-other.invariant in
    let k = c.loop-other.k in
    let now = c.loop-other.passes.items in
    let y = c.join.new.pass in
    let here = next_left c.args.others.items _ k c.in-Some.other (i.left ∙ c.in-Some.ensures.steps.0) in
    let first = here.0 in
    let same = c.requires.other.count in
    let same' = i.own.count in
    let room : k < length now = omega arith in
    let mine = found now k c.index_mut-pass.result.now room c.index_mut-pass.ensures.value in
    let j = c.join.ensures.joins in
    record {
      so_far = let s = i.so_far in omega (arith, length-append c.loop-other.yielded (c.in-Some.other ∷ []));
      own = own_step now k y room c.args.cells.now i.own (j.more.cell ∙ ap (λ (p : Known). p.cell) (sym mine)) (j.more.terms ∙ ap (λ (p : Known). p.terms) (sym mine));
      joined = related_step now k y room Joins _ c.args.others.items i.joined (i.rest k (omega arith)) (subst (λ (p : Known × Known). Joins p.0 p.1 y) (λ t. (sym mine t, sym (here.1 nothing) t)) j);
      lawful = related_step now k y room (λ (_ _ p : Known). SeesLawful p) _ c.args.others.items i.lawful (i.rest k (omega arith)) c.join.ensures.lawful;
      left = here.2;
      rest = rest_step now k y room _ i.rest;
    }

pub returns-clause-lawful : goal.returns-clause-lawful
returns-clause-lawful g c =
    let i = c.loop-other.invariant in
    let others = c.args.others.items in
    let rest = c.loop-other.other-iterator.rest in
    let none : length (drop c.loop-other.k others) ≡ 0 = omega (arith, ap length i.left, rest.ok.0, c.in-None.ensures.steps.0) in
    let all = length-drop c.loop-other.k others in
    let same = c.requires.other.count in
    let count = i.own.count in
    λ s lt. i.lawful s (omega (arith, lt, count, same, none, all))
