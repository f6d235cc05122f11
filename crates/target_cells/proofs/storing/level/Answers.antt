use Rattle.std.proofs.Common.{◌≡◌, List, ap, subst, ◌∙◌}
use Rattle.version_cell.specs.declared.rule.Entry.{Entry}
use Rattle.version_cell.specs.Histories.{StartsWith}
use Rattle.version_cell.specs.Known.{Known}
use Rattle.version_cell.specs.Passes.{Joins}
use Rattle.target_cells.proofs.Keepers.{keeper_same, levelled}
use Rattle.target_cells.proofs.storing.level.Goals as goal

pub returns-clause-same : goal.returns-clause-same
returns-clause-same g c = c.split-stored.ensures.same ∙ keeper_same _ _ _ c.requires.sole c.join.ensures.joins c.join.ensures.lawful

pub returns-clause-level : goal.returns-clause-level
returns-clause-level g c =
    let kept = keeper_same _ _ _ c.requires.sole c.join.ensures.joins c.join.ensures.lawful in
    let given = c.split-seen.ensures.given in
    let starts : StartsWith c.args.keeper.now.seen c.args.pass.now.seen =
    subst (λ (x : List Entry × List Entry). StartsWith x.0 x.1) (λ i. ((kept i).seen, (given i).seen)) c.join.ensures.joins.other_too in
    let told : c.split-stored.result.seen ≡ c.args.keeper.now.seen = ap (λ (k : Known). k.seen) c.split-stored.ensures.given ∙ ap (λ (k : Known). k.seen) kept in
    levelled c.args.keeper.now c.args.pass.now c.split-stored.result _ starts told (subst (λ (k : Known). Joins k c.split-stored.result c.join-2.new.pass) c.split-seen.ensures.same c.join-2.ensures.joins)
