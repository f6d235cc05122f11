use Rattle.std.proofs.Common.{subst, ◌∙◌}
use Rattle.std.specs.Prelude.{◌++◌, List, ℕ}
use Rattle.crossbeam_utils.specs.Seq.{cell_view}
use Rattle.version_cell.specs.declared.rule.View.{View}
use Rattle.version_cell.specs.Steps.{Closes}
use Rattle.version_cell.proofs.Keeps.{merges, closes}
use Rattle.version_cell.proofs.places.join_places.Goals as goal

pub join_pass-requires : goal.join_pass-requires
join_pass-requires g c = record { own = (c.requires.own, c.requires.other, c.requires.unmoved); rule = merges _ _ _ _ }

pub load_as-requires : goal.load_as-requires
load_as-requires g c = record { own = c.join_pass.ensures.0.0 ∙ c.requires.own; rule = closes _ _ }

pub returns-clause-same : goal.returns-clause-same
returns-clause-same g c = (c.load_as.ensures.same.0 ∙ c.join_pass.ensures.0.0, c.load_as.ensures.same.1 ∙ c.join_pass.ensures.0.1)

pub returns-clause-closes : goal.returns-clause-closes
returns-clause-closes g c =
    let found : List ℕ = c.load_as.new.head ++ c.load_as.new.row.words in
    (found, subst (λ (v : View). Closes v found found (cell_view c.load_as.new.place)) c.join_pass.ensures.1 c.load_as.ensures.told)
