use Rattle.std.proofs.Common.{sym, ap, ◌∙◌}
use Rattle.crossbeam_utils.specs.Seq.{cell_view}
use Rattle.version_cell.specs.declared.rule.View.{View}
use Rattle.version_cell.specs.Views.{joined, settled}
use Rattle.version_cell.proofs.Keeps.{copies}
use Rattle.version_cell.proofs.making.take_in.Goals as goal

pub split_pass-told-requires : goal.split_pass-told-requires
split_pass-told-requires g c = record { own = c.requires.other; rule = copies _ _ }

pub join_places-requires : goal.join_places-requires
join_places-requires g c =
    let given = c.split_pass-told.ensures.given in
    record { own = c.requires.own; other = given.0 ∙ c.requires.other ∙ sym c.requires.own; unmoved = given.2 }

pub returns-clause-view : goal.returns-clause-view
returns-clause-view g c =
    c.join_places.ensures.closes.1.rest ∙ ap (λ (v : View). settled (joined (cell_view c.args.place.now) v)) c.split_pass-told.ensures.given.1
