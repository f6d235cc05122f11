use Rattle.std.proofs.Common.{sym, ◌∙◌, ap}
use Rattle.crossbeam_utils.specs.Seq.{cell_view}
use Rattle.version_cell.specs.declared.pass.Pass.TheInside.{Inside}
use Rattle.version_cell.specs.Views.{joined}
use Rattle.version_cell.proofs.Keeps.{moves}
use Rattle.version_cell.proofs.Calls.{same_name, joined_by}
use Rattle.version_cell.proofs.cell.Cell.join.Goals as goal

pub split_pass-moved-requires : goal.split_pass-moved-requires
split_pass-moved-requires g c = record { own = same_name c.self.inside c.self.invariant _ c.self.view_is c.other.inside c.other.invariant _ c.other.view_is c.requires.other; rule = moves _ _ }

pub join_places-requires : goal.join_places-requires
join_places-requires g c =
    let given = c.split_pass-moved.ensures.given in
    let mine = same_name c.self.inside c.self.invariant _ c.self.view_is c.pass.inside c.pass.invariant _ c.pass.view_is c.requires.own in
    let theirs = same_name c.self.inside c.self.invariant _ c.self.view_is c.other.inside c.other.invariant _ c.other.view_is c.requires.other in
    record { own = mine; other = given.0 ∙ theirs ∙ sym mine; unmoved = given.2 }

pub returns-then-pass-version-clause-joins : goal.returns-then-pass-version-clause-joins
returns-then-pass-version-clause-joins g c =
    let given = c.split_pass-moved.ensures.given in
    let p' : Inside = record { place = c.join_places.new.place; version = c.other.inside.version; row = c.other.inside.row; author = c.pass.inside.author; made = c.pass.inside.made } in
    joined_by c.self.inside c.self.invariant _ c.self.view_is c.pass.inside c.pass.invariant _ c.pass.view_is c.requires.own c.other.inside c.other.invariant _ c.other.view_is c.requires.other p' (joined (cell_view c.pass.inside.place) (cell_view c.split_pass-moved.result)) c.join_places.ensures.closes.0
    (ap (joined (cell_view c.pass.inside.place)) given.1) c.join_places.ensures.closes.1 c.join_places.ensures.same

pub returns-clause-joins : goal.returns-clause-joins
returns-clause-joins g c =
    let given = c.split_pass-moved.ensures.given in
    let p' : Inside = record { place = c.join_places.new.place; version = c.pass.inside.version; row = c.pass.inside.row; author = c.pass.inside.author; made = c.pass.inside.made } in
    joined_by c.self.inside c.self.invariant _ c.self.view_is c.pass.inside c.pass.invariant _ c.pass.view_is c.requires.own c.other.inside c.other.invariant _ c.other.view_is c.requires.other p' (joined (cell_view c.pass.inside.place) (cell_view c.split_pass-moved.result)) c.join_places.ensures.closes.0
    (ap (joined (cell_view c.pass.inside.place)) given.1) c.join_places.ensures.closes.1 c.join_places.ensures.same
