use Rattle.std.proofs.Common.{rules, arith, refl, ◌+◌}
use Rattle.version_cell.specs.declared.pass.Pass.TheInside.{Inside}
use Rattle.version_cell.specs.Spellings.{words_of}
use Rattle.version_cell.proofs.Calls.{same_name, version_in}
use Rattle.version_cell.proofs.Stores.{made_fits, may_store, next_stands, front_stored, stored_by, lawful_stored}
use Rattle.version_cell.proofs.cell.Cell.store.Goals as goal

pub overflow_add-version : goal.overflow_add-version
overflow_add-version g c =
    let k = version_in c.self.inside c.self.invariant _ c.self.view_is c.pass.inside c.pass.invariant _ c.pass.view_is c.requires.own in
    let s = c.self.invariant.small in
    search (rules, arith, k, s)

pub overflow_add-pass : goal.overflow_add-pass
overflow_add-pass g c =
    let k = version_in c.self.inside c.self.invariant _ c.self.view_is c.pass.inside c.pass.invariant _ c.pass.view_is c.requires.own in
    let s = c.self.invariant.small in
    let m = made_fits c.self.inside c.self.invariant _ c.self.view_is c.pass.inside c.pass.invariant _ c.pass.view_is c.requires.own c.words_belong_by_shape.ensures.shape c.requires.author c.requires.sole c.requires.left c.args.row.now.words (words_of c.spelled-next.result) c.requires.row c.spelled-next.ensures in
    search (rules, arith, k, s, m)

pub swap_as-requires : goal.swap_as-requires
swap_as-requires g c = record {
  own = same_name c.self.inside c.self.invariant _ c.self.view_is c.pass.inside c.pass.invariant _ c.pass.view_is c.requires.own;
  new = next_stands c.self.inside c.self.invariant _ c.self.view_is c.pass.inside c.pass.invariant _ c.pass.view_is c.requires.own c.words_belong_by_shape.ensures.shape c.requires.author c.requires.sole c.requires.left c.args.row.now.words (words_of c.spelled-next.result) c.requires.row c.spelled-next.ensures;
  rule = may_store c.self.inside c.self.invariant _ c.self.view_is c.pass.inside c.pass.invariant _ c.pass.view_is c.requires.own c.words_belong_by_shape.ensures.shape c.requires.author c.requires.sole c.requires.left c.args.row.now.words (words_of c.spelled-next.result) c.requires.row c.spelled-next.ensures _;
}

pub invariant_of-pass : goal.invariant_of-pass
invariant_of-pass g c =
    front_stored c.self.inside c.self.invariant _ c.self.view_is c.pass.inside c.pass.invariant _ c.pass.view_is c.requires.own c.words_belong_by_shape.ensures.shape c.requires.author c.requires.sole c.requires.left c.args.row.now.words (words_of c.spelled-next.result) c.requires.row c.spelled-next.ensures _ _ c.swap_as.ensures.told.1 refl refl refl refl

pub returns-clause-stored : goal.returns-clause-stored
returns-clause-stored g c =
    let p' : Inside = record { place = c.swap_as.new.place; version = c.pass.inside.version + 1; row = c.args.row.now; author = c.pass.inside.author; made = c.pass.inside.made + 1 } in
    stored_by c.self.inside c.self.invariant _ c.self.view_is c.pass.inside c.pass.invariant _ c.pass.view_is c.requires.own c.words_belong_by_shape.ensures.shape c.requires.author c.requires.sole c.requires.left c.args.row.now.words (words_of c.spelled-next.result) c.requires.row c.spelled-next.ensures p' _ c.swap_as.ensures.told.1 c.swap_as.ensures.same

pub returns-clause-lawful : goal.returns-clause-lawful
returns-clause-lawful g c =
    let p' : Inside = record { place = c.swap_as.new.place; version = c.pass.inside.version + 1; row = c.args.row.now; author = c.pass.inside.author; made = c.pass.inside.made + 1 } in
    lawful_stored c.self.inside c.self.invariant _ c.self.view_is c.pass.inside c.pass.invariant _ c.pass.view_is c.requires.own c.words_belong_by_shape.ensures.shape c.requires.author c.requires.sole c.requires.left c.args.row.now.words (words_of c.spelled-next.result) c.requires.row c.spelled-next.ensures p' _ c.swap_as.ensures.told.1 refl refl refl refl
