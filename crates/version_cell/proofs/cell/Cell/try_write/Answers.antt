use Rattle.std.proofs.Common.{rules, arith, refl, ◌+◌, slice_index}
use Rattle.version_cell.specs.declared.pass.Pass.TheInside.{Inside}
use Rattle.version_cell.specs.Spellings.{words_of}
use Rattle.version_cell.proofs.Calls.{same_name, version_in, row_fits, is_patch, front_stands, next_stands, may_exchange, front_won, tried_won, lawful_won, front_lost, tried_lost}
use Rattle.version_cell.proofs.cell.Cell.try_write.Goals as goal

pub lay-requires : goal.lay-requires
lay-requires g c = record {
  of = is_patch c.self.inside c.self.invariant _ c.self.view_is c.pass.inside c.pass.invariant _ c.pass.view_is c.requires.own c.args.patch.now c.requires.patch;
  belongs = row_fits c.self.inside c.self.invariant _ c.self.view_is c.pass.inside c.pass.invariant _ c.pass.view_is c.requires.own (record { by_shape = c.words_belong_by_shape.ensures.shape; zeros = c.words_belong_by_shape.ensures.zeros; laid = c.patched_words_belong.ensures.shape });
}

pub overflow_add-pass-inside : goal.overflow_add-pass-inside
overflow_add-pass-inside g c =
    let k = version_in c.self.inside c.self.invariant _ c.self.view_is c.pass.inside c.pass.invariant _ c.pass.view_is c.requires.own in
    let s = c.self.invariant.small in
    search (rules, arith, k, s)

pub compare_exchange_as-requires : goal.compare_exchange_as-requires
compare_exchange_as-requires g c = record {
  own = same_name c.self.inside c.self.invariant _ c.self.view_is c.pass.inside c.pass.invariant _ c.pass.view_is c.requires.own;
  current = front_stands c.self.inside c.self.invariant _ c.self.view_is c.pass.inside c.pass.invariant _ c.pass.view_is c.requires.own c.args.patch.now c.requires.patch (record { by_shape = c.words_belong_by_shape.ensures.shape; zeros = c.words_belong_by_shape.ensures.zeros; laid = c.patched_words_belong.ensures.shape }) c.in-Some.author c.lay.new.row.words (words_of c.spelled-front.result) (words_of c.spelled-next.result) c.in-Some.is c.if-pass-quota.false c.lay.ensures.words c.spelled-front.ensures c.spelled-next.ensures;
  new = next_stands c.self.inside c.self.invariant _ c.self.view_is c.pass.inside c.pass.invariant _ c.pass.view_is c.requires.own c.args.patch.now c.requires.patch (record { by_shape = c.words_belong_by_shape.ensures.shape; zeros = c.words_belong_by_shape.ensures.zeros; laid = c.patched_words_belong.ensures.shape }) c.in-Some.author c.lay.new.row.words (words_of c.spelled-front.result) (words_of c.spelled-next.result) c.in-Some.is c.if-pass-quota.false c.lay.ensures.words c.spelled-front.ensures c.spelled-next.ensures;
  rule = may_exchange c.self.inside c.self.invariant _ c.self.view_is c.pass.inside c.pass.invariant _ c.pass.view_is c.requires.own c.args.patch.now c.requires.patch (record { by_shape = c.words_belong_by_shape.ensures.shape; zeros = c.words_belong_by_shape.ensures.zeros; laid = c.patched_words_belong.ensures.shape }) c.in-Some.author c.lay.new.row.words (words_of c.spelled-front.result) (words_of c.spelled-next.result) c.in-Some.is c.if-pass-quota.false c.lay.ensures.words c.spelled-front.ensures c.spelled-next.ensures _;
}

pub invariant_of-pass : goal.invariant_of-pass
invariant_of-pass g c =
    let r = c.in-Ok.ensures.told in
    front_won c.self.inside c.self.invariant _ c.self.view_is c.pass.inside c.pass.invariant _ c.pass.view_is c.requires.own c.args.patch.now c.requires.patch (record { by_shape = c.words_belong_by_shape.ensures.shape; zeros = c.words_belong_by_shape.ensures.zeros; laid = c.patched_words_belong.ensures.shape }) c.in-Some.author c.lay.new.row.words (words_of c.spelled-front.result) (words_of c.spelled-next.result) c.in-Some.is c.if-pass-quota.false c.lay.ensures.words c.spelled-front.ensures c.spelled-next.ensures _ r.0 r.1 r.2 refl refl refl refl

pub invariant_of-pass-in-Err : goal.invariant_of-pass-in-Err
invariant_of-pass-in-Err g c =
    let r = c.in-Err.ensures.told in
    front_lost c.self.inside c.self.invariant _ c.self.view_is c.pass.inside c.pass.invariant _ c.pass.view_is c.requires.own c.args.patch.now c.requires.patch (record { by_shape = c.words_belong_by_shape.ensures.shape; zeros = c.words_belong_by_shape.ensures.zeros; laid = c.patched_words_belong.ensures.shape }) c.in-Some.author c.lay.new.row.words (words_of c.spelled-front.result) (words_of c.spelled-next.result) c.in-Some.is c.if-pass-quota.false c.lay.ensures.words c.spelled-front.ensures c.spelled-next.ensures _ c.in-Err.words r.0 r.1 refl c.row_in-pass-inside.ensures refl refl

pub returns-in-Ok-clause-tried : goal.returns-in-Ok-clause-tried
returns-in-Ok-clause-tried g c =
    let r = c.in-Ok.ensures.told in
    let p' : Inside = record { place = c.compare_exchange_as.new.place; version = c.pass.inside.version + 1; row = c.lay.new.row; author = c.pass.inside.author; made = c.pass.inside.made + 1 } in
    tried_won c.self.inside c.self.invariant _ c.self.view_is c.pass.inside c.pass.invariant _ c.pass.view_is c.requires.own c.args.patch.now c.requires.patch (record { by_shape = c.words_belong_by_shape.ensures.shape; zeros = c.words_belong_by_shape.ensures.zeros; laid = c.patched_words_belong.ensures.shape }) c.in-Some.author c.lay.new.row.words (words_of c.spelled-front.result) (words_of c.spelled-next.result) c.in-Some.is c.if-pass-quota.false c.lay.ensures.words c.spelled-front.ensures c.spelled-next.ensures p' r.0 r.1 r.2 refl refl refl refl c.compare_exchange_as.ensures.same

pub returns-in-Err-clause-tried : goal.returns-in-Err-clause-tried
returns-in-Err-clause-tried g c =
    let r = c.in-Err.ensures.told in
    let p' : Inside = record { place = c.compare_exchange_as.new.place; version = slice_index c.in-Err.words 0; row = c.row_in-pass-inside.result; author = c.pass.inside.author; made = c.pass.inside.made } in
    tried_lost c.self.inside c.self.invariant _ c.self.view_is c.pass.inside c.pass.invariant _ c.pass.view_is c.requires.own c.args.patch.now c.requires.patch (record { by_shape = c.words_belong_by_shape.ensures.shape; zeros = c.words_belong_by_shape.ensures.zeros; laid = c.patched_words_belong.ensures.shape }) c.in-Some.author c.lay.new.row.words (words_of c.spelled-front.result) (words_of c.spelled-next.result) c.in-Some.is c.if-pass-quota.false c.lay.ensures.words c.spelled-front.ensures c.spelled-next.ensures p' c.in-Err.words r.0 r.1 refl c.row_in-pass-inside.ensures refl refl c.compare_exchange_as.ensures.same

pub returns-in-Ok-clause-lawful : goal.returns-in-Ok-clause-lawful
returns-in-Ok-clause-lawful g c =
    let r = c.in-Ok.ensures.told in
    let p' : Inside = record { place = c.compare_exchange_as.new.place; version = c.pass.inside.version + 1; row = c.lay.new.row; author = c.pass.inside.author; made = c.pass.inside.made + 1 } in
    lawful_won c.self.inside c.self.invariant _ c.self.view_is c.pass.inside c.pass.invariant _ c.pass.view_is c.requires.own c.args.patch.now c.requires.patch (record { by_shape = c.words_belong_by_shape.ensures.shape; zeros = c.words_belong_by_shape.ensures.zeros; laid = c.patched_words_belong.ensures.shape }) c.in-Some.author c.lay.new.row.words (words_of c.spelled-front.result) (words_of c.spelled-next.result) c.in-Some.is c.if-pass-quota.false c.lay.ensures.words c.spelled-front.ensures c.spelled-next.ensures p' r.0 r.1 r.2 refl refl refl refl
