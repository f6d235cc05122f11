use Rattle.std.proofs.Common.{◌≡◌, refl, ◌∙◌, arith, length}
use Rattle.dataset_meta.specs.Metas.{start_of, value_words}
use Rattle.key_delta.proofs.SameFields.{values_same, start_last}
use Rattle.key_delta.proofs.passing.values_passed.Goals as goal

pub returns-then-begin-same-clause-same : goal.returns-then-begin-same-clause-same
returns-then-begin-same-clause-same c =
    let fields = c.args.meta.now.fields in
    let begins : c.from-begin.result ≡ start_of fields c.args.from = c.from-begin.ensures ∙ c.start.ensures in
    let all : length c.fields-count.result.now ≡ length fields = rw c.fields-count.ensures.fields refl in
    let last : start_of fields (length c.fields-count.result.now) ≡ value_words fields = rw all (start_last fields) in
    values_same fields c.args.old.now.words c.args.new.now.words c.args.from (length c.fields-count.result.now) c.from-begin.result _ c.same_front-same.result begins
    (omega (arith, last, c.if-begin-same.true, c.value_words-end.ensures)) c.same_front-same.ensures.within c.same_front-same.ensures.same

pub returns-clause-same : goal.returns-clause-same
returns-clause-same c =
    let fields = c.args.meta.now.fields in
    let begins : c.from-begin.result ≡ start_of fields c.args.from = c.from-begin.ensures ∙ c.start.ensures in
    values_same fields c.args.old.now.words c.args.new.now.words c.args.from c.field_of.result c.from-begin.result _ c.same_front-same.result begins
    (omega (arith, begins, c.field_of.ensures.begins)) c.same_front-same.ensures.within c.same_front-same.ensures.same
