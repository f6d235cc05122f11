use Rattle.std.proofs.Common.{◌+◌, ◌*◌, ◌/◌, arith}
use Rattle.key_delta.proofs.SameFields.{statuses_same}
use Rattle.key_delta.proofs.passing.statuses_passed.Goals as goal

pub returns-then-first-to-clause-same : goal.returns-then-first-to-clause-same
returns-then-first-to-clause-same c =
    statuses_same c.args.meta.now.fields c.args.old.now.words c.args.new.now.words c.args.from (2 * (c.args.from / 2 + c.same_front-same.result)) (c.value_words.result + c.args.from / 2) _ c.same_front-same.result
    (omega (arith, c.value_words.ensures)) (omega arith) c.same_front-same.ensures.within c.same_front-same.ensures.same

pub returns-else-first-to-clause-same : goal.returns-else-first-to-clause-same
returns-else-first-to-clause-same c =
    statuses_same c.args.meta.now.fields c.args.old.now.words c.args.new.now.words c.args.from c.args.to (c.value_words.result + c.args.from / 2) _ c.same_front-same.result
    (omega (arith, c.value_words.ensures)) (omega (arith, c.if-first-to.false)) c.same_front-same.ensures.within c.same_front-same.ensures.same
