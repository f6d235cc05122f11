use Rattle.std.proofs.Common.{◌≤◌, take, length, sym, ◌∙◌, arith}
use Rattle.std.proofs.lemmas.List.{take_all}
use Rattle.key_delta.proofs.FrontLaws.{not_less, is_less}
use Rattle.key_delta.proofs.passing.are_apart_from.Goals as goal

pub returns-clause-apart : goal.returns-clause-apart
returns-clause-apart c = λ less. c.same_behind.ensures.apart (is_less c.same_behind.result (length c.args.one.now) less)

pub returns-clause-same : goal.returns-clause-same
returns-clause-same c = λ none.
    let one = c.args.one.now in
    let other = c.args.other.now in
    let all : length one ≤ c.same_behind.result = not_less c.same_behind.result (length one) none in
    sym (take_all c.same_behind.result one all) ∙ c.same_behind.ensures.same ∙ take_all c.same_behind.result other (omega (arith, all, c.requires.long))
