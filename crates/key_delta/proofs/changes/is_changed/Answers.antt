use Rattle.std.proofs.Common.{take, ap}
use Rattle.key_delta.proofs.FrontLaws.{same_before}
use Rattle.key_delta.proofs.changes.is_changed.Goals as goal

pub returns-clause-changed : goal.returns-clause-changed
returns-clause-changed c = λ apart same. c.are_apart.ensures.apart apart (ap (take c.used_words-count.result) same)

pub returns-clause-same : goal.returns-clause-same
returns-clause-same c = λ none.
    let old = c.args.old.now.words in
    let new = c.args.new.now.words in
    same_before old new c.used_words-count.result (c.used_words-count.ensures.zeros old c.requires.old) (c.used_words-count.ensures.zeros new c.requires.new)
    (c.are_apart.ensures.same none)
