use Rattle.ps_script.specs.Texts.{words_of}
use Rattle.ps_script.proofs.Said.{value_next, value_bad, value_end}
use Rattle.ps_script.proofs.changes.has_bad_value.Goals as goal

pub returns-then-gives_nothing : goal.returns-then-gives_nothing
returns-then-gives_nothing c = λ reader.
    value_bad reader c.args.meta.now.quality c.args.meta.now.fields (words_of c.words.rest.now) (words_of c.in-Some.behind.now) c.in-Some.word.now c.gives_nothing.result _ (c.words.invariant reader) c.in-Some.ensures.words (c.gives_nothing.ensures reader) c.if-gives_nothing.true

pub words-preserved : goal.words-preserved
words-preserved c = λ reader.
    value_next reader c.args.meta.now.quality c.args.meta.now.fields (words_of c.words.rest.now) (words_of c.in-Some.behind.now) c.in-Some.word.now c.gives_nothing.result _ (c.words.invariant reader) c.in-Some.ensures.words (c.gives_nothing.ensures reader) c.if-gives_nothing.false

pub returns : goal.returns
returns c = λ reader.
    value_end reader c.args.meta.now.quality c.args.meta.now.fields (words_of c.words.rest.now) _ (c.words.invariant reader) c.in_default.ensures.words
