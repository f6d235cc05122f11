use Rattle.ps_script.proofs.Said.{some_words}
use Rattle.ps_script.specs.Texts.{words_of}
use Rattle.ps_script.proofs.writes.has_words.Goals as goal

pub returns-in-Some : goal.returns-in-Some
returns-in-Some c = λ yes_. some_words (words_of c.args.line.now) _ _ c.in-Some.ensures.words
