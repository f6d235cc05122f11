use Rattle.frame_codec.proofs.WordLaws.{words-fit, words-of, words-back, words-one}
use Rattle.frame_codec.proofs.laws.frames_have_one_meaning.Goals as goal

pub returns-clause-meaning : goal.returns-clause-meaning
returns-clause-meaning c = words-fit

pub returns-clause-words : goal.returns-clause-words
returns-clause-words c = words-of

pub returns-clause-back : goal.returns-clause-back
returns-clause-back c = words-back

pub returns-clause-one : goal.returns-clause-one
returns-clause-one c = words-one
