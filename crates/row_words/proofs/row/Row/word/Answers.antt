use Rattle.std.proofs.Common.{rules}
use Rattle.row_words.proofs.ScalarLaws.{word_read}
use Rattle.row_words.proofs.row.Row.word.Goals as goal

pub returns-clause-word : goal.returns-clause-word
returns-clause-word c =
    (word_read c.args.meta.now c.args.self.now.words c.args.index c.from-2.result c.fields.ensures.meta c.requires.belongs c.requires.index c.requires.scalar (search rules)).word

pub returns-clause-value : goal.returns-clause-value
returns-clause-value c =
    (word_read c.args.meta.now c.args.self.now.words c.args.index c.from-2.result c.fields.ensures.meta c.requires.belongs c.requires.index c.requires.scalar (search rules)).value
