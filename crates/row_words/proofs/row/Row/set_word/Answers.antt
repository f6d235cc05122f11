use Rattle.std.proofs.Common.{rules}
use Rattle.row_words.proofs.ScalarLaws.{word_written}
use Rattle.row_words.proofs.row.Row.set_word.Goals as goal

pub returns-clause-belongs : goal.returns-clause-belongs
returns-clause-belongs c =
    (word_written c.args.meta.now c.args.self.now.words c.args.index c.from-2.result c.args.word c.fields.ensures.meta c.requires.belongs c.requires.index c.requires.word (search rules)).belongs

pub returns-clause-set : goal.returns-clause-set
returns-clause-set c =
    (word_written c.args.meta.now c.args.self.now.words c.args.index c.from-2.result c.args.word c.fields.ensures.meta c.requires.belongs c.requires.index c.requires.word (search rules)).set
