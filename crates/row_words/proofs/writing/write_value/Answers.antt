use Rattle.row_words.proofs.ValueLaws.{scalar_value, scalar_written}
use Rattle.row_words.proofs.writing.write_value.Goals as goal

pub returns-in_default-clause-words : goal.returns-in_default-clause-words
returns-in_default-clause-words c =
    scalar_written c.args.cap c.args.value.now c.args.words.now _ (scalar_value c.args.value.now c.in_default.not-String c.in_default.not-ByteString c.in_default.not-Guid) c.requires c.scalar_word.ensures.word
