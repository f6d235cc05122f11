use Rattle.std.specs.Int.{w32, to_be_bytes}
use Rattle.std.proofs.lemmas.Fmt.{IsAscii-decimal}
use Rattle.value_texts.proofs.AsciiTexts.{hex_ascii, printed_ascii, text_ascii}
use Rattle.value_texts.proofs.laws.texts_are_ascii.Goals as goal

pub returns-clause-values : goal.returns-clause-values
returns-clause-values c = text_ascii

pub returns-clause-printed : goal.returns-clause-printed
returns-clause-printed c = printed_ascii

pub returns-clause-statuses : goal.returns-clause-statuses
returns-clause-statuses c = λ status. hex_ascii (to_be_bytes w32 status)

pub returns-clause-numbers : goal.returns-clause-numbers
returns-clause-numbers c = IsAscii-decimal
