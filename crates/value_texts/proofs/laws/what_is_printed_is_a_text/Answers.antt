use Rattle.value_texts.proofs.TextLaws.{printed_is_text}
use Rattle.value_texts.proofs.laws.what_is_printed_is_a_text.Goals as goal

pub returns : goal.returns
returns c = printed_is_text
