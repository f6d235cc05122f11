use Rattle.value_texts.proofs.TextLaws.{text_once}
use Rattle.value_texts.proofs.laws.a_word_is_a_text_of_one_value.Goals as goal

pub returns : goal.returns
returns c = text_once
