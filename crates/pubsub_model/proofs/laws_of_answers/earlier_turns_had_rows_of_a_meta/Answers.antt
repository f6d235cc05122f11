use Rattle.pubsub_model.proofs.AnswerRows.{rows-behind}
use Rattle.pubsub_model.proofs.laws_of_answers.earlier_turns_had_rows_of_a_meta.Goals as goal

pub returns : goal.returns
returns c = λ later before rows. rows-behind rows.0 later before rows.1
