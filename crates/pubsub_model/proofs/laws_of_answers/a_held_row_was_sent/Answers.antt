use Rattle.pubsub_model.proofs.HeldRows.{held-sent}
use Rattle.pubsub_model.proofs.BareRows.{bare-sent}
use Rattle.pubsub_model.proofs.laws_of_answers.a_held_row_was_sent.Goals as goal

pub returns : goal.returns
returns c = record {
  numbered = λ s deeds short arrivals h rows. held-sent rows.0 short s deeds arrivals h rows.1;
  unnumbered = λ s deeds short arrivals row rows. bare-sent rows.0 short s deeds arrivals row rows.1;
}
