use Rattle.pubsub_model.proofs.AnswerPlaces.{next-count, answers-span, place-span, data-at, next-is}
use Rattle.pubsub_model.proofs.laws_of_answers.answers_have_places_of_their_span.Goals as goal

pub returns : goal.returns
returns c = record {
  each = answers-span;
  placed = λ s deeds frame is. place-span _ _ frame (answers-span s deeds frame is);
  new = λ s before turn frame e loud. data-at _ frame loud (next-is s before turn frame e);
  next = λ s last before. next-count s before last.turn last.answer;
}
