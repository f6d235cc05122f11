use Rattle.std.proofs.Common.{ap, subst, ◌≡◌, ◌∙◌}
use Rattle.std.specs.Prelude.{IfSome, reverse}
use Rattle.dataset_reader.specs.Kept.{Kept}
use Rattle.pubsub_engine.proofs.ends.reader_end.Goals as goal

pub returns-clause-shows : goal.returns-clause-shows
returns-clause-shows c = λ meta member is_reader kept. record {
  row = c.held_end.ensures.row meta.fields ∙ ap (λ (k : Kept). k.row) kept;
  number = subst (λ (k : Kept). IfSome c.held_end.result (λ held. held.number ≡ k.number)) kept (c.held_end.ensures.number meta.fields);
  belongs = c.held_end.ensures.belongs meta is_reader;
  why = c.why.ensures meta.fields ∙ ap (λ (k : Kept). k.why) kept;
  breaks = c.breaks.ensures meta.fields ∙ ap (λ (k : Kept). k.breaks) kept;
  recent = c.recent_breaks.ensures meta.fields ∙ ap (λ (k : Kept). reverse k.recent) kept;
}
