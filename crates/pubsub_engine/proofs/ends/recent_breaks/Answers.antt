use Rattle.std.proofs.Common.{◌∙◌, sym, ap}
use Rattle.std.specs.Prelude.{reverse}
use Rattle.std.proofs.lemmas.List.{reverse-reverse}
use Rattle.pubsub_engine.proofs.ends.recent_breaks.Goals as goal

pub returns : goal.returns
returns c = λ fields. c.in-Ok.ensures.ok ∙ rw c.new-recent.ensures (sym (reverse-reverse c.recent.result.now)) ∙ ap reverse (c.recent.ensures.recent fields)
