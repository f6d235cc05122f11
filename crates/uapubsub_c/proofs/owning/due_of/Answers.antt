use Rattle.std.proofs.lemmas.Option.{none-some}
use Rattle.uapubsub_c.proofs.owning.due_of.Goals as goal

pub returns-in-None : goal.returns-in-None
returns-in-None c = record {
  none_waits = λ waits. none-some c.args.now (c.in-None.ensures.waits waits);
  never = c.in-None.ensures.first;
}
