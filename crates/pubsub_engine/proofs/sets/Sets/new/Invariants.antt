use Rattle.pubsub_engine.proofs.OpenSets.{HaveMade}
use Rattle.pubsub_engine.proofs.sets.Sets.new.Given as goal

abbrev pub invariant-loop-append : goal.invariant-loop-append
invariant-loop-append l = HaveMade l.config l.appends l.append-index l.full.items l.later.items
