use Rattle.std.proofs.Common.{◌≡◌, ◌++◌, take, map}
use Rattle.pubsub_engine.proofs.opening.add_sets.Given as goal

abbrev pub invariant-loop-reader : goal.invariant-loop-reader
invariant-loop-reader l = l.sets.items ≡ l.fn.sets.items ++ map (λ reader. reader.dataset) (take l.reader-index l.readers)
