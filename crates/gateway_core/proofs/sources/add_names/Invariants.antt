use Rattle.std.proofs.Common.{◌≡◌, ◌++◌, take, map}
use Rattle.gateway_core.proofs.sources.add_names.Given as goal

abbrev pub invariant-loop-reader : goal.invariant-loop-reader
invariant-loop-reader l = l.names.items ≡ l.fn.names.items ++ map (λ reader. reader.name) (take l.reader-index l.readers)
