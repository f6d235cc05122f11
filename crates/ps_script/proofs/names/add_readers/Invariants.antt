use Rattle.std.proofs.Common.{◌≡◌, ◌++◌, map, drop}
use Rattle.ps_script.proofs.names.add_readers.Given as goal

-- the names so far, and those that are left
abbrev pub invariant-loop-reader : goal.invariant-loop-reader
invariant-loop-reader l =
    l.names.items ++ map (λ reader. reader.name) (drop l.reader-index l.readers) ≡ l.fn.names.items ++ map (λ reader. reader.name) l.readers
