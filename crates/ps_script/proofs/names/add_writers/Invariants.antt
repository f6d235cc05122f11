use Rattle.std.proofs.Common.{◌≡◌, ◌++◌, map, drop}
use Rattle.ps_script.proofs.names.add_writers.Given as goal

-- the names so far, and those that are left
abbrev pub invariant-loop-writer : goal.invariant-loop-writer
invariant-loop-writer l =
    l.names.items ++ map (λ writer. writer.name) (drop l.writer-index l.writers) ≡ l.fn.names.items ++ map (λ writer. writer.name) l.writers
