use Rattle.std.proofs.Common.{◌≡◌, ◌++◌, take}
use Rattle.std.specs.Prelude.{map}
use Rattle.json_text.proofs.sets.push_sets.Given as goal

abbrev pub invariant-loop-writer : goal.invariant-loop-writer
invariant-loop-writer l = l.sets.items ≡ l.fn.sets.items ++ map (λ writer. (writer.id, writer.dataset)) (take l.writer-index l.writers)
