use Rattle.std.proofs.Common.{◌≢◌, take}
use Rattle.std.specs.Prelude.{All}
use Rattle.cases_group.proofs.turners.writes_none.Given as goal

-- none so far
abbrev pub invariant-loop-writer : goal.invariant-loop-writer
invariant-loop-writer l = All (λ writer. writer.dataset ≢ l.set) (take l.writer-index l.part.writer)
