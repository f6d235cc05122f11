use Rattle.std.proofs.Common.{◌≡◌, map}
use Rattle.std.specs.List.{range_with_len}
use Rattle.ps_script.specs.Generated.{generated_line}
use Rattle.ps_script.proofs.generated.generated_lines.Given as goal

-- the lines so far
abbrev pub invariant-loop-index : goal.invariant-loop-index
invariant-loop-index l = l.lines.items ≡ map generated_line (range_with_len 0 l.index)
