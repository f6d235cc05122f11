use Rattle.std.proofs.Common.{◌≡◌, take}
use Rattle.script_runner.specs.Lists.{items_by}
use Rattle.script_runner.proofs.lists.list_of.Given as goal

-- the items of the lines so far
abbrev pub invariant-loop-line : goal.invariant-loop-line
invariant-loop-line l = l.list.items ≡ items_by l.thread (take l.line-index l.script.lines)
