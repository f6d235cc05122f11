use Rattle.std.proofs.Common.{◌≡◌, ◌++◌, false, take}
use Rattle.cmd_keys.specs.Texts.{key_lines}
use Rattle.cmd_keys.proofs.text.put_keys.Given as goal

abbrev pub invariant-loop-set : goal.invariant-loop-set
invariant-loop-set l = l.out.items ≡ l.fn.out.items ++ key_lines false (take l.set-index l.sets)
