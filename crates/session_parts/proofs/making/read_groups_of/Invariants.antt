use Rattle.session_parts.proofs.MadeTo.{MadeTo}
use Rattle.session_parts.proofs.Opened.{IsNewReadGroup}
use Rattle.session_parts.proofs.making.read_groups_of.Given as goal

abbrev pub invariant-loop-r : goal.invariant-loop-r
invariant-loop-r l = MadeTo (IsNewReadGroup l.config) l.r l.groups.items
