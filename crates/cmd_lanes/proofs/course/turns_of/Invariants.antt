use Rattle.cmd_lanes.proofs.Bounds.{IsUnderway}
use Rattle.cmd_lanes.proofs.course.turns_of.Given as goal

abbrev pub invariant-loop-line : goal.invariant-loop-line
invariant-loop-line l = IsUnderway l.config l.script l.line-index l.course
