use Rattle.std.proofs.Common.{◌≡◌, take}
use Rattle.std.specs.Prelude.{sum}
use Rattle.session_model.specs.Answers.{counted}
use Rattle.cmd_lanes.proofs.text.total.Given as goal

abbrev pub invariant-loop-count : goal.invariant-loop-count
invariant-loop-count l = l.total ≡ counted (sum (take l.count-index l.sent))
