use Rattle.std.specs.Prelude.{IsSome}
use Rattle.json_tap.specs.Keeping.{opened_if}
use Rattle.json_tap.specs.Taps.{link_of, is_open}
use Rattle.cases_json.proofs.sending.send_all.Given as goal

-- it stays open
abbrev pub invariant-loop-datagram : goal.invariant-loop-datagram
invariant-loop-datagram g l = IsSome (opened_if (is_open l.tap) (g.L.Link.opened_with (link_of l.tap)))
