-- A tick may come: what is left has room for it.
use Rattle.std.proofs.Common.{arith, ℕ, ◌+◌, ◌*◌, ◌^◌, ◌<◌, ◌≤◌, Bool, true, false}
use Rattle.session_model.specs.Counts.{most_ms}
use Rattle.gateway_core.specs.declared.gateway.Gateway.{Gateway}
use Rattle.gateway_core.specs.Holding.{MayTick, ticks_needed}

needs-one : (closing : Bool) → 1 ≤ ticks_needed closing
needs-one true = omega arith
needs-one false = omega arith

pub one-left : (ms : ℕ) (closing : Bool) (s : Gateway) → MayTick ms closing s → 1 ≤ s.left.ticks
one-left ms closing s may = omega (arith, needs-one closing, may.left)

-- the moment that the tick comes to is a number of 64 bits
pub moment-fits : (ms : ℕ) (closing : Bool) (s : Gateway) → MayTick ms closing s → s.round.moment + ms < 2 ^ 64
moment-fits ms closing s may = fits s.round.moment s.left.ticks may.gateway.time (one-left ms closing s may) may.short
  where
    fits : (moment left : ℕ) → moment + left * most_ms < 2 ^ 64 → 1 ≤ left → ms ≤ most_ms → moment + ms < 2 ^ 64
    fits moment left time one short = omega (arith, time, one, short)
